use Rattle.std.proofs.Common.{◌≡◌, ◌∙◌, ◌++◌, ◌∷◌, ℕ, List, length, ap, arith}
use Rattle.der_lite.specs.Der.{tlv}
use Rattle.payloads.proofs.ManifestSpellings.{file_members_bytes, members_few, file_added}
use Rattle.payloads.proofs.manifest_writing.add_file.Goals as goal

pub ia5-requires : goal.ia5-requires
ia5-requires c = omega (arith, ap (λ (l : List ℕ). length l) c.name.ensures, c.requires)

pub bits-requires : goal.bits-requires
bits-requires c = omega (arith, ap (λ (l : List ℕ). length l) (c.as_slice.ensures ∙ c.hash.ensures.value), c.hash.ensures.long)

pub sequence-requires : goal.sequence-requires
sequence-requires c =
    let file = c.args.file.now in
    let same : c.as_slice-2.result.now ≡ file_members_bytes file.name file.hash =
    c.as_slice-2.ensures ∙ c.in_ok-bits.ensures
    ∙ ap (λ (l : List ℕ). l ++ tlv 3 (0 ∷ c.as_slice.result.now)) (c.in_ok-ia5.ensures ∙ ap (λ (l : List ℕ). l ++ tlv 22 c.name.result.now) c.new-members.ensures)
    ∙ ap (λ (l : List ℕ). tlv 22 l ++ tlv 3 (0 ∷ c.as_slice.result.now)) c.name.ensures
    ∙ ap (λ (l : List ℕ). tlv 22 file.name ++ tlv 3 (0 ∷ l)) (c.as_slice.ensures ∙ c.hash.ensures.value) in
    omega (arith, ap (λ (l : List ℕ). length l) same, members_few file.name file.hash c.requires c.hash.ensures.long)

pub returns : goal.returns
returns c =
    let file = c.args.file.now in
    let same : c.as_slice-2.result.now ≡ file_members_bytes file.name file.hash =
    c.as_slice-2.ensures ∙ c.in_ok-bits.ensures
    ∙ ap (λ (l : List ℕ). l ++ tlv 3 (0 ∷ c.as_slice.result.now)) (c.in_ok-ia5.ensures ∙ ap (λ (l : List ℕ). l ++ tlv 22 c.name.result.now) c.new-members.ensures)
    ∙ ap (λ (l : List ℕ). tlv 22 l ++ tlv 3 (0 ∷ c.as_slice.result.now)) c.name.ensures
    ∙ ap (λ (l : List ℕ). tlv 22 file.name ++ tlv 3 (0 ∷ l)) (c.as_slice.ensures ∙ c.hash.ensures.value) in
    file_added c.sequence.result c.args.list.now c.sequence.new.self c.as_slice-2.result.now file c.hash.ensures.long same c.sequence.ensures
