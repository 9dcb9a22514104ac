use Rattle.std.proofs.Common.{◌≡◌, ◌∙◌, ◌++◌, ℕ, List, [], length, subst, sym, ap, arith}
use Rattle.std.specs.List.{All}
use Rattle.der_lite.specs.Der.{tlv}
use Rattle.payloads.specs.Manifest.{ManifestSpells}
use Rattle.payloads.specs.ManifestBytes.{files_bytes, front_bytes, manifest_bytes}
use Rattle.payloads.specs.ManifestRefusal.{HasHash, HasShortName}
use Rattle.payloads.proofs.ManifestSpellings.{is_right, short_names, list_short, whole_members, members_short, value_spells}
use Rattle.payloads.proofs.manifest_writing.encode_manifest.Goals as goal

pub files-requires-2 : goal.files-requires-2
files-requires-2 c =
    let right = is_right c.args.manifest.now c.files.ensures.right.right in
    subst (All HasShortName) (sym c.files.ensures.value) (short_names [] c.args.manifest.now.files right.files)

pub sequence-requires : goal.sequence-requires
sequence-requires c =
    let files = c.args.manifest.now.files in
    let right = is_right c.args.manifest.now c.files.ensures.right.right in
    let same : c.as_slice.result.now ≡ files_bytes files = c.as_slice.ensures ∙ c.in_ok-files.ensures.0 ∙ ap files_bytes c.files.ensures.value in
    let long = subst (All HasHash) c.files.ensures.value c.in_ok-files.ensures.1 in
    omega (arith, ap (λ (l : List ℕ). length l) same, list_short files right.files long)

pub sequence-requires-2 : goal.sequence-requires-2
sequence-requires-2 c =
    let m = c.args.manifest.now in
    let right = is_right m c.files.ensures.right.right in
    let list : c.as_slice.result.now ≡ files_bytes m.files = c.as_slice.ensures ∙ c.in_ok-files.ensures.0 ∙ ap files_bytes c.files.ensures.value in
    let same : c.as_slice-2.result.now ≡ whole_members m =
    c.as_slice-2.ensures ∙ c.in_ok-sequence.ensures ∙ ap (λ (l : List ℕ). l ++ tlv 48 c.as_slice.result.now) c.in_ok-members.ensures.bytes ∙ ap (λ (l : List ℕ). front_bytes m ++ tlv 48 l) list in
    let long = subst (All HasHash) c.files.ensures.value c.in_ok-files.ensures.1 in
    omega (arith, ap (λ (l : List ℕ). length l) same, members_short m right long)

pub returns : goal.returns
unfolding manifest_bytes
returns c =
    let m = c.args.manifest.now in
    let list : c.as_slice.result.now ≡ files_bytes m.files = c.as_slice.ensures ∙ c.in_ok-files.ensures.0 ∙ ap files_bytes c.files.ensures.value in
    let same : c.as_slice-2.result.now ≡ whole_members m =
    c.as_slice-2.ensures ∙ c.in_ok-sequence.ensures ∙ ap (λ (l : List ℕ). l ++ tlv 48 c.as_slice.result.now) c.in_ok-members.ensures.bytes ∙ ap (λ (l : List ℕ). front_bytes m ++ tlv 48 l) list in
    let bytes : c.into_bytes.result.items ≡ manifest_bytes m =
    c.into_bytes.ensures ∙ c.in_ok-sequence-2.ensures ∙ ap (λ (l : List ℕ). l ++ tlv 48 c.as_slice-2.result.now) c.new-payload.ensures ∙ ap (λ (l : List ℕ). tlv 48 l) same in
    let long = subst (All HasHash) c.files.ensures.value c.in_ok-files.ensures.1 in
    subst (ManifestSpells m) (sym bytes) (value_spells m c.in_ok-members.ensures.real.0 c.in_ok-members.ensures.real.1 long c.files.ensures.right.right)
