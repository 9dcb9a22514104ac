use Rattle.std.proofs.Common.{◌≡◌, ◌∙◌, ◌++◌, ℕ, List, length, map, ap, arith}
use Rattle.der_lite.specs.Der.{tlv}
use Rattle.der_lite.specs.Values.{unsigned_bytes}
use Rattle.payloads.specs.RoaBytes.{families_bytes, roa_bytes}
use Rattle.payloads.proofs.RoaSpellings.{adds_same}
use Rattle.ccr.specs.Canonical.{entry_of, payload_set}
use Rattle.ccr.proofs.Sizes.{families_few, members_few, set_members}
use Rattle.ccr.proofs.payload_set.add_payload_set.Goals as goal

pub sequence-requires : goal.sequence-requires
sequence-requires c =
    let vs = c.args.vrps.now in
    let same : c.as_slice.result.now ≡ families_bytes (map entry_of vs) = c.as_slice.ensures ∙ c.in_ok-families.ensures in
    omega (arith, ap (λ (l : List ℕ). length l) same, families_few vs, c.requires)

pub sequence-requires-2 : goal.sequence-requires-2
sequence-requires-2 c =
    let vs = c.args.vrps.now in
    let asn = c.args.asn.0 in
    let same : c.as_slice-2.result.now ≡ set_members asn vs =
    c.as_slice-2.ensures ∙ c.in_ok-sequence.ensures
    ∙ ap (λ (l : List ℕ). l ++ tlv 48 c.as_slice.result.now) (c.in_ok-unsigned.ensures ∙ ap (λ (l : List ℕ). l ++ tlv 2 (unsigned_bytes asn)) c.new-members.ensures)
    ∙ ap (λ (l : List ℕ). tlv 2 (unsigned_bytes asn) ++ tlv 48 l) (c.as_slice.ensures ∙ c.in_ok-families.ensures) in
    omega (arith, ap (λ (l : List ℕ). length l) same, members_few asn vs, c.requires)

pub returns : goal.returns
unfolding payload_set roa_bytes
returns c =
    let vs = c.args.vrps.now in
    let asn = c.args.asn.0 in
    let same : c.as_slice-2.result.now ≡ set_members asn vs =
    c.as_slice-2.ensures ∙ c.in_ok-sequence.ensures
    ∙ ap (λ (l : List ℕ). l ++ tlv 48 c.as_slice.result.now) (c.in_ok-unsigned.ensures ∙ ap (λ (l : List ℕ). l ++ tlv 2 (unsigned_bytes asn)) c.new-members.ensures)
    ∙ ap (λ (l : List ℕ). tlv 2 (unsigned_bytes asn) ++ tlv 48 l) (c.as_slice.ensures ∙ c.in_ok-families.ensures) in
    adds_same c.sequence-2.result 48 c.as_slice-2.result.now c.args.sets.now c.sequence-2.new.self _ (ap (λ (l : List ℕ). tlv 48 l) same) c.sequence-2.ensures
