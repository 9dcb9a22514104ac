use Rattle.std.proofs.Common.{◌≡◌, ◌∙◌, ◌++◌, ◌<◌, ◌^◌, ℕ, List, length, subst, sym, ap, arith}
use Rattle.der_lite.specs.Der.{tlv}
use Rattle.der_lite.specs.Values.{unsigned_bytes}
use Rattle.payloads.specs.declared.roa_entry.RoaEntry.{RoaEntry}
use Rattle.payloads.specs.RoaBytes.{families_bytes, roa_bytes}
use Rattle.payloads.specs.RoaValues.{RoaValue, RoaSpells}
use Rattle.payloads.proofs.DecodingLaws.{value_of}
use Rattle.payloads.proofs.RoaSpellings.{few_entries, families_few, roa_members, members_short, value_spells}
use Rattle.payloads.proofs.roa_writing.encode_roa.Goals as goal

pub families-requires : goal.families-requires
families-requires c = few_entries c.entries-entries.result.now c.entries-entries.ensures.right.right

pub sequence-requires : goal.sequence-requires
sequence-requires c =
    let es = c.entries-entries.result.now in
    let same : c.as_slice.result.now ≡ families_bytes es = c.as_slice.ensures ∙ c.in_ok-families.ensures in
    omega (arith, ap (λ (l : List ℕ). length l) same, families_few es (few_entries es c.entries-entries.ensures.right.right))

pub sequence-requires-2 : goal.sequence-requires-2
sequence-requires-2 c =
    let es = c.entries-entries.result.now in
    let value = value_of c.asn.result.0 es in
    let same : c.as_slice-2.result.now ≡ roa_members value =
    c.as_slice-2.ensures ∙ c.in_ok-sequence.ensures
    ∙ ap (λ (l : List ℕ). l ++ tlv 48 c.as_slice.result.now) (c.in_ok-unsigned.ensures ∙ ap (λ (l : List ℕ). l ++ tlv 2 (unsigned_bytes c.asn.result.0)) c.new-members.ensures)
    ∙ ap (λ (l : List ℕ). tlv 2 (unsigned_bytes c.asn.result.0) ++ tlv 48 l) (c.as_slice.ensures ∙ c.in_ok-families.ensures) in
    omega (arith, ap (λ (l : List ℕ). length l) same, members_short value (few_entries es c.entries-entries.ensures.right.right))

pub returns : goal.returns
unfolding roa_bytes
returns c =
    let es = c.entries-entries.result.now in
    let asn = c.asn.result.0 in
    let value = value_of asn es in
    let same : c.as_slice-2.result.now ≡ roa_members value =
    c.as_slice-2.ensures ∙ c.in_ok-sequence.ensures
    ∙ ap (λ (l : List ℕ). l ++ tlv 48 c.as_slice.result.now) (c.in_ok-unsigned.ensures ∙ ap (λ (l : List ℕ). l ++ tlv 2 (unsigned_bytes asn)) c.new-members.ensures)
    ∙ ap (λ (l : List ℕ). tlv 2 (unsigned_bytes asn) ++ tlv 48 l) (c.as_slice.ensures ∙ c.in_ok-families.ensures) in
    let bytes : c.into_bytes.result.items ≡ roa_bytes value =
    c.into_bytes.ensures ∙ c.in_ok-sequence-2.ensures ∙ ap (λ (l : List ℕ). l ++ tlv 48 c.as_slice-2.result.now) c.new-payload.ensures ∙ ap (λ (l : List ℕ). tlv 48 l) same in
    let number : asn < 2 ^ 32 = omega (arith, c.asn.type_inv) in
    let value_is : value ≡ c.args.roa.now = ap (λ (n : ℕ). value_of n es) c.asn.ensures ∙ ap (λ (l : List RoaEntry). value_of c.args.roa.now.asn l) c.entries-entries.ensures.value in
    subst (λ (roa : RoaValue). RoaSpells roa c.into_bytes.result.items) value_is
    (subst (λ (l : List ℕ). RoaSpells value l) (sym bytes) (value_spells asn es number c.entries-entries.ensures.right.right c.know_prefixes.ensures))
