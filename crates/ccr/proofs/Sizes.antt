-- How many bytes a ROAPayloadSet has.
use Rattle.std.proofs.Common.{ℕ, ◌+◌, ◌*◌, ◌<◌, ◌≤◌, List, ◌++◌, length, map, arith, length-append}
use Rattle.std.proofs.lemmas.List.{length-map}
use Rattle.der_lite.specs.Der.{tlv}
use Rattle.der_lite.specs.Values.{unsigned_bytes}
use Rattle.der_lite.proofs.NumberBytes.{tlv_length, unsigned_few}
use Rattle.prefixes.specs.Payload.{Payload}
use Rattle.payloads.specs.RoaBytes.{families_bytes, roa_bytes}
use Rattle.payloads.proofs.RoaSpellings.{family_few, list_few}
use Rattle.ccr.specs.declared.family.Family.TheVariants.{Ipv4, Ipv6}
use Rattle.ccr.specs.Families.{addresses_of, element_of, family_content}
use Rattle.ccr.specs.Canonical.{entry_of, payload_set}
use Rattle.payloads.specs.RoaReading.{family_in}

pub families_few : (vs : List Payload) → length (families_bytes (map entry_of vs)) ≤ 40 + 80 * length vs
families_few vs =
    let es = map entry_of vs in
    let ipv4 = family_in (family_content Ipv4) in
    let ipv6 = family_in (family_content Ipv6) in
    omega (
      arith,
      length-append (element_of Ipv4 (addresses_of Ipv4 es)) (element_of Ipv6 (addresses_of Ipv6 es)),
      family_few ipv4 (addresses_of Ipv4 es),
      family_few ipv6 (addresses_of Ipv6 es),
      list_few ipv4 es,
      list_few ipv6 es,
      length-map vs entry_of,
    )

-- the members of a set
abbrev pub set_members : ℕ → List Payload → List ℕ
set_members asn vs = tlv 2 (unsigned_bytes asn) ++ tlv 48 (families_bytes (map entry_of vs))

pub members_few : (asn : ℕ) (vs : List Payload) → length (set_members asn vs) ≤ 60 + 80 * length vs
members_few asn vs =
    let families = families_bytes (map entry_of vs) in
    omega (arith, length-append (tlv 2 (unsigned_bytes asn)) (tlv 48 families), tlv_length 2 (unsigned_bytes asn), unsigned_few asn, tlv_length 48 families, families_few vs)

pub set_few : (asn : ℕ) (vs : List Payload) → 0 < length vs → length (payload_set asn vs) ≤ 200 * length vs
unfolding payload_set roa_bytes
set_few asn vs some = omega (arith, some, tlv_length 48 (set_members asn vs), members_few asn vs)
