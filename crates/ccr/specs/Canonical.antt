-- The canonical form of the VRPs of a cache (draft-ietf-sidrops-rpki-ccr, as rpki-client 9.9 writes it).
use Rattle.std.specs.Prelude.{ℕ, nat_lt, ◌==◌, if◌then◌else◌, List, [], ◌∷◌, Option, Some, None, filter, map}
use Rattle.std.specs.List.{flat_map}
use Rattle.der_lite.specs.Der.{SEQUENCE, tlv}
use Rattle.prefixes.specs.Payload.{Payload, block_of}
use Rattle.payloads.specs.declared.roa_entry.RoaEntry.{RoaEntry}
use Rattle.payloads.specs.RoaBytes.{roa_bytes}
use Rattle.vrps.specs.VrpSet.{VrpSet, listing}

-- RFC 9582 section 4.3.2.2: the maximum length is left out if it is the length of the prefix
abbrev pub needed_maximum : Payload → Option ℕ
needed_maximum v = if v.max_len == (block_of v.prefix).len then None else Some v.max_len

-- RFC 9582 section 4.3.2: ROAIPAddress
abbrev pub entry_of : Payload → RoaEntry
entry_of v = record { prefix = v.prefix; max_len = needed_maximum v }

-- ROAPayloadSet: the DER of the RouteOriginAttestation of an AS, with an entry for each of its VRPs
unfoldable pub payload_set : ℕ → List Payload → List ℕ
payload_set asn vs = roa_bytes (record { asn = asn; entries = map entry_of vs })

-- the VRPs of an AS, in their order
abbrev pub of_as : ℕ → List Payload → List Payload
of_as asn vs = filter (λ v. v.asn == asn) vs

-- a number in its place among ascending ones, once
abbrev pub with_number : ℕ → List ℕ → List ℕ
with_number n [] = n ∷ []
with_number n (m ∷ ms) = if nat_lt n m then n ∷ m ∷ ms else if n == m then m ∷ ms else m ∷ with_number n ms

-- the AS numbers of VRPs, ascending, each once
abbrev pub as_numbers : List Payload → List ℕ
as_numbers [] = []
as_numbers (v ∷ vs) = with_number v.asn (as_numbers vs)

-- the ROAPayloadSet of each AS, in ascending order
unfoldable pub payload_sets : List Payload → List ℕ
payload_sets vs = flat_map (λ asn. payload_set asn (of_as asn vs)) (as_numbers vs)

-- ROAPayloadState: rps SEQUENCE OF ROAPayloadSet, of the VRPs of a set, which lists them by family (IPv4 first), address, length and maximum length
unfoldable pub canonical : VrpSet → List ℕ
canonical s = tlv SEQUENCE (payload_sets (listing s))
