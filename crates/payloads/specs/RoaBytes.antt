-- The bytes of a ROA, element by element (RFC 9582 section 4). They are the one spelling of each value that has one.
use Rattle.std.specs.Prelude.{ℕ, ◌+◌, ◌-◌, ◌*◌, ◌/◌, Bool, true, false, ◌==◌, if◌then◌else◌, List, [], ◌∷◌, ◌++◌, length, take, Option, Some, None}
use Rattle.der_lite.specs.Der.{BIT_STRING, INTEGER, OCTET_STRING, SEQUENCE, base_256, tlv}
use Rattle.der_lite.specs.Values.{unsigned_bytes}
use Rattle.prefixes.specs.Address.{Block}
use Rattle.prefixes.specs.Payload.{block_of, width_of}
use Rattle.prefixes.specs.declared.prefix.IpPrefix.{IpPrefix}
use Rattle.prefixes.specs.declared.prefix.IpPrefix.TheVariants.{V4, V6}
use Rattle.payloads.specs.declared.roa_family.AddressFamily.{AddressFamily}
use Rattle.payloads.specs.declared.roa_family.AddressFamily.TheVariants.{Ipv4, Ipv6}
use Rattle.payloads.specs.declared.roa_entry.RoaEntry.{RoaEntry}
use Rattle.payloads.specs.Roa.{family_number}
use Rattle.payloads.specs.RoaValues.{RoaValue}

-- how many bytes hold this many bits
abbrev pub bytes_of_bits : ℕ → ℕ
bytes_of_bits count = (count + 7) / 8

-- RFC 9582 section 4.3.2.1: how many bits of the last byte are not used, and the first bytes of an address that has this many
abbrev pub first_bytes : ℕ → Block → List ℕ
first_bytes octets block = (8 * bytes_of_bits block.len - block.len) ∷ take (bytes_of_bits block.len) (base_256 octets block.addr)

-- address BIT STRING
unfoldable pub address_content : IpPrefix → List ℕ
address_content prefix = first_bytes (width_of prefix / 8) (block_of prefix)

-- RFC 9582 section 4.3.2.2: maxLength INTEGER OPTIONAL
abbrev pub maximum_bytes : Option ℕ → List ℕ
maximum_bytes None = []
maximum_bytes (Some maximum) = tlv INTEGER (unsigned_bytes maximum)

-- RFC 9582 section 4.3.2: address and maxLength
unfoldable pub entry_bytes : RoaEntry → List ℕ
entry_bytes entry = tlv SEQUENCE (tlv BIT_STRING (address_content entry.prefix) ++ maximum_bytes entry.max_len)

-- the prefix is of the family
abbrev pub is_of : AddressFamily → IpPrefix → Bool
is_of Ipv4 (V4 p) = true
is_of Ipv4 (V6 p) = false
is_of Ipv6 (V4 p) = false
is_of Ipv6 (V6 p) = true

-- the entries of a family, in their order
abbrev pub list_bytes : AddressFamily → List RoaEntry → List ℕ
list_bytes family [] = []
list_bytes family (entry ∷ entries) = (if is_of family entry.prefix then entry_bytes entry else []) ++ list_bytes family entries

-- RFC 9582 section 4.3.1: addressFamily and the list of its addresses; nothing if the list is empty
unfoldable pub family_bytes : AddressFamily → List ℕ → List ℕ
family_bytes family list = if length list == 0 then [] else tlv SEQUENCE (tlv OCTET_STRING (0 ∷ family_number family ∷ []) ++ tlv SEQUENCE list)

-- RFC 9582 section 4.3: IPv4, and then IPv6
abbrev pub families_bytes : List RoaEntry → List ℕ
families_bytes entries = family_bytes Ipv4 (list_bytes Ipv4 entries) ++ family_bytes Ipv6 (list_bytes Ipv6 entries)

-- 4: asID and ipAddrBlocks
unfoldable pub roa_bytes : RoaValue → List ℕ
roa_bytes roa = tlv SEQUENCE (tlv INTEGER (unsigned_bytes roa.asn) ++ tlv SEQUENCE (families_bytes roa.entries))
