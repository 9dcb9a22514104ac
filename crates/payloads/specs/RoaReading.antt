-- Reading the payload of a ROA over what the reads of a cursor give.
use Rattle.std.specs.Prelude.{ℕ, ◌+◌, ◌==◌, ◌&&◌, ◌||◌, Bool, nat_lt, if◌then◌else◌, List, [], ◌∷◌, ◌++◌, length, slice_index, Option, Some, None, Result, Ok, Err}
use Rattle.std.specs.List.{last_or}
use Rattle.der_lite.specs.Place.{Fault, place_of}
use Rattle.der_lite.specs.Der.{number, bit_count, tag_of}
use Rattle.der_lite.specs.Values.{is_negative, bits_value}
use Rattle.der_lite.specs.DerReading.{integer_at, bits_at, octets_at}
use Rattle.der_lite.specs.Decoding.{Read, ReadAll, read_member, read_each}
use Rattle.der_lite.specs.Fields.{field_at, sequence_at, last_at, optional_at, valued_at}
use Rattle.prefixes.specs.Payload.{block_of, width_of}
use Rattle.prefixes.specs.declared.prefix.IpPrefix.{IpPrefix}
use Rattle.payloads.specs.declared.roa_family.AddressFamily.{AddressFamily}
use Rattle.payloads.specs.declared.roa_family.AddressFamily.TheVariants.{Ipv4, Ipv6}
use Rattle.payloads.specs.declared.roa_entry.RoaEntry.{RoaEntry}
use Rattle.payloads.specs.Roa.{no_rules, family_rules, family_width, of_bits, needed_rules, too_many_rules, order_rules, not_empty, Family, Blocks, RoaTree}

-- a version that is there is its own fault
abbrev pub version_fault : Bool → Fault → Fault
version_fault has_version f = if has_version && f.number == 2 then record { number = 6; offset = f.offset } else f

-- a read at a place that may hold a version instead
abbrev pub with_version : {V : Type 0} → Bool → Result V Fault → Result V Fault
with_version has_version (Ok x) = Ok x
with_version has_version (Err f) = Err (version_fault has_version f)

-- an integer's number lies from least to most
abbrev pub range_rules : ℕ → ℕ → ℕ → List ℕ → List (ℕ × Bool)
range_rules least most fault content = (fault, is_negative content || nat_lt (number content) least || nat_lt most (number content)) ∷ []

unfoldable pub as_id_at : Read ℕ
as_id_at p = field_at (with_version (tag_of p.rest == 160) (integer_at p)) p.at (range_rules 0 4294967295 7) number

-- the family of a content that is one
abbrev pub family_in : List ℕ → AddressFamily
family_in content = if slice_index content 1 == 1 then Ipv4 else Ipv6

unfoldable pub address_family_at : Option AddressFamily → Read AddressFamily
address_family_at before p = field_at (octets_at p) p.at (family_rules before) family_in

-- the prefix of a bit string's content
abbrev pub prefix_in : AddressFamily → List ℕ → IpPrefix
prefix_in family content = of_bits family (bits_value content)

unfoldable pub address_at : AddressFamily → Read IpPrefix
address_at family p = field_at (bits_at p) p.at (λ content. (10, nat_lt (family_width family) (bit_count content)) ∷ []) (prefix_in family)

unfoldable pub max_length_at : IpPrefix → Read ℕ
max_length_at prefix p = field_at (integer_at p) p.at (λ content. range_rules (block_of prefix).len (width_of prefix) 11 content ++ needed_rules prefix content) number

-- a maximum if bytes remain, and the end
unfoldable pub maximum_at : IpPrefix → ReadAll (Option ℕ)
maximum_at prefix = optional_at (max_length_at prefix)

-- an entry of its parts
abbrev pub entry_of : IpPrefix × Option ℕ → RoaEntry
entry_of parts = record { prefix = parts.0; max_len = parts.1 }

unfoldable pub entry_at : AddressFamily → ℕ → Option RoaEntry → Read RoaEntry
entry_at family count before = sequence_at (too_many_rules count) (valued_at entry_of (read_member (address_at family) maximum_at)) (order_rules before)

-- an entry behind those before it in its family, and this many of other families
abbrev pub entry_behind_at : AddressFamily → ℕ → List RoaEntry → Read RoaEntry
entry_behind_at family count before = entry_at family (count + length before) (last_or None before)

unfoldable pub entries_at : AddressFamily → ℕ → ReadAll (List RoaEntry)
entries_at family count = read_each (entry_behind_at family count)

unfoldable pub addresses_at : AddressFamily → ℕ → Read (List RoaEntry)
addresses_at family count = sequence_at not_empty (entries_at family count) no_rules

unfoldable pub ip_family_at : Option AddressFamily → ℕ → Read Family
ip_family_at before count = sequence_at no_rules (read_member (address_family_at before) (λ family. last_at (addresses_at family count))) no_rules

unfoldable pub blocks_at : Read Blocks
blocks_at = sequence_at not_empty (read_member (ip_family_at None 0) (λ first. optional_at (ip_family_at (Some first.0) (length first.1)))) no_rules

unfoldable pub attestation_at : Read RoaTree
attestation_at = sequence_at no_rules (read_member as_id_at (λ asn. last_at blocks_at)) no_rules

-- the tree that the bytes spell, or the first fault
unfoldable pub payload_at : List ℕ → Result RoaTree Fault
payload_at bytes = last_at attestation_at (place_of 0 bytes)
