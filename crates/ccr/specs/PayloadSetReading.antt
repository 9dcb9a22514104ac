-- Reading a ROAPayloadSet over what the reads of a cursor give.
use Rattle.std.specs.Prelude.{ℕ, List, map, Option, Some, None, option_map}
use Rattle.std.specs.List.{last_or}
use Rattle.der_lite.specs.Decoding.{Read, ReadAll, read_member, read_each}
use Rattle.der_lite.specs.Fields.{sequence_at, last_at, optional_at}
use Rattle.der_forms.specs.Combinators.{no_rules}
use Rattle.der_forms.specs.CombinatorReading.{told_at}
use Rattle.prefixes.specs.Payload.{Payload}
use Rattle.prefixes.specs.declared.asn.Asn.{Asn}
use Rattle.payloads.specs.declared.roa_entry.RoaEntry.{RoaEntry}
use Rattle.payloads.specs.Roa.{not_empty, Family, Blocks}
use Rattle.payloads.specs.RoaReading.{as_id_at, address_family_at, entry_at}
use Rattle.payloads.specs.RoaEntries.{payload_of}
use Rattle.payloads.specs.RoaValues.{RoaValue, flat}
use Rattle.ccr.specs.Families.{RoaFamily}
use Rattle.ccr.specs.PayloadSet.{order_rules, as_of}

-- the payloads of these entries of an AS
abbrev pub payloads_from : ℕ → List RoaEntry → List Payload
payloads_from asn entries = map (payload_of asn) entries

-- the number of an AS, if there is one
abbrev pub number_of : Option Asn → Option ℕ
number_of asn = option_map (λ a. a.0) asn

abbrev pub entry_behind_at : RoaFamily → List RoaEntry → Read RoaEntry
entry_behind_at family before = entry_at family 0 (last_or None before)

unfoldable pub entries_at : RoaFamily → ReadAll (List RoaEntry)
entries_at family = read_each (entry_behind_at family)

unfoldable pub addresses_at : RoaFamily → Read (List RoaEntry)
addresses_at family = sequence_at not_empty (entries_at family) no_rules

unfoldable pub ip_family_at : Option RoaFamily → Read Family
ip_family_at before = sequence_at no_rules (read_member (address_family_at before) (λ family. last_at (addresses_at family))) no_rules

-- a second family if bytes remain, and the end
unfoldable pub second_at : RoaFamily → ReadAll (Option Family)
second_at first = optional_at (ip_family_at (Some first))

unfoldable pub blocks_at : Read Blocks
blocks_at = sequence_at not_empty (read_member (ip_family_at None) (λ first. second_at first.0)) no_rules

unfoldable pub set_members_at : ReadAll RoaValue
set_members_at = told_at flat (read_member as_id_at (λ asn. last_at blocks_at))

unfoldable pub payload_set_at : Option ℕ → Read RoaValue
payload_set_at before = sequence_at no_rules set_members_at (order_rules before)

-- a set after those before it
abbrev pub set_behind_at : List RoaValue → Read RoaValue
set_behind_at before = payload_set_at (as_of (last_or None before))
