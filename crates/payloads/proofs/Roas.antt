-- Reading the payload of a ROA is exact.
use Rattle.std.proofs.Common.{ℕ, ◌+◌, Option, Some, None, length, refl}
use Rattle.std.specs.List.{last_or}
use Rattle.der_lite.specs.Grammar.{last, optional, each, member}
use Rattle.der_lite.specs.Decoding.{read_member}
use Rattle.der_lite.specs.Fields.{last_at, optional_at, valued_at}
use Rattle.der_lite.proofs.Exact.{ExactElement, ExactMembers, exact_member, exact_each}
use Rattle.der_lite.proofs.FieldLaws.{exact_sequence, exact_last_at, exact_optional_at, exact_valued}
use Rattle.payloads.specs.declared.roa_family.AddressFamily.{AddressFamily}
use Rattle.payloads.specs.declared.roa_entry.RoaEntry.{RoaEntry}
use Rattle.payloads.specs.Roa.{no_rules, as_id, address_family, address, max_length, entry_parts, too_many_rules, order_rules, entry_members, ip_address, not_empty, entry_behind, addresses, ip_family, ip_addr_blocks, route_origin_attestation, roa_payload}
use Rattle.payloads.specs.RoaReading.{as_id_at, address_family_at, address_at, max_length_at, maximum_at, entry_of, entry_at, entry_behind_at, entries_at, addresses_at, ip_family_at, blocks_at, attestation_at}
use Rattle.payloads.proofs.RoaFields.{exact_as_id, exact_address_family, exact_address, exact_max_length}

pub exact_entry : (family : AddressFamily) (count : ℕ) (before : Option RoaEntry) → ExactElement (ip_address family count before) (entry_at family count before)
unfolding ip_address entry_at maximum_at
exact_entry family count before =
    exact_sequence (too_many_rules count) (entry_members family) (valued_at entry_of (read_member (address_at family) maximum_at)) (order_rules before)
    (exact_valued entry_of entry_parts (λ _. refl) (λ _. refl) (member (address family) (λ prefix. optional (max_length prefix))) (read_member (address_at family) maximum_at)
    (exact_member (address family) (address_at family) (exact_address family) (λ prefix. optional (max_length prefix)) maximum_at
    (λ prefix. exact_optional_at (max_length prefix) (max_length_at prefix) (exact_max_length prefix))))

pub exact_addresses : (family : AddressFamily) (count : ℕ) → ExactElement (addresses family count) (addresses_at family count)
unfolding addresses addresses_at entries_at
exact_addresses family count =
    exact_sequence not_empty (each (entry_behind family count)) (entries_at family count) no_rules
    (exact_each (entry_behind family count) (entry_behind_at family count) (λ before. exact_entry family (count + length before) (last_or None before)))

pub exact_ip_family : (before : Option AddressFamily) (count : ℕ) → ExactElement (ip_family before count) (ip_family_at before count)
unfolding ip_family ip_family_at
exact_ip_family before count =
    exact_sequence no_rules (member (address_family before) (λ family. last (addresses family count))) (read_member (address_family_at before) (λ family. last_at (addresses_at family count))) no_rules
    (exact_member (address_family before) (address_family_at before) (exact_address_family before) (λ family. last (addresses family count)) (λ family. last_at (addresses_at family count))
    (λ family. exact_last_at (addresses family count) (addresses_at family count) (exact_addresses family count)))

pub exact_blocks : ExactElement ip_addr_blocks blocks_at
unfolding ip_addr_blocks blocks_at
exact_blocks =
    exact_sequence not_empty (member (ip_family None 0) (λ first. optional (ip_family (Some first.0) (length first.1)))) (read_member (ip_family_at None 0) (λ first. optional_at (ip_family_at (Some first.0) (length first.1)))) no_rules
    (exact_member (ip_family None 0) (ip_family_at None 0) (exact_ip_family None 0) (λ first. optional (ip_family (Some first.0) (length first.1))) (λ first. optional_at (ip_family_at (Some first.0) (length first.1)))
    (λ first. exact_optional_at (ip_family (Some first.0) (length first.1)) (ip_family_at (Some first.0) (length first.1)) (exact_ip_family (Some first.0) (length first.1))))

pub exact_attestation : ExactElement route_origin_attestation attestation_at
unfolding route_origin_attestation attestation_at
exact_attestation =
    exact_sequence no_rules (member as_id (λ asn. last ip_addr_blocks)) (read_member as_id_at (λ asn. last_at blocks_at)) no_rules
    (exact_member as_id as_id_at exact_as_id (λ asn. last ip_addr_blocks) (λ asn. last_at blocks_at) (λ asn. exact_last_at ip_addr_blocks blocks_at exact_blocks))

-- the whole payload
pub exact_roa : ExactMembers roa_payload (last_at attestation_at)
unfolding roa_payload
exact_roa = exact_last_at route_origin_attestation attestation_at exact_attestation
