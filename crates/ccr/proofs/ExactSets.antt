-- Reading a ROAPayloadSet is exact.
use Rattle.std.proofs.Common.{ℕ, Option, Some, None}
use Rattle.std.specs.List.{last_or}
use Rattle.der_lite.specs.Grammar.{Members, last, optional, each, member}
use Rattle.der_lite.specs.Decoding.{ReadAll, read_member}
use Rattle.der_lite.specs.Fields.{last_at}
use Rattle.der_lite.proofs.Exact.{ExactElement, ExactMembers, exact_member, exact_each}
use Rattle.der_lite.proofs.FieldLaws.{exact_sequence, exact_last_at, exact_optional_at}
use Rattle.der_forms.specs.Combinators.{no_rules}
use Rattle.der_forms.proofs.ExactCombinators.{exact_told}
use Rattle.payloads.specs.Roa.{as_id, address_family, not_empty, Family, RoaTree}
use Rattle.payloads.specs.RoaReading.{as_id_at, address_family_at}
use Rattle.payloads.specs.RoaValues.{flat}
use Rattle.payloads.proofs.RoaFields.{exact_as_id, exact_address_family}
use Rattle.payloads.proofs.Roas.{exact_entry}
use Rattle.ccr.specs.Families.{RoaFamily}
use Rattle.ccr.specs.PayloadSet as g
use Rattle.ccr.specs.PayloadSetReading as r

exact_addresses : (family : RoaFamily) → ExactElement (g.addresses family) (r.addresses_at family)
unfolding g.addresses r.addresses_at r.entries_at
exact_addresses family =
    exact_sequence not_empty (each (g.entry_behind family)) (r.entries_at family) no_rules
    (exact_each (g.entry_behind family) (r.entry_behind_at family) (λ before. exact_entry family 0 (last_or None before)))

exact_ip_family : (before : Option RoaFamily) → ExactElement (g.ip_family before) (r.ip_family_at before)
unfolding g.ip_family r.ip_family_at
exact_ip_family before =
    exact_sequence no_rules (member (address_family before) (λ family. last (g.addresses family))) (read_member (address_family_at before) (λ family. last_at (r.addresses_at family))) no_rules
    (exact_member (address_family before) (address_family_at before) (exact_address_family before) (λ family. last (g.addresses family)) (λ family. last_at (r.addresses_at family))
    (λ family. exact_last_at (g.addresses family) (r.addresses_at family) (exact_addresses family)))

exact_second : (first : RoaFamily) → ExactMembers (optional (g.ip_family (Some first))) (r.second_at first)
unfolding r.second_at
exact_second first = exact_optional_at (g.ip_family (Some first)) (r.ip_family_at (Some first)) (exact_ip_family (Some first))

exact_blocks : ExactElement g.ip_addr_blocks r.blocks_at
unfolding g.ip_addr_blocks r.blocks_at
exact_blocks =
    let others : Family → Members (Option Family) = λ first. optional (g.ip_family (Some first.0)) in
    let rest : Family → ReadAll (Option Family) = λ first. r.second_at first.0 in
    exact_sequence not_empty (member (g.ip_family None) others) (read_member (r.ip_family_at None) rest) no_rules
    (exact_member (g.ip_family None) (r.ip_family_at None) (exact_ip_family None) others rest (λ first. exact_second first.0))

exact_members : ExactMembers g.set_members r.set_members_at
unfolding g.set_members r.set_members_at
exact_members =
    exact_told {A = RoaTree} flat (member as_id (λ asn. last g.ip_addr_blocks)) (read_member as_id_at (λ asn. last_at r.blocks_at))
    (exact_member as_id as_id_at exact_as_id (λ asn. last g.ip_addr_blocks) (λ asn. last_at r.blocks_at) (λ asn. exact_last_at g.ip_addr_blocks r.blocks_at exact_blocks))

pub exact_payload_set : (before : Option ℕ) → ExactElement (g.payload_set before) (r.payload_set_at before)
unfolding g.payload_set r.payload_set_at
exact_payload_set before = exact_sequence no_rules g.set_members r.set_members_at (g.order_rules before) exact_members
