-- ROAPayloadSet: the RouteOriginAttestation of an AS (RFC 9582 section 4), with any number of entries.
use Rattle.std.specs.Prelude.{ℕ, Bool, false, nat_le, List, [], ◌∷◌, Option, Some, None}
use Rattle.std.specs.List.{last_or}
use Rattle.der_lite.specs.Der.{SEQUENCE, head_rules}
use Rattle.der_lite.specs.Grammar.{Element, Members, element, constructed, member, last, optional, each}
use Rattle.der_forms.specs.Combinators.{no_rules, told}
use Rattle.payloads.specs.declared.roa_entry.RoaEntry.{RoaEntry}
use Rattle.payloads.specs.Roa.{as_id, address_family, ip_address, not_empty, Family, Blocks, RoaTree}
use Rattle.payloads.specs.RoaValues.{RoaValue, flat}
use Rattle.ccr.specs.Families.{RoaFamily}

-- RFC 9582 section 4.3.2: ROAIPAddress, after those before it in its family. A ROA counts them. Here each is as the first of a ROA.
abbrev pub entry_behind : RoaFamily → List RoaEntry → Element RoaEntry
entry_behind family before = ip_address family 0 (last_or None before)

-- RFC 9582 section 4.3.1: addresses SEQUENCE (SIZE(1..MAX)) OF ROAIPAddress
unfoldable pub addresses : RoaFamily → Element (List RoaEntry)
addresses family = element SEQUENCE (head_rules SEQUENCE) (constructed not_empty (each (entry_behind family)) no_rules)

-- ROAIPAddressFamily, after the family before it
unfoldable pub ip_family : Option RoaFamily → Element Family
ip_family before = element SEQUENCE (head_rules SEQUENCE) (constructed no_rules (member (address_family before) (λ family. last (addresses family))) no_rules)

-- RFC 9582 section 4.3: ipAddrBlocks SEQUENCE (SIZE(1..2)) OF ROAIPAddressFamily
unfoldable pub ip_addr_blocks : Element Blocks
ip_addr_blocks = element SEQUENCE (head_rules SEQUENCE) (constructed not_empty (member (ip_family None) (λ first. optional (ip_family (Some first.0)))) no_rules)

-- asID and ipAddrBlocks: the AS, and the entries of all families
unfoldable pub set_members : Members RoaValue
set_members = told {A = RoaTree} flat (member as_id (λ asn. last ip_addr_blocks))

-- the AS is not above the one before it
abbrev pub is_not_above : Option ℕ → ℕ → Bool
is_not_above None asn = false
is_not_above (Some before) asn = nat_le asn before

-- the sets ascend by AS
abbrev pub order_rules : Option ℕ → RoaValue → List (ℕ × Bool)
order_rules before set = (25, is_not_above before set.asn) ∷ []

-- ROAPayloadSet, after that of this AS
unfoldable pub payload_set : Option ℕ → Element RoaValue
payload_set before = element SEQUENCE (head_rules SEQUENCE) (constructed no_rules set_members (order_rules before))

-- the AS of a set
abbrev pub as_of : Option RoaValue → Option ℕ
as_of None = None
as_of (Some set) = Some set.asn

-- ROAPayloadSet, after those before it
abbrev pub set_behind : List RoaValue → Element RoaValue
set_behind before = payload_set (as_of (last_or None before))
