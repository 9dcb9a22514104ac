-- Reading resources over what the reads of a cursor give.
use Rattle.std.specs.Prelude.{ℕ, Bool, true, false, List, [], Result}
use Rattle.der_lite.specs.Place.{Fault, place_of}
use Rattle.der_lite.specs.Der.{BIT_STRING, INTEGER, OCTET_STRING, SEQUENCE, EXPLICIT_0, number}
use Rattle.der_lite.specs.DerReading.{content_at, element_at}
use Rattle.der_lite.specs.Values.{between_rules, bits_value}
use Rattle.der_lite.specs.Decoding.{Read, read_constructed, read_member, read_each}
use Rattle.der_lite.specs.Fields.{field_at, last_at, optional_at}
use Rattle.der_forms.specs.Combinators.{no_rules}
use Rattle.der_forms.specs.CombinatorReading.{opened_at, told_content_at, told_element_at, either_at, sole_at, fixed_field}
use Rattle.resources.specs.declared.kind.ResourceKind.{ResourceKind}
use Rattle.resources.specs.declared.kind.ResourceKind.TheVariants.{Ipv4, Ipv6, As}
use Rattle.resources.specs.declared.range.ResourceRange.{ResourceRange}
use Rattle.resources.specs.declared.choice.ResourceChoice.{ResourceChoice}
use Rattle.resources.specs.declared.ip_resources.IpResources.{IpResources}
use Rattle.resources.specs.Resources.{NULL, prefix_of, address_rules, bound_rules, between, bounds_rules, alone, from_to, from_to_rules, block_rules, inherits, lists, family_rules, family_kind, FamilyChoice, order_rules, ip_of}

unfoldable pub prefix_at : ℕ → Read ResourceRange
prefix_at width = told_element_at (prefix_of width) (λ p. field_at (content_at BIT_STRING no_rules p) p.at (address_rules width) bits_value)

unfoldable pub bound_at : Bool → ℕ → Read (List Bool)
bound_at bit width p = field_at (content_at BIT_STRING no_rules p) p.at (bound_rules bit width) bits_value

unfoldable pub address_range_at : ℕ → Read ResourceRange
address_range_at width p =
    opened_at (element_at SEQUENCE p) p.at
    (told_content_at (between width) (read_constructed no_rules (read_member (bound_at false width) (λ _. last_at (bound_at true width))) (bounds_rules width)))

unfoldable pub address_block_at : ℕ → Read ResourceRange
address_block_at width = either_at BIT_STRING (prefix_at width) (address_range_at width)

unfoldable pub as_number_at : Read ℕ
as_number_at p = field_at (content_at INTEGER no_rules p) p.at (between_rules 0 4294967295 14) number

unfoldable pub as_range_at : Read ResourceRange
as_range_at p =
    opened_at (element_at SEQUENCE p) p.at
    (told_content_at from_to (read_constructed no_rules (read_member as_number_at (λ _. last_at as_number_at)) from_to_rules))

unfoldable pub as_block_at : Read ResourceRange
as_block_at = either_at INTEGER (told_element_at alone as_number_at) as_range_at

unfoldable pub block_at : ResourceKind → Read ResourceRange
block_at Ipv4 = address_block_at 32
block_at Ipv6 = address_block_at 128
block_at As = as_block_at

unfoldable pub blocks_at : ResourceKind → Read (List ResourceRange)
blocks_at kind p = opened_at (element_at SEQUENCE p) p.at (read_constructed no_rules (read_each (λ _. block_at kind)) block_rules)

unfoldable pub null_at : Read (Unit {0})
null_at p = fixed_field (content_at NULL no_rules p) p.at 15 []

unfoldable pub choice_at : ResourceKind → Read ResourceChoice
choice_at kind = either_at NULL (told_element_at inherits null_at) (told_element_at lists (blocks_at kind))

unfoldable pub family_at : Read ResourceKind
family_at p = field_at (content_at OCTET_STRING no_rules p) p.at family_rules family_kind

unfoldable pub address_family_at : Read FamilyChoice
address_family_at p = opened_at (element_at SEQUENCE p) p.at (read_constructed no_rules (read_member family_at (λ kind. last_at (choice_at kind))) no_rules)

unfoldable pub ip_addr_blocks_at : Read IpResources
ip_addr_blocks_at p =
    opened_at (element_at SEQUENCE p) p.at
    (told_content_at ip_of (read_constructed no_rules (read_member address_family_at (λ _. optional_at address_family_at)) order_rules))

-- what was read of a value, or the first fault
unfoldable pub ip_all : List ℕ → Result IpResources Fault
ip_all value = last_at ip_addr_blocks_at (place_of 0 value)

unfoldable pub asnum_at : Read ResourceChoice
asnum_at p = opened_at (element_at EXPLICIT_0 p) p.at (read_constructed no_rules (last_at (choice_at As)) no_rules)

unfoldable pub as_identifiers_at : Read ResourceChoice
as_identifiers_at p = opened_at (element_at SEQUENCE p) p.at (read_constructed no_rules (sole_at 16 asnum_at) no_rules)

unfoldable pub as_all : List ℕ → Result ResourceChoice Fault
as_all value = last_at as_identifiers_at (place_of 0 value)
