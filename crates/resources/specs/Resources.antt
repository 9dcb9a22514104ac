-- IP addresses and AS numbers of a certificate (RFC 3779), in canonical form. Faults.antt has the numbers of the faults.
use Rattle.std.specs.Prelude.{◌≡◌, ℕ, ◌+◌, ◌-◌, ◌^◌, Bool, true, false, not, ◌||◌, ◌==◌, nat_lt, bytes_eq, if◌then◌else◌, List, [], ◌∷◌, length, Option, Some, None}
use Rattle.der_lite.specs.Der.{BIT_STRING, INTEGER, OCTET_STRING, SEQUENCE, EXPLICIT_0, head_rules, is_bit_string}
use Rattle.der_lite.specs.Values.{integer_between, bits_value, bits_number}
use Rattle.der_lite.specs.Grammar.{Element, Members, element, primitive, constructed, last, member, optional, each}
use Rattle.der_forms.specs.Combinators.{no_rules, either, told_content, told_element, sole, fixed}
use Rattle.resources.specs.declared.kind.ResourceKind.{ResourceKind}
use Rattle.resources.specs.declared.kind.ResourceKind.TheVariants.{Ipv4, Ipv6, As}
use Rattle.resources.specs.declared.range.ResourceRange.{ResourceRange}
use Rattle.resources.specs.declared.choice.ResourceChoice.{ResourceChoice}
use Rattle.resources.specs.declared.choice.ResourceChoice.TheVariants.{Inherit, Listed}
use Rattle.resources.specs.declared.ip_resources.IpResources.{IpResources}
use Rattle.resources.specs.Ranges.{are_apart}

abbrev pub NULL : ℕ
NULL = 5

-- the numbers from low to high
abbrev pub range_of : ℕ → ℕ → ResourceRange
range_of low high = record { low = low; high = high }

-- ---- RFC 3779 section 2.1: addresses

-- RFC 3779 section 2.1.1: the addresses of this many bits that begin with these
abbrev pub prefix_of : ℕ → List Bool → ResourceRange
prefix_of width bits = range_of (bits_number bits width) (bits_number bits width + 2 ^ (width - length bits) - 1)

abbrev pub BitsSpell : List Bool → List ℕ → Type 0
BitsSpell bits content = bits ≡ bits_value content

-- an address has at most this many bits
abbrev pub address_rules : ℕ → List ℕ → List (ℕ × Bool)
address_rules width content = (4, not (is_bit_string content)) ∷ (6, nat_lt width (length (bits_value content))) ∷ []

-- addressPrefix
unfoldable pub prefix : ℕ → Element ResourceRange
prefix width = told_element (prefix_of width) (element BIT_STRING (head_rules BIT_STRING) (primitive BitsSpell (address_rules width)))

-- the last bit, if there is one, is this
abbrev pub ends_in : Bool → List Bool → Bool
ends_in bit [] = false
ends_in bit (last ∷ []) = if bit then last else not last
ends_in bit (first ∷ second ∷ more) = ends_in bit (second ∷ more)

-- RFC 3779 section 2.2.3.9: of min the last zeros are left out, and of max the last ones
abbrev pub bound_rules : Bool → ℕ → List ℕ → List (ℕ × Bool)
bound_rules bit width content = (4, not (is_bit_string content)) ∷ (6, nat_lt width (length (bits_value content))) ∷ (7, ends_in bit (bits_value content)) ∷ []

unfoldable pub bound : Bool → ℕ → Element (List Bool)
bound bit width = element BIT_STRING (head_rules BIT_STRING) (primitive BitsSpell (bound_rules bit width))

abbrev pub Bounds : Type 0
Bounds = List Bool × List Bool

-- from the first address that begins with min to the last that begins with max
abbrev pub between : ℕ → Bounds → ResourceRange
between width v = range_of (prefix_of width v.0).low (prefix_of width v.1).high

-- the longer of two
abbrev pub longer : ℕ → ℕ → ℕ
longer a b = if nat_lt a b then b else a

-- RFC 3779 section 2.2.3.7: a range that is a prefix is written as one. A range is a prefix exactly if its size is 2^(width - n), n being the
-- length of its longer bound.
abbrev pub is_prefix : ℕ → Bounds → Bool
is_prefix width v = (between width v).high + 1 == (between width v).low + 2 ^ (width - longer (length v.0) (length v.1))

abbrev pub bounds_rules : ℕ → Bounds → List (ℕ × Bool)
bounds_rules width v = (8, nat_lt (between width v).high (between width v).low) ∷ (9, is_prefix width v) ∷ []

-- addressRange: min does not end in 0, and max not in 1
unfoldable pub address_range : ℕ → Element ResourceRange
address_range width =
    element SEQUENCE (head_rules SEQUENCE)
    (told_content (between width) (constructed no_rules (member (bound false width) (λ _. last (bound true width))) (bounds_rules width)))

-- IPAddressOrRange
unfoldable pub address_block : ℕ → Element ResourceRange
address_block width = either BIT_STRING (prefix width) (address_range width)

-- ---- RFC 3779 section 3.2: AS numbers

-- ASId: below 2^32 (RFC 6793)
unfoldable pub as_number : Element ℕ
as_number = element INTEGER (head_rules INTEGER) (integer_between 0 4294967295 14)

-- one number
abbrev pub alone : ℕ → ResourceRange
alone n = range_of n n

abbrev pub from_to : ℕ × ℕ → ResourceRange
from_to v = range_of v.0 v.1

-- A range has two numbers at least, as one number has a form of its own (RFC 3779 section 3.2.3.5).
abbrev pub from_to_rules : ℕ × ℕ → List (ℕ × Bool)
from_to_rules v = (8, nat_lt v.1 v.0) ∷ (9, v.1 == v.0) ∷ []

-- ASRange
unfoldable pub as_range : Element ResourceRange
as_range = element SEQUENCE (head_rules SEQUENCE) (told_content from_to (constructed no_rules (member as_number (λ _. last as_number)) from_to_rules))

-- ASIdOrRange
unfoldable pub as_block : Element ResourceRange
as_block = either INTEGER (told_element alone as_number) as_range

-- ---- lists of blocks, and inherit

unfoldable pub block : ResourceKind → Element ResourceRange
block Ipv4 = address_block 32
block Ipv6 = address_block 128
block As = as_block

-- RFC 6487 sections 4.8.10 and 4.8.11: a list is not empty
abbrev pub block_rules : List ResourceRange → List (ℕ × Bool)
block_rules blocks = (10, length blocks == 0) ∷ (11, not (are_apart blocks)) ∷ []

-- addressesOrRanges, asIdsOrRanges
unfoldable pub blocks : ResourceKind → Element (List ResourceRange)
blocks kind = element SEQUENCE (head_rules SEQUENCE) (constructed no_rules (each (λ _. block kind)) block_rules)

abbrev pub inherits : Unit {0} → ResourceChoice
inherits _ = Inherit

abbrev pub lists : List ResourceRange → ResourceChoice
lists ranges = Listed ranges

-- IPAddressChoice, ASIdentifierChoice: inherit, or a list
unfoldable pub choice : ResourceKind → Element ResourceChoice
choice kind = either NULL (told_element inherits (fixed 15 NULL [])) (told_element lists (blocks kind))

-- ---- RFC 3779 section 2.2.3: families

-- RFC 3779 section 2.2.3.3, RFC 6487 section 4.8.10: the AFI in two octets, without a SAFI
abbrev pub is_family : ℕ → List ℕ → Bool
is_family afi content = bytes_eq content (0 ∷ afi ∷ [])

abbrev pub family_rules : List ℕ → List (ℕ × Bool)
family_rules content = (12, not (is_family 1 content || is_family 2 content)) ∷ []

abbrev pub family_kind : List ℕ → ResourceKind
family_kind content = if is_family 1 content then Ipv4 else Ipv6

abbrev pub FamilySpells : ResourceKind → List ℕ → Type 0
FamilySpells kind content = kind ≡ family_kind content

-- addressFamily
unfoldable pub family : Element ResourceKind
family = element OCTET_STRING (head_rules OCTET_STRING) (primitive FamilySpells family_rules)

abbrev pub FamilyChoice : Type 0
FamilyChoice = ResourceKind × ResourceChoice

-- IPAddressFamily
unfoldable pub address_family : Element FamilyChoice
address_family = element SEQUENCE (head_rules SEQUENCE) (constructed no_rules (member family (λ kind. last (choice kind))) no_rules)

abbrev pub Families : Type 0
Families = FamilyChoice × Option FamilyChoice

-- RFC 3779 section 2.2.3.3: the families ascend, and each comes at most once
abbrev pub are_ascending : Families → Bool
are_ascending (first, None) = true
are_ascending ((Ipv4, choice), Some (Ipv6, other)) = true
are_ascending _ = false

abbrev pub order_rules : Families → List (ℕ × Bool)
order_rules v = (13, not (are_ascending v)) ∷ []

-- what is said of each family
abbrev pub ip_of : Families → IpResources
ip_of ((Ipv6, choice), other) = record { v4 = None; v6 = Some choice }
ip_of ((kind, choice), None) = record { v4 = Some choice; v6 = None }
ip_of ((kind, choice), Some (other, second)) = record { v4 = Some choice; v6 = Some second }

-- IPAddrBlocks
unfoldable pub ip_addr_blocks : Element IpResources
ip_addr_blocks = element SEQUENCE (head_rules SEQUENCE) (told_content ip_of (constructed no_rules (member address_family (λ _. optional address_family)) order_rules))

-- the value of the extension, and nothing after it
unfoldable pub ip_value : Members IpResources
ip_value = last ip_addr_blocks

-- ---- RFC 3779 section 3.2.3

-- asnum
unfoldable pub asnum : Element ResourceChoice
asnum = element EXPLICIT_0 (head_rules EXPLICIT_0) (constructed no_rules (last (choice As)) no_rules)

-- ASIdentifiers: asnum alone, without rdi (RFC 6487 section 4.8.11)
unfoldable pub as_identifiers : Element ResourceChoice
as_identifiers = element SEQUENCE (head_rules SEQUENCE) (constructed no_rules (sole 16 asnum) no_rules)

-- the value of the extension, and nothing after it
unfoldable pub as_value : Members ResourceChoice
as_value = last as_identifiers
