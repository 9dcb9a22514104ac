-- The payload of a ROA (RFC 9582 section 4), and the first fault of bytes that spell none.
use Rattle.std.specs.Prelude.{◌≡◌, ℕ, pos, ◌+◌, ◌&&◌, ◌||◌, Bool, not, nat_lt, nat_le, ◌==◌, List, [], ◌∷◌, ◌++◌, length, slice_index, Option, Some, None}
use Rattle.std.specs.List.{last_or}
use Rattle.der_lite.specs.Der.{BIT_STRING, EXPLICIT_0, INTEGER, OCTET_STRING, SEQUENCE, number, BitsSpell, IntSpells, is_bit_string, bit_count, is_truncated, tag_of, head_rules}
use Rattle.der_lite.specs.Grammar.{Element, Members, element, primitive, constructed, last, member, optional, each}
use Rattle.der_lite.specs.Values.{between_rules, integer_between, bits_number}
use Rattle.der_lite.specs.Fields.{valued}
use Rattle.prefixes.specs.Address.{Block}
use Rattle.prefixes.specs.Payload.{block_of, width_of}
use Rattle.prefixes.specs.declared.prefix.IpPrefix.{IpPrefix}
use Rattle.prefixes.specs.declared.prefix.IpPrefix.TheVariants.{V4, V6}
use Rattle.payloads.specs.declared.roa_family.AddressFamily.{AddressFamily}
use Rattle.payloads.specs.declared.roa_family.AddressFamily.TheVariants.{Ipv4, Ipv6}
use Rattle.payloads.specs.declared.roa_entry.RoaEntry.{RoaEntry}
use Rattle.payloads.specs.RoaEntries.{is_not_above}

-- nothing is judged
abbrev pub no_rules : {A : Type 0} → A → List (ℕ × Bool)
no_rules _ = []

-- RFC 9582 section 4.1: version [0] is left out. Its tag (160) at the place of the first member is VersionPresent.
abbrev pub first_head : List ℕ → List (ℕ × Bool)
first_head bytes = (1, is_truncated bytes) ∷ (6, tag_of bytes == EXPLICIT_0) ∷ head_rules INTEGER bytes

-- RFC 9582 section 4.2: asID INTEGER (0..4294967295)
unfoldable pub as_id : Element ℕ
as_id = element INTEGER first_head (integer_between 0 4294967295 7)

-- ---- RFC 9582 section 4.3.1: ROAIPAddressFamily

-- the number of an address family (IANA)
abbrev pub family_number : AddressFamily → ℕ
family_number Ipv4 = 1
family_number Ipv6 = 2

-- 0, which is the number of no family, if no family came before
abbrev pub number_before : Option AddressFamily → ℕ
number_before None = 0
number_before (Some family) = family_number family

-- `0001` or `0002`
abbrev pub is_family : List ℕ → Bool
is_family content = length content == 2 && slice_index content 0 == 0 && (slice_index content 1 == 1 || slice_index content 1 == 2)

-- the family is known, and not the one before it; it is above the one before it
abbrev pub family_rules : Option AddressFamily → List ℕ → List (ℕ × Bool)
family_rules before content = (8, not (is_family content) || slice_index content 1 == number_before before) ∷ (12, nat_lt (slice_index content 1) (number_before before)) ∷ []

-- the content is the two bytes of the family's number
abbrev pub FamilySpells : AddressFamily → List ℕ → Type 0
FamilySpells family content = content ≡ 0 ∷ family_number family ∷ []

-- addressFamily OCTET STRING (SIZE(2)), behind the families before it
unfoldable pub address_family : Option AddressFamily → Element AddressFamily
address_family before = element OCTET_STRING (head_rules OCTET_STRING) (primitive FamilySpells (family_rules before))

-- ---- RFC 9582 section 4.3.2: ROAIPAddress

-- how many bits an address of the family has
abbrev pub family_width : AddressFamily → ℕ
family_width Ipv4 = 32
family_width Ipv6 = 128

-- a prefix of the family
abbrev pub prefix_of : AddressFamily → Block → IpPrefix
prefix_of Ipv4 block = V4 block
prefix_of Ipv6 block = V6 block

-- the address and the length of these bits: those that an address of this width has behind them are zero
abbrev pub block_of_bits : ℕ → List Bool → Block
block_of_bits width bits = record { addr = bits_number bits width; len = length bits }

-- the prefix of these bits
abbrev pub of_bits : AddressFamily → List Bool → IpPrefix
of_bits family bits = prefix_of family (block_of_bits (family_width family) bits)

-- the content spells the bits of the prefix
pub record PrefixSpells (family : AddressFamily) (prefix : IpPrefix) (content : List ℕ) : Type 0 where
  pub bits : List Bool
  pub spelled : BitsSpell bits content
  pub is : prefix ≡ of_bits family bits

-- at most as many bits as an address has
abbrev pub address_rules : AddressFamily → List ℕ → List (ℕ × Bool)
address_rules family content = (4, not (is_bit_string content)) ∷ (10, nat_lt (family_width family) (bit_count content)) ∷ []

-- address BIT STRING (SIZE(0..ub))
unfoldable pub address : AddressFamily → Element IpPrefix
address family = element BIT_STRING (head_rules BIT_STRING) (primitive (PrefixSpells family) (address_rules family))

-- The maximum length says more than the length of the prefix, which is meant if none is there. That it does is this project's own rule: so
-- one authorization has one payload.
abbrev pub needed_rules : IpPrefix → List ℕ → List (ℕ × Bool)
needed_rules prefix content = (20, number content == (block_of prefix).len) ∷ []

-- not below the length of the prefix and not over the width of its family, and not that length
abbrev pub maximum_rules : IpPrefix → List ℕ → List (ℕ × Bool)
maximum_rules prefix content = between_rules (block_of prefix).len (width_of prefix) 11 content ++ needed_rules prefix content

-- maxLength INTEGER (0..ub), over the length of the prefix
unfoldable pub max_length : IpPrefix → Element ℕ
max_length prefix = element INTEGER (head_rules INTEGER) (primitive (λ n content. IntSpells (pos n) content) (maximum_rules prefix))

-- the parts of an entry
abbrev pub entry_parts : RoaEntry → IpPrefix × Option ℕ
entry_parts entry = (entry.prefix, entry.max_len)

-- a payload has at most 65,536 entries
abbrev pub too_many_rules : ℕ → List ℕ → List (ℕ × Bool)
too_many_rules count content = (19, nat_le 65536 count) ∷ []

-- each entry is above the one before it
abbrev pub order_rules : Option RoaEntry → RoaEntry → List (ℕ × Bool)
order_rules before entry = (12, is_not_above before entry) ∷ []

-- address, and maxLength OPTIONAL
abbrev pub entry_members : AddressFamily → Members RoaEntry
entry_members family = valued entry_parts (member (address family) (λ prefix. optional (max_length prefix)))

-- ROAIPAddress, behind this many entries of the payload, and behind the one before it in its family
unfoldable pub ip_address : AddressFamily → ℕ → Option RoaEntry → Element RoaEntry
ip_address family count before = element SEQUENCE (head_rules SEQUENCE) (constructed (too_many_rules count) (entry_members family) (order_rules before))

-- ---- RFC 9582 section 4.3: ipAddrBlocks

-- there is a member
abbrev pub not_empty : List ℕ → List (ℕ × Bool)
not_empty content = (9, length content == 0) ∷ []

-- the element of each entry behind those before it in its family, and this many of other families
abbrev pub entry_behind : AddressFamily → ℕ → List RoaEntry → Element RoaEntry
entry_behind family count before = ip_address family (count + length before) (last_or None before)

-- addresses SEQUENCE (SIZE(1..MAX)) OF ROAIPAddress
unfoldable pub addresses : AddressFamily → ℕ → Element (List RoaEntry)
addresses family count = element SEQUENCE (head_rules SEQUENCE) (constructed not_empty (each (entry_behind family count)) no_rules)

-- a family and its entries
abbrev pub Family : Type 0
Family = AddressFamily × List RoaEntry

-- ROAIPAddressFamily, behind the family before it and this many entries of the payload
unfoldable pub ip_family : Option AddressFamily → ℕ → Element Family
ip_family before count = element SEQUENCE (head_rules SEQUENCE) (constructed no_rules (member (address_family before) (λ family. last (addresses family count))) no_rules)

-- one family or two
abbrev pub Blocks : Type 0
Blocks = Family × Option Family

-- ipAddrBlocks SEQUENCE (SIZE(1..2)) OF ROAIPAddressFamily
unfoldable pub ip_addr_blocks : Element Blocks
ip_addr_blocks = element SEQUENCE (head_rules SEQUENCE) (constructed not_empty (member (ip_family None 0) (λ first. optional (ip_family (Some first.0) (length first.1)))) no_rules)

-- ---- 4: RouteOriginAttestation

-- the AS and the families
abbrev pub RoaTree : Type 0
RoaTree = ℕ × Blocks

unfoldable pub route_origin_attestation : Element RoaTree
route_origin_attestation = element SEQUENCE (head_rules SEQUENCE) (constructed no_rules (member as_id (λ asn. last ip_addr_blocks)) no_rules)

-- the bytes are one ROA and nothing else
unfoldable pub roa_payload : Members RoaTree
roa_payload = last route_origin_attestation
