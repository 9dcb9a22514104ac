-- Texts of prefixes in which an IPv6 address may be in mixed notation: its last 32 bits are written as an IPv4 address
-- (RFC 4291 section 2.2, form 3; RFC 5952 section 5). The plain texts are those of `prefixes`.
use Rattle.std.specs.Prelude.{◌≡◌, ◌⊎◌, ℕ, ◌%◌, ◌^◌, ◌≤◌, ◌<◌, List, ◌++◌, flat_map, take, replicate, Result, Ok, Err, codes}
use Rattle.std.specs.Fmt.{decimal}
use Rattle.prefixes.specs.Address.{Block, HasNoHostBits, IsPrefix}
use Rattle.prefixes.specs.Payload.{block_of, width_of}
use Rattle.prefixes.specs.Text.{AreHexGroups, Says, groups, joined_by_colons, v4_address}
use Rattle.prefixes.specs.declared.fault.PrefixFault.{PrefixFault}
use Rattle.prefixes.specs.declared.fault.PrefixFault.TheVariants as faults
use Rattle.prefixes.specs.declared.prefix.IpPrefix.{IpPrefix}
use Rattle.prefixes.specs.declared.prefix.IpPrefix.TheVariants.{V4, V6}

-- In mixed notation an IPv6 address is its six high groups ..
abbrev pub high_groups : ℕ → List ℕ
high_groups addr = take 6 (groups addr)

-- .. and its last 32 bits as an IPv4 address.
abbrev pub dotted_tail : ℕ → List ℕ
dotted_tail addr = v4_address (addr % 2 ^ 32)

-- a colon after each
abbrev pub with_colons : List (List ℕ) → List ℕ
with_colons texts = flat_map (λ text. text ++ codes ":") texts

-- The six groups have a colon after each ..
abbrev pub IsFullMixed : ℕ → List ℕ → Type 0
IsFullMixed addr text = (texts : List (List ℕ)) × AreHexGroups (high_groups addr) texts × (text ≡ with_colons texts ++ dotted_tail addr)

-- .. or `::` is among them, for one zero group or more.
pub record IsCompressedMixed (addr : ℕ) (text : List ℕ) : Type 0 where
  pub before : List ℕ
  pub after : List ℕ
  pub zeros : ℕ
  pub some : 0 < zeros
  pub high_are : high_groups addr ≡ before ++ replicate zeros 0 ++ after
  pub left : List (List ℕ)
  pub right : List (List ℕ)
  pub before_are : AreHexGroups before left
  pub after_are : AreHexGroups after right
  pub text_is : text ≡ joined_by_colons left ++ codes "::" ++ with_colons right ++ dotted_tail addr

abbrev pub IsMixedAddress : ℕ → List ℕ → Type 0
IsMixedAddress addr text = IsFullMixed addr text ⊎ IsCompressedMixed addr text

-- A text says an IPv6 address in mixed notation and a length: the address, a slash, and the length in one to three decimal
-- digits without a leading zero.
pub record SaysMixed (p : Block) (text : List ℕ) : Type 0 where
  pub address : List ℕ
  pub small : p.addr < 2 ^ 128
  pub is_address : IsMixedAddress p.addr address
  pub three_digits : p.len < 1000
  pub text_is : text ≡ address ++ codes "/" ++ decimal p.len

-- An IPv6 prefix is said in plain or in mixed notation.
abbrev pub SaysV6 : Block → List ℕ → Type 0
SaysV6 p text = Says (V6 p) text ⊎ SaysMixed p text

abbrev pub SaysText : IpPrefix → List ℕ → Type 0
SaysText (V4 p) text = Says (V4 p) text
SaysText (V6 p) text = SaysV6 p text

-- A text is a readable spelling of a prefix, in either notation.
pub record SpellsPrefix (p : IpPrefix) (text : List ℕ) : Type 0 where
  pub is_prefix : IsPrefix (width_of p) (block_of p)
  pub says : SaysText p text

-- What is read from a text: the prefix that it spells, or why it spells none. A text that says no address and length is no
-- prefix's; then the length is judged, then the host bits.
abbrev pub ReadsPrefix : List ℕ → Result IpPrefix PrefixFault → Type 0
ReadsPrefix text (Ok p) = SpellsPrefix p text
ReadsPrefix text (Err faults.BadText) = (p : IpPrefix) → ¬ (SaysText p text)
ReadsPrefix text (Err faults.TooLong) = (p : IpPrefix) × SaysText p text × (width_of p < (block_of p).len)
ReadsPrefix text (Err faults.HostBits) =
    (p : IpPrefix) × SaysText p text × ((block_of p).len ≤ width_of p) × ¬ (HasNoHostBits (width_of p) (block_of p).addr (block_of p).len)
ReadsPrefix text (Err faults.MaxLength) = ⊥
