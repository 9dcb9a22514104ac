-- The texts of prefixes and of AS numbers (RFC 4632 section 3.1; RFC 4291 sections 2.2 and 2.3; RFC 5952 section 4).
use Rattle.std.specs.Prelude.{◌≡◌, ◌⊎◌, ℕ, ◌+◌, ◌/◌, ◌%◌, ◌^◌, ◌≤◌, ◌<◌, List, [], ◌∷◌, ◌++◌, length, map, take, drop, replicate, Option, Some, None, Result, Ok, Err, codes, ⊤}
use Rattle.std.specs.List.{join_with_byte}
use Rattle.std.specs.Fmt.{decimal}
use Rattle.std.specs.Net.Text.{dotted_text, groups_text, hex_groups_text}
use Rattle.std.specs.Str.Parse.{IsNumeral, digits_value}
use Rattle.prefixes.specs.Address.{HasNoHostBits, IsPrefix}
use Rattle.prefixes.specs.Payload.{Payload, block_of, width_of}
use Rattle.prefixes.specs.declared.asn.Asn.{Asn}
use Rattle.prefixes.specs.declared.fault.PrefixFault.{PrefixFault}
use Rattle.prefixes.specs.declared.fault.PrefixFault.TheVariants as faults
use Rattle.prefixes.specs.declared.prefix.IpPrefix.{IpPrefix}
use Rattle.prefixes.specs.declared.prefix.IpPrefix.TheVariants.{V4, V6}
use Rattle.prefixes.specs.declared.route.Route.{Route}

-- What a text says is one thing, and whether that is a prefix another: a text may say a length over the width, or set host bits.

-- An IPv4 address is its four bytes as decimal numbers without leading zeros, joined by dots.
abbrev pub v4_address : ℕ → List ℕ
v4_address addr = dotted_text (addr / 2 ^ 24) (addr / 2 ^ 16 % 2 ^ 8) (addr / 2 ^ 8 % 2 ^ 8) (addr % 2 ^ 8)

-- An IPv6 address is eight groups of 16 bits, the highest first.
abbrev pub groups : ℕ → List ℕ
groups addr = map (λ k. addr / 2 ^ k % 2 ^ 16) (112 ∷ 96 ∷ 80 ∷ 64 ∷ 48 ∷ 32 ∷ 16 ∷ 0 ∷ [])

-- A group is read from one to four hexadecimal digits of either case.
abbrev pub IsGroup : ℕ → List ℕ → Type 0
IsGroup group text = IsNumeral 16 text × (length text ≤ 4) × (digits_value 16 text ≡ group)

abbrev pub AreHexGroups : List ℕ → List (List ℕ) → Type 0
AreHexGroups [] [] = ⊤
AreHexGroups (group ∷ more) (text ∷ texts) = IsGroup group text × AreHexGroups more texts
AreHexGroups [] (text ∷ texts) = ⊥
AreHexGroups (group ∷ more) [] = ⊥

abbrev pub joined_by_colons : List (List ℕ) → List ℕ
joined_by_colons texts = join_with_byte 58 texts

-- The eight groups are joined by colons ..
abbrev pub IsFull : List ℕ → List ℕ → Type 0
IsFull all text = (texts : List (List ℕ)) × AreHexGroups all texts × (text ≡ joined_by_colons texts)

-- .. or `::` replaces one zero group or more, between at most seven other groups.
pub record IsCompressed (all text : List ℕ) : Type 0 where
  pub before : List ℕ
  pub after : List ℕ
  pub zeros : ℕ
  pub some : 0 < zeros
  pub all_are : all ≡ before ++ replicate zeros 0 ++ after
  pub left : List (List ℕ)
  pub right : List (List ℕ)
  pub before_are : AreHexGroups before left
  pub after_are : AreHexGroups after right
  pub text_is : text ≡ joined_by_colons left ++ codes "::" ++ joined_by_colons right

abbrev pub IsV6Address : ℕ → List ℕ → Type 0
IsV6Address addr text = IsFull (groups addr) text ⊎ IsCompressed (groups addr) text

abbrev pub IsAddress : IpPrefix → List ℕ → Type 0
IsAddress (V4 p) text = (p.addr < 2 ^ 32) × (text ≡ v4_address p.addr)
IsAddress (V6 p) text = (p.addr < 2 ^ 128) × IsV6Address p.addr text

-- A text says an address and a length: the address, a slash, and the length in one to three decimal digits without a leading zero.
pub record Says (p : IpPrefix) (text : List ℕ) : Type 0 where
  pub address : List ℕ
  pub is_address : IsAddress p address
  pub three_digits : (block_of p).len < 1000
  pub text_is : text ≡ address ++ codes "/" ++ decimal (block_of p).len

-- A text is a readable spelling of a prefix.
pub record PrefixText (p : IpPrefix) (text : List ℕ) : Type 0 where
  pub is_prefix : IsPrefix (width_of p) (block_of p)
  pub says : Says p text

-- What is read from a text: the prefix that it spells, or why it spells none. A text that says no address and length is no
-- prefix's; then the length is judged, then the host bits.
abbrev pub ReadsAs : List ℕ → Result IpPrefix PrefixFault → Type 0
ReadsAs text (Ok p) = PrefixText p text
ReadsAs text (Err faults.BadText) = (p : IpPrefix) → ¬ (Says p text)
ReadsAs text (Err faults.TooLong) = (p : IpPrefix) × Says p text × (width_of p < (block_of p).len)
ReadsAs text (Err faults.HostBits) =
    (p : IpPrefix) × Says p text × ((block_of p).len ≤ width_of p) × ¬ (HasNoHostBits (width_of p) (block_of p).addr (block_of p).len)
ReadsAs text (Err faults.MaxLength) = ⊥

-- What is read from the text of an AS number: the number below 2 to the 32 of which it is the decimal text, or that there is none.
abbrev pub ReadsAsNumber : List ℕ → Result Asn PrefixFault → Type 0
ReadsAsNumber text (Ok a) = (a.0 < 2 ^ 32) × (text ≡ decimal a.0)
ReadsAsNumber text (Err faults.BadText) = (n : ℕ) → n < 2 ^ 32 → ¬ (text ≡ decimal n)
ReadsAsNumber text (Err faults.TooLong) = ⊥
ReadsAsNumber text (Err faults.HostBits) = ⊥
ReadsAsNumber text (Err faults.MaxLength) = ⊥

-- The one spelling that is written. An IPv6 address is written in lower case without leading zeros, and `::` replaces the
-- first longest run of two or more zero groups.
abbrev pub written_address : IpPrefix → List ℕ
written_address (V4 p) = v4_address p.addr
written_address (V6 p) = hex_groups_text (groups p.addr)

abbrev pub written_text : IpPrefix → List ℕ
written_text p = written_address p ++ codes "/" ++ decimal (block_of p).len

-- A payload is written as its prefix, its maximum length and the number of its AS, with a blank between.
abbrev pub vrp_text : Payload → List ℕ
vrp_text v = written_text v.prefix ++ codes " " ++ decimal v.max_len ++ codes " " ++ decimal v.asn

-- A route is written as its prefix and its origin. An origin is the number of an AS, or NONE (RFC 6811 section 2).
abbrev pub origin_text : Option ℕ → List ℕ
origin_text (Some n) = decimal n
origin_text None = codes "none"

abbrev pub route_text : Route → List ℕ
route_text r = written_text r.prefix ++ codes " " ++ origin_text r.origin

-- No text says two things.
abbrev pub OneReading : Type 0
OneReading = (text : List ℕ) (p q : IpPrefix) → Says p text → Says q text → p ≡ q

-- What is written for a prefix spells it.
abbrev pub WrittenTextIsRead : Type 0
WrittenTextIsRead = (p : IpPrefix) → IsPrefix (width_of p) (block_of p) → PrefixText p (written_text p)

-- From the group at start on, len groups are zero.
pub record IsZeroRun (all : List ℕ) (start len : ℕ) : Type 0 where
  pub within : start + len ≤ length all
  pub zeros : take len (drop start all) ≡ replicate len 0

-- A run of two or more zero groups: none is longer, and none as long begins before it (RFC 5952 section 4.2).
pub record IsFirstLongest (all : List ℕ) (start len : ℕ) : Type 0 where
  pub run : IsZeroRun all start len
  pub two : 2 ≤ len
  pub longest : (other n : ℕ) → IsZeroRun all other n → n ≤ len
  pub first : (other : ℕ) → IsZeroRun all other len → start ≤ other

-- `::` is written for one run of zero groups ..
pub record ReplacesRun (all : List ℕ) (start len : ℕ) : Type 0 where
  pub chosen : IsFirstLongest all start len
  pub text_is : hex_groups_text all ≡ groups_text (take start all) ++ codes "::" ++ groups_text (drop (start + len) all)

-- .. or for none, if no two zero groups are side by side.
pub record ReplacesNone (all : List ℕ) : Type 0 where
  pub none : (start : ℕ) → ¬ (IsZeroRun all start 2)
  pub text_is : hex_groups_text all ≡ groups_text all

-- In what is written, `::` replaces the first longest run of two or more zero groups, and no other.
abbrev pub FirstLongestRun : Type 0
FirstLongestRun = (all : List ℕ) → ((start : ℕ) × (len : ℕ) × ReplacesRun all start len) ⊎ ReplacesNone all
