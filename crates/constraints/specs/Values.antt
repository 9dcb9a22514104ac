-- What the words after `allow` and `deny` say: a prefix, a range of addresses, an AS number, or a range of AS numbers.
use Rattle.std.specs.Prelude.{◌≡◌, ◌⊎◌, ℕ, ◌+◌, ◌-◌, ◌^◌, ◌<◌, Bool, true, false, not, nat_lt, bytes_eq, if◌then◌else◌, List, [], ◌∷◌, Result, Ok, Err}
use Rattle.std.specs.Char.{is_ascii_digit}
use Rattle.std.specs.List.{list_all}
use Rattle.std.specs.Bool.{MatchBool}
use Rattle.std.specs.Fmt.{decimal}
use Rattle.std.specs.Str.{IsAscii, IsNotAscii}
use Rattle.prefixes.specs.Text.{IsV6Address, v4_address}
use Rattle.prefixes.specs.Payload.{block_of, width_of}
use Rattle.prefixes.specs.declared.fault.PrefixFault.TheVariants as faults
use Rattle.prefixes.specs.declared.prefix.IpPrefix.{IpPrefix}
use Rattle.prefixes.specs.declared.prefix.IpPrefix.TheVariants.{V4, V6}
use Rattle.prefix_texts.specs.MixedText.{IsMixedAddress, ReadsPrefix, SpellsPrefix}
use Rattle.resources.specs.declared.kind.ResourceKind.{ResourceKind}
use Rattle.resources.specs.declared.kind.ResourceKind.TheVariants.{Ipv4, Ipv6, As}
use Rattle.resources.specs.Resources.{range_of}
use Rattle.constraints.specs.declared.fault.ConstraintFaultKind.{ConstraintFaultKind}
use Rattle.constraints.specs.declared.fault.ConstraintFaultKind.TheVariants.{NoValue, SecondValue, NotAscii, Value, TooLong, HostBits, AsNumber, Families, Order}
use Rattle.constraints.specs.declared.value.End.{End}
use Rattle.constraints.specs.declared.value.Numbers.{Numbers}

-- The fault of what is read first; if it has none, what is read next.
abbrev pub Then : {A B : Type 0} → (Result A ConstraintFaultKind → Type 0) → (A → Result B ConstraintFaultKind → Type 0) → Result B ConstraintFaultKind → Type 0
Then {A} first next r = ((f : ConstraintFaultKind) × first (Err f) × (r ≡ Err f)) ⊎ ((a : A) × first (Ok a) × next a r)

-- A word has bytes of ASCII alone.
abbrev pub OfAscii : {A : Type 0} → List ℕ → (Result A ConstraintFaultKind → Type 0) → Result A ConstraintFaultKind → Type 0
OfAscii word reads r = (IsAscii word × reads r) ⊎ (IsNotAscii word × (r ≡ Err NotAscii))

-- An AS number is below 2^32 (RFC 6793), in decimal digits without leading zeros (RFC 5396, "asplain").
abbrev pub ReadsNumber : List ℕ → Result ℕ ConstraintFaultKind → Type 0
ReadsNumber text (Ok n) = (n < 2 ^ 32) × (text ≡ decimal n)
ReadsNumber text (Err AsNumber) = (n : ℕ) → n < 2 ^ 32 → ¬ (text ≡ decimal n)
ReadsNumber text (Err fault) = ⊥

-- A text is that of an address. An IPv6 address may be in mixed notation.
abbrev pub SpellsAddress : ResourceKind → ℕ → List ℕ → Type 0
SpellsAddress Ipv4 n text = (n < 2 ^ 32) × (text ≡ v4_address n)
SpellsAddress Ipv6 n text = (n < 2 ^ 128) × (IsV6Address n text ⊎ IsMixedAddress n text)
SpellsAddress As n text = ⊥

abbrev pub ReadsAddress : List ℕ → Result End ConstraintFaultKind → Type 0
ReadsAddress text (Ok end) = SpellsAddress end.kind end.number text
ReadsAddress text (Err Value) = (kind : ResourceKind) (n : ℕ) → ¬ (SpellsAddress kind n text)
ReadsAddress text (Err fault) = ⊥

abbrev pub as_end : ℕ → End
as_end n = record { kind = As; number = n }

-- Digits alone are an AS number; any other end of a range is an address.
abbrev pub ReadsEnd : List ℕ → Result End ConstraintFaultKind → Type 0
ReadsEnd word = OfAscii word (λ r. MatchBool (list_all is_ascii_digit word) (Then (ReadsNumber word) (λ n q. q ≡ Ok (as_end n)) r) (ReadsAddress word r))

abbrev pub same_kind : ResourceKind → ResourceKind → Bool
same_kind Ipv4 Ipv4 = true
same_kind Ipv6 Ipv6 = true
same_kind As As = true
same_kind _ _ = false

-- the numbers from one end to the other; or its fault: ends of two kinds, then an end before the beginning
abbrev pub range_from : End → End → Result Numbers ConstraintFaultKind
range_from low high =
    if not (same_kind low.kind high.kind) then Err Families
    else if nat_lt high.number low.number then Err Order
    else Ok (record { kind = low.kind; range = range_of low.number high.number })

abbrev pub ReadsRange : List ℕ → List ℕ → Result Numbers ConstraintFaultKind → Type 0
ReadsRange begin end = Then (ReadsEnd begin) (λ low. Then (ReadsEnd end) (λ high r. r ≡ range_from low high))

abbrev pub kind_of : IpPrefix → ResourceKind
kind_of (V4 p) = Ipv4
kind_of (V6 p) = Ipv6

-- the addresses of a prefix
abbrev pub addresses_of : IpPrefix → Numbers
addresses_of p = record { kind = kind_of p; range = range_of (block_of p).addr ((block_of p).addr + 2 ^ (width_of p - (block_of p).len) - 1) }

-- A prefix in a text that `prefix_texts` reads.
abbrev pub ReadsAddresses : List ℕ → Result Numbers ConstraintFaultKind → Type 0
ReadsAddresses text (Ok numbers) = (p : IpPrefix) × SpellsPrefix p text × (numbers ≡ addresses_of p)
ReadsAddresses text (Err Value) = ReadsPrefix text (Err faults.BadText)
ReadsAddresses text (Err TooLong) = ReadsPrefix text (Err faults.TooLong)
ReadsAddresses text (Err HostBits) = ReadsPrefix text (Err faults.HostBits)
ReadsAddresses text (Err fault) = ⊥

abbrev pub as_alone : ℕ → Numbers
as_alone n = record { kind = As; range = range_of n n }

-- One word: digits alone are an AS number; any other word is a prefix.
abbrev pub ReadsOne : List ℕ → Result Numbers ConstraintFaultKind → Type 0
ReadsOne word = OfAscii word (λ r. MatchBool (list_all is_ascii_digit word) (Then (ReadsNumber word) (λ n q. q ≡ Ok (as_alone n)) r) (ReadsAddresses word r))

abbrev pub is_dash : List ℕ → Bool
is_dash word = bytes_eq word (45 ∷ [])

-- after a dash: the end of a range, and nothing more
abbrev pub ReadsRangeTo : List ℕ → List (List ℕ) → Result Numbers ConstraintFaultKind → Type 0
ReadsRangeTo begin [] r = r ≡ Err NoValue
ReadsRangeTo begin (end ∷ []) r = ReadsRange begin end r
ReadsRangeTo begin (end ∷ second ∷ more) r = r ≡ Err SecondValue

-- after `allow` or `deny`: one word, or two with a dash between them
abbrev pub ReadsValue : List (List ℕ) → Result Numbers ConstraintFaultKind → Type 0
ReadsValue [] r = r ≡ Err NoValue
ReadsValue (value ∷ []) r = ReadsOne value r
ReadsValue (value ∷ next ∷ more) r = MatchBool (is_dash next) (ReadsRangeTo value more r) (r ≡ Err SecondValue)
