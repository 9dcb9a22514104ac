-- Steps of reading a text.
use Rattle.std.specs.Prelude.{◌≡◌, ℕ, ◌<◌, ◌≤◌, List, length, slice_index, Result, Ok, Err, Option, Some, None}
use Rattle.prefixes.specs.Address.{Block, HasNoHostBits, IsPrefix}
use Rattle.prefixes.specs.declared.fault.PrefixFault.{PrefixFault}
use Rattle.prefixes.specs.declared.fault.PrefixFault.TheVariants as faults

-- A text of decimal digits without leading zeros begins with no sign, and with 0 only if 0 is all of it.
pub record BeginsNumeral (text : List ℕ) : Type 0 where
  pub some : 0 < length text
  pub digit : 48 ≤ slice_index text 0
  pub lone_zero : slice_index text 0 ≡ 48 → length text ≡ 1

-- The number below a bound of which a text is one, or that there is none
abbrev pub IsOnly : ℕ → (ℕ → Type 0) → Option ℕ → Type 0
IsOnly bound IsText (Some n) = (n < bound) × IsText n
IsOnly bound IsText None = (n : ℕ) → n < bound → ¬ (IsText n)

-- The prefix of an address and a length, or its first fault: a length over the width, then host bits
abbrev pub IsBlockJudged : ℕ → Block → Result Block PrefixFault → Type 0
IsBlockJudged width p (Ok q) = (q ≡ p) × IsPrefix width p
IsBlockJudged width p (Err faults.TooLong) = width < p.len
IsBlockJudged width p (Err faults.HostBits) = (p.len ≤ width) × ¬ (HasNoHostBits width p.addr p.len)
IsBlockJudged width p (Err faults.BadText) = ⊥
IsBlockJudged width p (Err faults.MaxLength) = ⊥
