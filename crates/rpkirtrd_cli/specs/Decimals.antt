-- The numbers on a command line, in decimal digits.
use Rattle.std.specs.Prelude.{◌≡◌, ◌<◌, ◌≤◌, ◌^◌, ℕ, List, length, slice_index, Option, None, Some, Result, Ok, Err}
use Rattle.std.specs.Str.Parse.{IsNumeral, digits_value}

-- A text writes a number in decimal digits, without a sign or a leading zero. The text of 0 is one zero.
pub record Writes (text : List ℕ) (n : ℕ) : Type 0 where
  pub digits : IsNumeral 10 text
  pub no_zero_first : slice_index text 0 ≡ 48 → length text ≡ 1
  pub value : digits_value 10 text ≡ n

-- the number of 64 bits that a text writes, or none if it writes none
abbrev pub ReadsNumber : List ℕ → Option ℕ → Type 0
ReadsNumber text (Some n) = Writes text n
ReadsNumber text None = (n : ℕ) → n < 2 ^ 64 → ¬ (Writes text n)

-- the number in a range that a text writes, or none if it writes none in it
abbrev pub ReadsBetween : {E : Type 0} → ℕ → ℕ → List ℕ → Result ℕ E → Type 0
ReadsBetween least most text (Ok n) = Writes text n × (least ≤ n) × (n ≤ most)
ReadsBetween least most text (Err e) = (n : ℕ) → least ≤ n → n ≤ most → ¬ (Writes text n)
