-- The guard against an export that shrinks: its two options.
use Rattle.std.specs.Prelude.{◌≡◌, ◌≤◌, ℕ, List, codes, Option, None, Some, Result, Ok, Err}
use Rattle.rpkirtrd_cli.specs.Decimals.{ReadsBetween, Writes}

-- the percentage from 1 to 99 that a text writes, or no percentage if it is the word; other texts are refused
abbrev pub ReadsPercentage : {E : Type 0} → List ℕ → Result (Option ℕ) E → Type 0
ReadsPercentage text (Ok (Some n)) = Writes text n × (1 ≤ n) × (n ≤ 99)
ReadsPercentage text (Ok None) = text ≡ codes "none"
ReadsPercentage text (Err e) = ¬ (text ≡ codes "none") × ((n : ℕ) → 1 ≤ n → n ≤ 99 → ¬ (Writes text n))

-- `--max-shrink` is 90 % unless it is given.
abbrev pub ReadsMaxShrink : {E : Type 0} → Option (List ℕ) → Result (Option ℕ) E → Type 0
ReadsMaxShrink None result = result ≡ Ok (Some 90)
ReadsMaxShrink (Some text) result = ReadsPercentage text result

-- `--shrink-hold` is a day unless it is given, and from a minute to a year of 365 days.
abbrev pub ReadsShrinkHold : {E : Type 0} → Option (List ℕ) → Result ℕ E → Type 0
ReadsShrinkHold None result = result ≡ Ok 86400
ReadsShrinkHold (Some text) result = ReadsBetween 60 31536000 text result
