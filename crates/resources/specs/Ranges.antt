-- Which numbers ranges have.
use Rattle.std.specs.Prelude.{◌≡◌, ℕ, ◌+◌, ◌≤◌, ◌⊎◌, Bool, true, ◌&&◌, nat_lt, List, [], ◌∷◌, Option, Some, None}
use Rattle.std.specs.List.{All}
use Rattle.resources.specs.declared.range.ResourceRange.{ResourceRange}

-- RFC 3779 sections 2.2.3.6 and 3.2.3.4: ranges that are not empty ascend, and neither overlap nor touch
abbrev pub are_apart : List ResourceRange → Bool
are_apart [] = true
are_apart (a ∷ []) = true
are_apart (a ∷ b ∷ more) = nat_lt (a.high + 1) b.low && are_apart (b ∷ more)

-- a number lies between the end of the range before and this one, if there is one before
abbrev pub is_after : Option ℕ → ResourceRange → Bool
is_after None range = true
is_after (Some high) range = nat_lt (high + 1) range.low

-- No range is empty; they ascend, and neither overlap nor touch.
pub record AreRanges (ranges : List ResourceRange) : Type 0 where
  pub full : All (λ r. r.low ≤ r.high) ranges
  pub apart : are_apart ranges ≡ true

-- a number is in the range
abbrev pub IsIn : ResourceRange → ℕ → Type 0
IsIn range n = (range.low ≤ n) × (n ≤ range.high)

-- a number is in one of the ranges
abbrev pub Covers : List ResourceRange → ℕ → Type 0
Covers [] n = ⊥
Covers (range ∷ others) n = ((range.low ≤ n) × (n ≤ range.high)) ⊎ Covers others n

-- RFC 3779 sections 2.3 and 3.3: each number of the one is one of the other
abbrev pub Within : List ResourceRange → List ResourceRange → Type 0
Within inner outer = (n : ℕ) → Covers inner n → Covers outer n

-- a number is one of both
abbrev pub Overlap : List ResourceRange → List ResourceRange → Type 0
Overlap ranges others = (n : ℕ) × Covers ranges n × Covers others n
