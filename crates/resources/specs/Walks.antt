-- How two lists of ranges are walked.
use Rattle.std.specs.Prelude.{ℕ, Bool, false, max, min, nat_lt, nat_le, if◌then◌else◌, List, [], ◌∷◌, ◌+◌}
use Rattle.resources.specs.declared.range.ResourceRange.{ResourceRange}

-- the ranges from the first that does not end before this number
abbrev pub from_end : ℕ → List ResourceRange → List ResourceRange
from_end n [] = []
from_end n (first ∷ others) = if nat_lt first.high n then from_end n others else first ∷ others

-- the first of the ranges begins no later than this one
abbrev pub begins_by : ResourceRange → List ResourceRange → Bool
begins_by range [] = false
begins_by range (first ∷ others) = nat_le first.low range.low

-- the first of the ranges begins no later than this one ends
abbrev pub begins_in : ResourceRange → List ResourceRange → Bool
begins_in range [] = false
begins_in range (first ∷ others) = nat_le first.low range.high

-- from the lower beginning to the higher end
abbrev pub hull : ResourceRange → ResourceRange → ResourceRange
hull a b = record { low = min a.low b.low; high = max a.high b.high }

-- a range among others, in order: it becomes one with those that it overlaps or touches
unfoldable pub merged : ResourceRange → List ResourceRange → List ResourceRange
merged range [] = range ∷ []
merged range (next ∷ more) =
    if nat_lt (range.high + 1) next.low then range ∷ merged next more else if nat_lt (next.high + 1) range.low then next ∷ merged range more else merged (hull range next) more
