-- Which of several certificates counts that are anchors of one key.
use Rattle.std.specs.Prelude.{◌≡◌, ◌⊎◌, ℕ, ◌<◌, true, List, length, slice_index_or}
use Rattle.der_lite.specs.Moments.{CivilMoment, moment_before}

-- from notBefore to notAfter
abbrev pub Times : Type 0
Times = CivilMoment × CivilMoment

-- The first begins later; or both begin at once, and the first ends earlier.
abbrev pub IsBetter : Times → Times → Type 0
IsBetter v w = (moment_before w.0 v.0 ≡ true) ⊎ ((v.0 ≡ w.0) × (moment_before v.1 w.1 ≡ true))

-- None is better than the one at this place, and it is better than each before it.
pub record IsChosen (all : List Times) (place : ℕ) : Type 0 where
  pub within : place < length all
  pub best : (k : ℕ) (d : Times) → k < length all → ¬ (IsBetter (slice_index_or all k d) (slice_index_or all place d))
  pub first : (k : ℕ) (d : Times) → k < place → IsBetter (slice_index_or all place d) (slice_index_or all k d)

-- Nothing is better than itself; what is better than a better one is better; and of two that differ one is better.
pub record OneIsBetter : Type 0 where
  pub irreflexive : (v : Times) → ¬ (IsBetter v v)
  pub transitive : (u v w : Times) → IsBetter u v → IsBetter v w → IsBetter u w
  pub total : (v w : Times) → (v ≡ w) ⊎ IsBetter v w ⊎ IsBetter w v
