-- How many records of a file come from each trust anchor, worked out.
use Rattle.std.specs.Prelude.{◌≡◌, [], ◌∷◌, Some, None, refl}
use Rattle.sources.specs.ByAnchor.{left_with, raised}

-- Two records of the first trust anchor, of which one counts to 99, one of the second, and one of none
before_the_end : (left_with 99 0 (99 ∷ 200 ∷ 200 ∷ 200 ∷ []) (0 ∷ 1 ∷ 0 ∷ 255 ∷ []) ≡ 2) × (left_with 99 1 (99 ∷ 200 ∷ 200 ∷ 200 ∷ []) (0 ∷ 1 ∷ 0 ∷ 255 ∷ []) ≡ 1)
before_the_end = (refl, refl)

after_the_end : (left_with 100 0 (99 ∷ 200 ∷ 200 ∷ 200 ∷ []) (0 ∷ 1 ∷ 0 ∷ 255 ∷ []) ≡ 1) × (left_with 100 1 (99 ∷ 200 ∷ 200 ∷ 200 ∷ []) (0 ∷ 1 ∷ 0 ∷ 255 ∷ []) ≡ 1)
after_the_end = (refl, refl)

-- A record without a number has no trust anchor.
without_numbers : left_with 99 0 (99 ∷ []) [] ≡ 0
without_numbers = refl

second_is_raised : raised (Some 1) (7 ∷ 8 ∷ []) ≡ 7 ∷ 9 ∷ []
second_is_raised = refl

past_the_last : raised (Some 2) (7 ∷ 8 ∷ []) ≡ 7 ∷ 8 ∷ []
past_the_last = refl

none_is_raised : raised None (7 ∷ 8 ∷ []) ≡ 7 ∷ 8 ∷ []
none_is_raised = refl
