-- Numbers in their fewest bytes.
use Rattle.std.specs.Prelude.{◌≢◌, ℕ, List, [], ◌∷◌, ⊤}

-- the first byte is not zero
abbrev pub HasNoZero : List ℕ → Type 0
HasNoZero [] = ⊤
HasNoZero (first ∷ more) = first ≢ 0
