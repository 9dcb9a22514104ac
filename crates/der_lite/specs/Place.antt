-- The place of reading, and what can be wrong there.
use Rattle.std.specs.Prelude.{ℕ, ◌+◌, ◌<◌, ◌^◌, Bool, List, [], ◌∷◌, length, Option, Some, None, if◌then◌else◌}

-- the offset in the whole payload, and the bytes from there to the end of the enclosing element
pub record Place : Type 0 where
  pub at : ℕ
  pub rest : List ℕ

-- a place, by its two parts
abbrev pub place_of : ℕ → List ℕ → Place
place_of at rest = record { at = at; rest = rest }

-- offsets are numbers of the machine
abbrev pub IsCursor : ℕ → List ℕ → Type 0
IsCursor at rest = at + length rest < 2 ^ 64

-- a number of the table of faults, and the offset of what fails
pub record Fault : Type 0 where
  pub number : ℕ
  pub offset : ℕ

-- faults are judged in order: the number of the first that is there
abbrev pub first_of : List (ℕ × Bool) → Option ℕ
first_of [] = None
first_of ((number, is_there) ∷ later) = if is_there then Some number else first_of later
