-- Lines of a file.
use Rattle.std.specs.Prelude.{◌≡◌, ℕ, List, [], ◌∷◌, ◌++◌}
use Rattle.std.specs.List.{concat}
use Rattle.std.specs.Str.Iter.{LacksByte}
use Rattle.std.specs.Str.Lines.{strip_carriage_return}

-- The bytes begin with this line, and this follows its line break. A line ends at the first LF, and a CR before that is of the line break
-- (RFC 8630 section 2.2).
pub record IsLine (line rest bytes : List ℕ) : Type 0 where
  pub part : List ℕ
  pub ended : bytes ≡ part ++ 10 ∷ rest
  pub first : LacksByte 10 part
  pub text : line ≡ strip_carriage_return part

-- The bytes begin with these lines, each of which has the property, and this follows them.
abbrev pub Lines : (List ℕ → Type 0) → List (List ℕ) → List ℕ → List ℕ → Type 0
Lines P [] rest bytes = bytes ≡ rest
Lines P (line ∷ lines) rest bytes = (after : List ℕ) × IsLine line after bytes × P line × Lines P lines rest after

-- the lines with the property from the first on, all of them
pub record Section (P : List ℕ → Type 0) (lines : List (List ℕ)) (rest bytes : List ℕ) : Type 0 where
  pub all : Lines P lines rest bytes
  pub ends : (line after : List ℕ) → IsLine line after rest → ¬ (P line)

-- whatever the line is
abbrev pub IsAny : List ℕ → Type 0
IsAny line = Unit {0}

-- The bytes are this text, with line breaks in it or at its end.
pub record Joins (text bytes : List ℕ) : Type 0 where
  pub lines : List (List ℕ)
  pub last : List ℕ
  pub all : Lines IsAny lines last bytes
  pub no_break : LacksByte 10 last
  pub joined : text ≡ concat lines ++ last
