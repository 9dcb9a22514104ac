-- The words of a line of a file of constraints.
use Rattle.std.specs.Prelude.{ℕ, Bool, true, false, not, ◌||◌, ◌==◌, if◌then◌else◌, List, [], ◌∷◌, flat_map, filter}
use Rattle.std.specs.List.{slice_split}

-- what is before the first byte that passes; all, if none does
abbrev pub until : (ℕ → Bool) → List ℕ → List ℕ
until p [] = []
until p (b ∷ more) = if p b then [] else b ∷ until p more

-- the first byte that passes, and what follows it
abbrev pub from : (ℕ → Bool) → List ℕ → List ℕ
from p [] = []
from p (b ∷ more) = if p b then b ∷ more else from p more

-- an LF
abbrev pub is_line_feed : ℕ → Bool
is_line_feed b = b == 10

-- '#' begins a comment
abbrev pub begins_comment : ℕ → Bool
begins_comment b = b == 35

-- a line without its comment
abbrev pub uncommented : List ℕ → List ℕ
uncommented line = until begins_comment line

-- a space or a tab
abbrev pub is_blank : ℕ → Bool
is_blank b = (b == 32) || (b == 9)

abbrev pub not_blank : ℕ → Bool
not_blank b = not (is_blank b)

-- a blank, or a dash
abbrev pub ends_word : ℕ → Bool
ends_word b = is_blank b || (b == 45)

-- a dash is a word of its own, as if blanks were on both sides of it
abbrev pub spaced : ℕ → List ℕ
spaced b = if b == 45 then 32 ∷ 45 ∷ 32 ∷ [] else b ∷ []

abbrev pub is_word : List ℕ → Bool
is_word [] = false
is_word (b ∷ more) = true

-- the words of a text: what is between blanks
unfoldable pub words : List ℕ → List (List ℕ)
words text = filter is_word (slice_split is_blank (flat_map spaced text))
