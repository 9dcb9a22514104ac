-- How a message shows a JSON value.
use Rattle.std.specs.Prelude.{◌≡◌, ◌⊎◌, ℕ, ◌≤◌, false, List, ◌++◌, length, take, codes}
use Rattle.serde_json.specs.Data.{Data}
use Rattle.serde_json.specs.Written.{compact_text, has_float}

-- A text, or its beginning of at most 80 bytes and three dots
abbrev pub IsCut : List ℕ → List ℕ → Type 0
IsCut whole cut = ((cut ≡ whole) × (length whole ≤ 80)) ⊎ ((n : ℕ) × (n ≤ 80) × (cut ≡ take n whole ++ codes "..."))

-- A value is shown by its JSON text. (Which digits a number with a fraction has is not said.)
abbrev pub Shows : Data → List ℕ → Type 0
Shows d shown = (whole : List ℕ) × (has_float d ≡ false → whole ≡ compact_text d) × IsCut whole shown
