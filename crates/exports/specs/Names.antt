-- Names of trust anchors, one after the other.
use Rattle.std.specs.Prelude.{ℕ, ◌++◌, ◌||◌, Bool, nat_le, cond, List, [], ◌∷◌, length, Option, Some, None}
use Rattle.std.specs.List.{list_any}
use Rattle.std.specs.Str.{bytes_eq}
use Rattle.prefixes.specs.Payload.{Payload}

-- One of the names is this one.
abbrev pub has_name : List (List ℕ) → List ℕ → Bool
has_name names name = list_any (λ n. bytes_eq n name) names

-- the names with one more, if it is new and there is room
abbrev pub with_name : List (List ℕ) → Option (List ℕ) → List (List ℕ)
with_name names None = names
with_name names (Some name) = cond (has_name names name || nat_le 32 (length names)) names (names ++ name ∷ [])

abbrev pub with_names : List (List ℕ) → List (Payload × Option (List ℕ)) → List (List ℕ)
with_names names [] = names
with_names names (p ∷ ps) = with_names (with_name names p.1) ps
