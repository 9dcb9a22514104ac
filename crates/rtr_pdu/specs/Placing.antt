-- Steps of writing in place.
use Rattle.std.specs.Prelude.{◌≡◌, ℕ, List, [], ◌∷◌, ◌++◌, length}

-- These four bytes replace the four behind the first `at`.
abbrev pub PutsFour : ℕ → ℕ → ℕ → ℕ → ℕ → List ℕ → List ℕ → Type 0
PutsFour at a b c d old new =
    (done block rest : List ℕ) → old ≡ done ++ (block ++ rest) → length done ≡ at → length block ≡ 4 → new ≡ done ++ ((a ∷ b ∷ c ∷ d ∷ []) ++ rest)
