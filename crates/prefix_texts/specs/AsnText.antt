-- Texts of AS numbers, as validators write them.
use Rattle.std.specs.Prelude.{◌≡◌, ◌⊎◌, ℕ, ◌^◌, ◌<◌, List, ◌++◌, codes}
use Rattle.std.specs.Fmt.{decimal}

-- The text of an AS number: the number in decimal, with AS before it or without
abbrev pub AsnText : ℕ → List ℕ → Type 0
AsnText n text = (text ≡ decimal n) ⊎ (text ≡ codes "AS" ++ decimal n)

-- The text is that of no AS number.
abbrev pub IsNoAsn : List ℕ → Type 0
IsNoAsn text = (n : ℕ) → n < 2 ^ 32 → ¬ (AsnText n text)
