-- Texts without a byte.
use Rattle.std.proofs.Common.{◌≢◌, ℕ, zero, suc, ◌<◌, ◌≤◌, List, [], ◌∷◌, ◌++◌, length, get_or, arith, ap}
use Rattle.std.specs.Prelude.{⊤}
use Rattle.std.specs.Char.{digit_value}
use Rattle.std.specs.Str.Parse.{AllDigits}

-- no byte is c
abbrev pub Lacks : ℕ → List ℕ → Type 0
Lacks c [] = ⊤
Lacks c (x ∷ xs) = (x ≢ c) × Lacks c xs

-- Two texts that lack a byte make one that lacks it.
pub both : (c : ℕ) (xs ys : List ℕ) → Lacks c xs → Lacks c ys → Lacks c (xs ++ ys)
both c [] ys h k = k
both c (x ∷ xs) ys h k = (h.0, both c xs ys h.1 k)

-- The front of a text that lacks a byte lacks it,
pub left : (c : ℕ) (xs ys : List ℕ) → Lacks c (xs ++ ys) → Lacks c xs
left c [] ys h = tt
left c (x ∷ xs) ys h = (h.0, left c xs ys h.1)

-- and so does the back.
pub right : (c : ℕ) (xs ys : List ℕ) → Lacks c (xs ++ ys) → Lacks c ys
right c [] ys h = h
right c (x ∷ xs) ys h = right c xs ys h.1

-- A text that lacks a byte has it at no position,
pub at_each : (c : ℕ) (xs : List ℕ) → Lacks c xs → (i : ℕ) → i < length xs → get_or xs i 0 ≢ c
at_each c [] h i within = absurd (omega arith)
at_each c (x ∷ xs) h zero within = h.0
at_each c (x ∷ xs) h (suc i) within = at_each c xs h.1 i (omega arith)

-- and one that has it at no position lacks it.
pub from_each : (c : ℕ) (xs : List ℕ) → ((i : ℕ) → i < length xs → get_or xs i 0 ≢ c) → Lacks c xs
from_each c [] h = tt
from_each c (x ∷ xs) h = (h 0 (omega arith), from_each c xs (λ i within. h (suc i) (omega arith)))

-- Digits lack what is no digit.
pub digits_lack : (c radix : ℕ) → radix ≤ digit_value c → (ds : List ℕ) → AllDigits radix ds → Lacks c ds
digits_lack c radix no_digit [] h = tt
digits_lack c radix no_digit (d ∷ ds) h =
    let other : d ≢ c = λ same. let e = ap digit_value same in omega (arith, h.0, e, no_digit) in
    (other, digits_lack c radix no_digit ds h.1)
