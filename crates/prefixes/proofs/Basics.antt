-- Tests of numbers and of truth values, and slots of a list.
use Rattle.std.specs.Prelude.{◌≡◌, ℕ, ◌<◌, ◌==◌, Bool, true, false, not, ◌||◌, nat_lt, List, [], ◌∷◌, ◌++◌, length, Some, slice_get, slice_set, refl}
use Rattle.std.specs.List.{AllByRecursion}
use Rattle.std.proofs.Common.{sym, ap, ◌∙◌, arith, zero, suc}
use Rattle.std.proofs.lemmas.Bool.Decides.{nat_tests}

pub not_both : (b : Bool) → b ≡ true → b ≡ false → ⊥
not_both b h k = let e : true ≡ false = sym h ∙ k in cc

pub true_of_not : (b : Bool) → not b ≡ false → b ≡ true
true_of_not true h = refl
true_of_not false h = absurd (let e : true ≡ false = h in cc)

pub false_of_not : (b : Bool) → not b ≡ true → b ≡ false
false_of_not true h = absurd (let e : false ≡ true = h in cc)
false_of_not false h = refl

pub false_if_never : (b : Bool) → (b ≡ true → ⊥) → b ≡ false
false_if_never true h = absurd (h refl)
false_if_never false h = refl

pub or_swap : (a b c : Bool) → (a || (b || c)) ≡ (b || (a || c))
or_swap true true c = refl
or_swap true false c = refl
or_swap false b c = refl

pub eq_self : (a : ℕ) → (a == a) ≡ true
eq_self a = grind (arith, nat_tests)

pub eq_of : (a b : ℕ) → (a == b) ≡ true → a ≡ b
eq_of a b h = grind (arith, nat_tests)

pub eq_true : (a b : ℕ) → a ≡ b → (a == b) ≡ true
eq_true a b h = grind (arith, nat_tests)

pub not_eq_of : (a b : ℕ) → (a == b) ≡ false → ¬ (a ≡ b)
not_eq_of a b h e = grind (arith, nat_tests)

pub lt_true : (a b : ℕ) → a < b → nat_lt a b ≡ true
lt_true a b h = grind (arith, nat_tests)

-- a slot that is set, and the others
pub set_same : {X : Type 0} (xs : List X) (c : ℕ) (x : X) → c < length xs → slice_get (slice_set xs c x) c ≡ Some x
set_same [] c x h = absurd (omega (arith, h))
set_same (y ∷ xs) zero x h = refl
set_same (y ∷ xs) (suc c) x h = set_same xs c x (omega (arith, h))

pub set_other : {X : Type 0} (xs : List X) (c d : ℕ) (x : X) → ¬ (d ≡ c) → slice_get (slice_set xs c x) d ≡ slice_get xs d
set_other [] c d x h = refl
set_other (y ∷ xs) zero zero x h = absurd (h refl)
set_other (y ∷ xs) zero (suc d) x h = refl
set_other (y ∷ xs) (suc c) zero x h = refl
set_other (y ∷ xs) (suc c) (suc d) x h = set_other xs c d x (λ e. h (ap (λ n. suc n) e))

-- what holds of each of two lists holds of each of both together
pub all_both : {X : Type 0} (P : X → Type 0) (xs ys : List X) → AllByRecursion P xs → AllByRecursion P ys → AllByRecursion P (xs ++ ys)
all_both P [] ys h k = k
all_both P (x ∷ xs) ys h k = (h.0, all_both P xs ys h.1 k)
