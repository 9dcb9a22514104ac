-- Rules that are judged in order.
use Rattle.std.proofs.Common.{◌≡◌, ℕ, Bool, true, false, List, [], ◌∷◌, Some, None, Result, Ok, Err, refl, sym, ap, ◌∙◌, ◌⊎◌, inl, inr}
use Rattle.der_lite.specs.Place.{Fault, first_of}
use Rattle.der_lite.specs.Grammar.{Breaks, KeepsRules}
use Rattle.der_lite.specs.DerReading.{◌>>=◌, judged}

-- the first rule is kept, and the others
pub kept_first : (number : ℕ) (a : Bool) (rules : List (ℕ × Bool)) → KeepsRules ((number, a) ∷ rules) → (a ≡ false) × KeepsRules rules
kept_first number true rules h = absurd cc
kept_first number false rules h = (refl, h)

-- a rule that is kept, before others
pub kept_on : (number : ℕ) (a : Bool) (rules : List (ℕ × Bool)) → a ≡ false → KeepsRules rules → KeepsRules ((number, a) ∷ rules)
kept_on number true rules h later = absurd cc
kept_on number false rules h later = later

-- if no rule is broken, what follows is the result
pub judged-kept : {A : Type 0} (rules : List (ℕ × Bool)) (at : ℕ) (r : Result A Fault) → first_of rules ≡ None → judged rules at r ≡ r
judged-kept [] at r kept = refl
judged-kept ((number, true) ∷ rules) at r kept = absurd cc
judged-kept ((number, false) ∷ rules) at r kept = judged-kept rules at r kept

-- if a rule is broken, the first such is the fault
pub judged-broken : {A : Type 0} (rules : List (ℕ × Bool)) (at n : ℕ) (r : Result A Fault) → first_of rules ≡ Some n → judged rules at r ≡ Err (record { number = n; offset = at })
judged-broken [] at n r broken = absurd cc
judged-broken ((number, true) ∷ rules) at n r broken = let same : number ≡ n = cc in ap (λ (k : ℕ). Err (record { number = k; offset = at })) same
judged-broken ((number, false) ∷ rules) at n r broken = judged-broken rules at n r broken

-- what was judged, by what it gave
pub judged_ok : {A : Type 0} (rules : List (ℕ × Bool)) (at : ℕ) (r : Result A Fault) (x : A) → judged rules at r ≡ Ok x → KeepsRules rules × (r ≡ Ok x)
judged_ok [] at r x e = (refl, e)
judged_ok ((number, true) ∷ rules) at r x e = absurd cc
judged_ok ((number, false) ∷ rules) at r x e = judged_ok rules at r x e

-- a value, as a result with faults
abbrev pub ok : {A : Type 0} → A → Result A Fault
ok x = Ok x

-- a fault, as a result
abbrev pub err : {A : Type 0} → Fault → Result A Fault
err f = Err f

-- two results with faults are one only if the faults are
pub err_is : {A : Type 0} (f g : Fault) → err {A = A} f ≡ err g → f ≡ g
err_is f g e = cc

-- a fault that judging gave is that of a rule, otherwise of what follows
pub judged_err : {A : Type 0} (rules : List (ℕ × Bool)) (at : ℕ) (r : Result A Fault) (f : Fault) → judged rules at r ≡ Err f → Breaks rules at f ⊎ (KeepsRules rules × (r ≡ Err f))
judged_err [] at r f e = inr (refl, e)
judged_err {A} ((number, true) ∷ rules) at r f e =
    let same : record { number = number; offset = at } ≡ f = err_is {A = A} (record { number = number; offset = at }) f e in
    inl (record { first = ap (λ (g : Fault). Some g.number) same; here = ap (λ (g : Fault). g.offset) (sym same) })
judged_err ((number, false) ∷ rules) at r f e =
    elim (judged_err rules at r f e) [ inl b ↦ inl (record { first = b.first; here = b.here }) | inr k ↦ inr k ]

-- a broken rule is the fault that judging gives
pub judged_breaks : {A : Type 0} (rules : List (ℕ × Bool)) (at : ℕ) (r : Result A Fault) (f : Fault) → Breaks rules at f → judged rules at r ≡ Err f
judged_breaks rules at r f b = judged-broken rules at f.number r b.first ∙ ap (λ (o : ℕ). Err (record { number = f.number; offset = o })) (sym b.here)

-- a value in two steps: each gave one
pub bind_ok : {A B : Type 0} (r : Result A Fault) (f : A → Result B Fault) (y : B) → (r >>= f) ≡ Ok y → (x : A) × (r ≡ Ok x) × (f x ≡ Ok y)
bind_ok (Ok x) f y e = (x, refl, e)
bind_ok (Err d) f y e = absurd cc

-- a fault in two steps: the first gave it, otherwise the second
pub bind_err : {A B : Type 0} (r : Result A Fault) (f : A → Result B Fault) (d : Fault) → (r >>= f) ≡ Err d → (r ≡ Err d) ⊎ ((x : A) × (r ≡ Ok x) × (f x ≡ Err d))
bind_err (Ok x) f d e = inr (x, refl, e)
bind_err {A} {B} (Err c) f d e = inl (ap (λ (g : Fault). err {A = A} g) (err_is {A = B} c d e))

-- two results with values are one only if the values are
pub ok_is : {A : Type 0} (x y : A) → ok x ≡ ok y → x ≡ y
ok_is x y e = cc

-- what is done with a result is done behind the rules
pub judged-bind : {A B : Type 0} (rules : List (ℕ × Bool)) (at : ℕ) (r : Result A Fault) (f : A → Result B Fault) → (judged rules at r >>= f) ≡ judged rules at (r >>= f)
judged-bind [] at r f = refl
judged-bind ((number, true) ∷ rules) at r f = refl
judged-bind ((number, false) ∷ rules) at r f = judged-bind rules at r f
