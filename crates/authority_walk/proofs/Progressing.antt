-- How far a validation has come.
use Rattle.std.proofs.Common.{◌≡◌, inl, inr, ℕ, zero, suc, ◌<◌, ◌≤◌, List, [], ◌∷◌, ◌++◌, refl, sym, subst, ap, ◌∙◌, arith}
use Rattle.std.proofs.lemmas.Bool.{cases_lt}
use Rattle.authority_walk.specs.Progress.{Progress, IsDone, Steps, left_of}

-- the same validation has the same reader, and is done if the other is
pub reader_is : {R : Type 0} (p q : Progress R) → p ≡ q → p.reader ≡ q.reader
reader_is {R} p q e = ap (λ (r : Progress R). r.reader) e

pub done_inside : {R : Type 0} (p q : Progress R) → p ≡ q → IsDone q.place → IsDone p.place
done_inside {R} p q e done = subst (λ (r : Progress R). IsDone r.place) (sym e) done

-- once all is done, more steps change nothing
pub steps_on : {R : Type 0} (m n : ℕ) (old new : Progress R) → n ≤ m → IsDone new.place → Steps n old new → Steps m old new
steps_on zero n old new le done s = let e : n ≡ 0 = omega arith in subst (λ k. Steps k old new) e s
steps_on (suc m) n old new le done s = elim (cases_lt m n) [
  | inl lt ↦ (let e : n ≡ suc m = omega arith in subst (λ k. Steps k old new) e s)
  | inr le1 ↦ (new, steps_on m n old new le1 done s, inl (done, refl))
]

-- the last one is the one that was pushed last
pub left_of-push : {A V : Type 0} (left : V → ℕ) (value : A → V) (xs : List A) (a : A) → left_of left value (xs ++ a ∷ []) ≡ left (value a)
left_of-push left value [] a = refl
left_of-push left value (x ∷ []) a = refl
left_of-push left value (x ∷ y ∷ ys) a = left_of-push left value (y ∷ ys) a

pub less_left : {A V : Type 0} (left1 left2 : V → ℕ) (value : A → V) (xs ys zs ws : List A) (a b : A) → ys ≡ xs ++ a ∷ [] → ws ≡ zs ++ b ∷ [] → a ≡ b → left1 (value b) < left2 (value b) → left_of left1 value ys < left_of left2 value ws
less_left left1 left2 value xs ys zs ws a b e f same lt =
    let p : left_of left1 value ys ≡ left1 (value b) = ap (left_of left1 value) e ∙ (left_of-push left1 value xs a ∙ ap (λ x. left1 (value x)) same) in
    let q : left_of left2 value ws ≡ left2 (value b) = ap (left_of left2 value) f ∙ left_of-push left2 value zs b in
    rw (p, q) lt
