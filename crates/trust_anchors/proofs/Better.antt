-- Which time is better.
use Rattle.std.proofs.Common.{◌≡◌, ◌⊎◌, inl, inr, Bool, true, false, sym, ap, subst, ◌∙◌, ℕ, zero, suc, ◌==◌, ◌+◌, ◌<◌, ◌≤◌, List, length, get_or, arith}
use Rattle.std.proofs.lemmas.Bool.{cases_lt}
use Rattle.std.proofs.lemmas.List.{get_or_default}
use Rattle.std.specs.Bool.{IsTrue}
use Rattle.der_lite.specs.Moments.{CivilMoment, moment_before}
use Rattle.der_lite.proofs.TimeLaws.{not_before_itself, before_chain, one_before}
use Rattle.trust_anchors.specs.Choice.{Times, IsBetter, IsChosen, OneIsBetter}

pub irreflexive : (v : Times) → IsBetter v v → ⊥
irreflexive v (inl later) = not_before_itself v.0 later
irreflexive v (inr same) = not_before_itself v.1 same.1

pub transitive : (u v w : Times) → IsBetter u v → IsBetter v w → IsBetter u w
transitive u v w (inl a) (inl b) = inl (before_chain w.0 v.0 u.0 b a)
transitive u v w (inl a) (inr b) = inl (subst (λ (m : CivilMoment). moment_before m u.0 ≡ true) b.0 a)
transitive u v w (inr a) (inl b) = inl (subst (λ (m : CivilMoment). moment_before w.0 m ≡ true) (sym a.0) b)
transitive u v w (inr a) (inr b) = inr (a.0 ∙ b.0, before_chain u.1 v.1 w.1 a.1 b.1)

pair : (v w : Times) → v.0 ≡ w.0 → v.1 ≡ w.1 → v ≡ w
pair v w a b = ap (λ (m : CivilMoment). (m, v.1)) a ∙ ap (λ (m : CivilMoment). (w.0, m)) b

by_ends : (v w : Times) → v.0 ≡ w.0 → (v.1 ≡ w.1) ⊎ (moment_before v.1 w.1 ≡ true) ⊎ (moment_before w.1 v.1 ≡ true) → (v ≡ w) ⊎ IsBetter v w ⊎ IsBetter w v
by_ends v w e (inl same) = inl (pair v w e same)
by_ends v w e (inr (inl before)) = inr (inl (inr (e, before)))
by_ends v w e (inr (inr after)) = inr (inr (inr (sym e, after)))

by_begins : (v w : Times) → (v.0 ≡ w.0) ⊎ (moment_before v.0 w.0 ≡ true) ⊎ (moment_before w.0 v.0 ≡ true) → (v ≡ w) ⊎ IsBetter v w ⊎ IsBetter w v
by_begins v w (inl same) = by_ends v w same (one_before v.1 w.1)
by_begins v w (inr (inl before)) = inr (inr (inl before))
by_begins v w (inr (inr after)) = inr (inl (inl after))

pub total : (v w : Times) → (v ≡ w) ⊎ IsBetter v w ⊎ IsBetter w v
total v w = by_begins v w (one_before v.0 w.0)

pub better_law : OneIsBetter
better_law = record { irreflexive = irreflexive; transitive = transitive; total = total }

-- if neither begins later, the end decides
pub by_end : (v w : Times) (r : Bool) → moment_before w.0 v.0 ≡ false → moment_before v.0 w.0 ≡ false → r ≡ moment_before v.1 w.1
    → (IsTrue r → IsBetter v w) × (IsBetter v w → IsTrue r)
by_end v w r a b e = (λ t. inr (same_begin v w a b (one_before v.0 w.0), sym e ∙ t), λ better. e ∙ ends_earlier v w a better) where
  same_begin : (v w : Times) → moment_before w.0 v.0 ≡ false → moment_before v.0 w.0 ≡ false
      → (v.0 ≡ w.0) ⊎ (moment_before v.0 w.0 ≡ true) ⊎ (moment_before w.0 v.0 ≡ true) → v.0 ≡ w.0
  same_begin v w a b (inl same) = same
  same_begin v w a b (inr (inl before)) = cc
  same_begin v w a b (inr (inr after)) = cc

  ends_earlier : (v w : Times) → moment_before w.0 v.0 ≡ false → IsBetter v w → moment_before v.1 w.1 ≡ true
  ends_earlier v w a (inl later) = cc
  ends_earlier v w a (inr same) = same.1

-- the places up to one were compared, and the best is this
pub record IsBestOf (all : List Times) (at best : ℕ) : Type 0 where
  pub within : best < at
  pub none_better : (k : ℕ) (d : Times) → k < at → IsBetter (get_or all k d) (get_or all best d) → ⊥
  pub first : (k : ℕ) (d : Times) → k < best → IsBetter (get_or all best d) (get_or all k d)

pub best_first : (all : List Times) → IsBestOf all 1 0
best_first all = record {
  within = omega arith;
  none_better = λ k d l. let e : k ≡ 0 = omega arith in λ b. irreflexive (get_or all 0 d) (subst (λ (j : ℕ). IsBetter (get_or all j d) (get_or all 0 d)) e b);
  first = λ k d l. absurd (omega arith);
}

-- at the place itself, or before it
up_to : (P : ℕ → Type 0) (at k : ℕ) → k < at + 1 → ((j : ℕ) → j < at → P j) → P at → P k
up_to P at k l below here = elim (cases_lt k at) [
  | inl less ↦ below k less
  | inr not ↦ (let e : k ≡ at = omega arith in subst P (sym e) here)
]

-- the best stays
pub best_stays : (all : List Times) (at best : ℕ) → IsBestOf all at best → ((d : Times) → IsBetter (get_or all at d) (get_or all best d) → ⊥) → IsBestOf all (at + 1) best
best_stays all at best b not = record {
  within = omega (arith, b.within);
  none_better = λ k d l. up_to (λ (j : ℕ). IsBetter (get_or all j d) (get_or all best d) → ⊥) at k l (λ j m. b.none_better j d m) (not d);
  first = b.first;
}

-- another is better than the best, and so than all before
better_than : (u v w : Times) → IsBetter u v → (IsBetter w v → ⊥) → (w ≡ v) ⊎ IsBetter w v ⊎ IsBetter v w → IsBetter u w
better_than u v w b not (inl same) = subst (λ (x : Times). IsBetter u x) (sym same) b
better_than u v w b not (inr (inl better)) = absurd (not better)
better_than u v w b not (inr (inr worse)) = transitive u v w b worse

pub best_changes : (all : List Times) (at best : ℕ) → IsBestOf all at best → ((d : Times) → IsBetter (get_or all at d) (get_or all best d)) → IsBestOf all (at + 1) at
best_changes all at best b better = record {
  within = omega arith;
  none_better = λ k d l. up_to (λ (j : ℕ). IsBetter (get_or all j d) (get_or all at d) → ⊥) at k l
      (λ j m worse. b.none_better j d m (transitive (get_or all j d) (get_or all at d) (get_or all best d) worse (better d))) (irreflexive (get_or all at d));
  first = λ k d l. better_than (get_or all at d) (get_or all best d) (get_or all k d) (better d) (b.none_better k d l) (total (get_or all k d) (get_or all best d));
}

pub best_of_all : (all : List Times) (at best : ℕ) → IsBestOf all at best → at ≡ length all → IsChosen all best
best_of_all all at best b e = record {
  within = omega (arith, b.within, e);
  best = λ k d l. b.none_better k d (omega (arith, e));
  first = b.first;
}

-- the same of what was read at two places
pub better_at : (all : List Times) (i j : ℕ) (x y : Times) → i < length all → j < length all → x ≡ get_or all i x → y ≡ get_or all j y → IsBetter x y
    → (d : Times) → IsBetter (get_or all i d) (get_or all j d)
better_at all i j x y p q e f b d =
    subst (λ (z : Times). IsBetter z (get_or all j d)) (e ∙ get_or_default all i x d p)
    (subst (λ (z : Times). IsBetter x z) (f ∙ get_or_default all j y d q) b)

pub not_better_at : (all : List Times) (i j : ℕ) (x y : Times) → i < length all → j < length all → x ≡ get_or all i x → y ≡ get_or all j y → (IsBetter x y → ⊥)
    → (d : Times) → IsBetter (get_or all i d) (get_or all j d) → ⊥
not_better_at all i j x y p q e f not d b =
    not (subst (λ (z : Times). IsBetter z y) (sym (e ∙ get_or_default all i x d p))
    (subst (λ (z : Times). IsBetter (get_or all i d) z) (sym (f ∙ get_or_default all j y d q)) b))

pub some_there : (n : ℕ) → (n == 0) ≡ false → 1 ≤ n
some_there zero e = cc
some_there (suc n) e = omega arith
