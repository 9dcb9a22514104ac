-- The numbers of all entries of one action, as sets.
use Rattle.std.proofs.Common.{◌≡◌, ℕ, Bool, true, false, ◌||◌, ◌&&◌, List, [], ◌∷◌, inl, inr, ◌↔◌, ◌⊎◌, refl, sym, ap, subst, ◌∙◌}
use Rattle.resources.specs.declared.kind.ResourceKind.{ResourceKind}
use Rattle.resources.specs.declared.kind.ResourceKind.TheVariants.{Ipv4, Ipv6, As}
use Rattle.resources.specs.declared.range.ResourceRange.{ResourceRange}
use Rattle.resources.specs.Ranges.{Covers}
use Rattle.constraints.specs.declared.action.ConstraintAction.{ConstraintAction}
use Rattle.constraints.specs.declared.constraint.Constraint.{Constraint}
use Rattle.constraints.specs.declared.gathered.Gathered.{Gathered}
use Rattle.constraints.specs.Judging.{is_ip, is_as, same_action, Lists, has}
use Rattle.constraints.specs.Gathering.{set_of, AddsAll, Gathers}

-- ---- all entries

-- what was gathered, and the entries that are left, are all
pub record Leaves (action : ConstraintAction) (all rest : List Constraint) (g : Gathered) : Type 0 where
  pub covers : (kind : ResourceKind) (n : ℕ) → Lists action kind all n ↔ (Covers (set_of g kind) n ⊎ Lists action kind rest n)
  pub some_ip : has action is_ip all ≡ (g.some_ip || has action is_ip rest)
  pub some_as : has action is_as all ≡ (g.some_as || has action is_as rest)

pub leaves_all : (action : ConstraintAction) (all : List Constraint) (g : Gathered) → g.v4 ≡ [] → g.v6 ≡ [] → g.numbers ≡ [] → g.some_ip ≡ false → g.some_as ≡ false → Leaves action all all g
leaves_all action all g v4 v6 numbers ip asn = record {
  covers = λ kind n. ((λ l. inr l), of kind n);
  some_ip = sym (ap (λ (x : Bool). x || has action is_ip all) ip);
  some_as = sym (ap (λ (x : Bool). x || has action is_as all) asn);
}
  where
    none : (kind : ResourceKind) (n : ℕ) → Covers (set_of g kind) n → ⊥
    none Ipv4 n c = subst (λ (l : List ResourceRange). Covers l n) v4 c
    none Ipv6 n c = subst (λ (l : List ResourceRange). Covers l n) v6 c
    none As n c = subst (λ (l : List ResourceRange). Covers l n) numbers c

    of : (kind : ResourceKind) (n : ℕ) → Covers (set_of g kind) n ⊎ Lists action kind all n → Lists action kind all n
    of kind n (inl c) = absurd (none kind n c)
    of kind n (inr l) = l

turned : (a b c x : Bool) → x ≡ (b || a) → (a || (b || c)) ≡ (x || c)
turned true true c x e = rw (e) refl
turned true false c x e = rw (e) refl
turned false true c x e = rw (e) refl
turned false false c x e = rw (e) refl

one_entry : (a : Bool) → (a || false) ≡ a
one_entry true = refl
one_entry false = refl

pub leaves_on : (action : ConstraintAction) (all : List Constraint) (e : Constraint) (rest : List Constraint) (g new : Gathered) → Leaves action all (e ∷ rest) g → AddsAll action g (e ∷ []) new → Leaves action all rest new
leaves_on action all e rest g new l a = record {
  covers = λ kind n. ((λ x. to kind n ((l.covers kind n).0 x)), (λ x. (l.covers kind n).1 (of kind n x)));
  some_ip = l.some_ip ∙ turned g.some_ip (same_action e.action action && is_ip e.kind) (has action is_ip rest) new.some_ip
      (a.some_ip ∙ ap (λ (x : Bool). x || g.some_ip) (one_entry (same_action e.action action && is_ip e.kind)));
  some_as = l.some_as ∙ turned g.some_as (same_action e.action action && is_as e.kind) (has action is_as rest) new.some_as
      (a.some_as ∙ ap (λ (x : Bool). x || g.some_as) (one_entry (same_action e.action action && is_as e.kind)));
}
  where
    to : (kind : ResourceKind) (n : ℕ) → Covers (set_of g kind) n ⊎ Lists action kind (e ∷ rest) n → Covers (set_of new kind) n ⊎ Lists action kind rest n
    to kind n (inl c) = inl ((a.covers kind n).1 (inr c))
    to kind n (inr (inl i)) = inl ((a.covers kind n).1 (inl (inl i)))
    to kind n (inr (inr r)) = inr r

    back : (kind : ResourceKind) (n : ℕ) → Lists action kind (e ∷ []) n ⊎ Covers (set_of g kind) n → Covers (set_of g kind) n ⊎ Lists action kind (e ∷ rest) n
    back kind n (inl (inl i)) = inr (inl i)
    back kind n (inl (inr i)) = absurd i
    back kind n (inr c) = inl c

    of : (kind : ResourceKind) (n : ℕ) → Covers (set_of new kind) n ⊎ Lists action kind rest n → Covers (set_of g kind) n ⊎ Lists action kind (e ∷ rest) n
    of kind n (inl c) = back kind n ((a.covers kind n).0 c)
    of kind n (inr r) = inr (inr r)

pub leaves_none : (action : ConstraintAction) (all rest : List Constraint) (g : Gathered) → rest ≡ [] → Leaves action all rest g → Gathers action all g
leaves_none action all rest g end l = record {
  covers = λ kind n. ((λ c. (l.covers kind n).1 (inl c)), (λ x. of kind n ((l.covers kind n).0 x)));
  some_ip = sym (l.some_ip ∙ ap (λ (r : List Constraint). g.some_ip || has action is_ip r) end ∙ one_entry g.some_ip);
  some_as = sym (l.some_as ∙ ap (λ (r : List Constraint). g.some_as || has action is_as r) end ∙ one_entry g.some_as);
}
  where
    of : (kind : ResourceKind) (n : ℕ) → Covers (set_of g kind) n ⊎ Lists action kind rest n → Covers (set_of g kind) n
    of kind n (inl c) = c
    of kind n (inr r) = absurd (subst (λ (x : List Constraint). Lists action kind x n) end r)
