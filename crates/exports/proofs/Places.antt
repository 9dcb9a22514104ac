-- The number of a trust anchor for each member of a set.
use Rattle.std.proofs.Common.{◌≡◌, ◌⊎◌, ℕ, zero, suc, ◌+◌, Bool, true, false, List, [], ◌∷◌, length, replicate, take, set, Some, refl, sym, ap, subst, ◌∙◌, inl, inr, arith}
use Rattle.std.specs.Prelude.{◌==◌, slice_get, ◌&&◌, ◌||◌}
use Rattle.std.specs.Cmp.{tied_itself}
use Rattle.std.specs.List.{AllByRecursion, list_all, list_any}
use Rattle.std.specs.List.Sorted.{IsStrictlySortedBy}
use Rattle.std.specs.Ordering.{is_eq}
use Rattle.std.specs.declared.cmp.Ordering.{Ordering}
use Rattle.std.specs.declared.cmp.Ordering.TheVariants.{Less, Equal, Greater}
use Rattle.std.proofs.lemmas.Bool.Decides.{nat_tests}
use Rattle.std.proofs.lemmas.List.{length-replicate, length-set}
use Rattle.std.proofs.lemmas.List.Folds.{list_any_at, list_any_more}
use Rattle.std.proofs.lemmas.Option.{get_or_from_slice_get, slice_get_within}
use Rattle.prefixes.specs.Orders.{vrp_exact, vrp_total}
use Rattle.prefixes.specs.Payload.{Payload, vrp_cmp}
use Rattle.vrps.specs.VrpSet.{VrpSet, has, listing, set_of, size}
use Rattle.vrps.proofs.Listed.{size_of_listing}
use Rattle.vrps.proofs.SetLaws.{has-listing, has-set_of, same_vrp}
use Rattle.exports.specs.Numbering.{AreNumbers, number_at}
use Rattle.exports.proofs.Lasts.{members_ascend}

-- ---- places in lists

set_here : (xs : List ℕ) (p x k : ℕ) → slice_get (set xs p x) p ≡ Some k → k ≡ x
set_here [] p x k is = absurd (cc)
set_here (y ∷ xs) zero x k is = cc
set_here (y ∷ xs) (suc p) x k is = set_here xs p x k is

set_elsewhere : (xs : List ℕ) (p x i : ℕ) → (i ≡ p → ⊥) → slice_get (set xs p x) i ≡ slice_get xs i
set_elsewhere [] p x i other = refl
set_elsewhere (y ∷ xs) zero x zero other = absurd (other refl)
set_elsewhere (y ∷ xs) zero x (suc i) other = refl
set_elsewhere (y ∷ xs) (suc p) x zero other = refl
set_elsewhere (y ∷ xs) (suc p) x (suc i) other = set_elsewhere xs p x i (λ e. other (ap suc e))

in_replicate : (n a i k : ℕ) → slice_get (replicate n a) i ≡ Some k → k ≡ a
in_replicate zero a i k is = absurd (cc)
in_replicate (suc n) a zero k is = cc
in_replicate (suc n) a (suc i) k is = in_replicate n a i k is

no_number : (numbers : List ℕ) (i : ℕ) → list_all (λ number. number == 255) numbers ≡ true → number_at numbers i ≡ 255
no_number [] i all = refl
no_number (n ∷ numbers) zero all = by_test (n == 255) refl all
  where
    by_test : (b : Bool) → (n == 255) ≡ b → (b && list_all (λ number. number == 255) numbers) ≡ true → n ≡ 255
    by_test true is all = grind (arith, nat_tests)
    by_test false is all = absurd (let no : false ≡ true = all in cc)
no_number (n ∷ numbers) (suc i) all = no_number numbers i (both (n == 255) all)
  where
    both : (b : Bool) → (b && list_all (λ number. number == 255) numbers) ≡ true → list_all (λ number. number == 255) numbers ≡ true
    both true all = all
    both false all = absurd (let no : false ≡ true = all in cc)

-- ---- members

same_itself : (v : Payload) → same_vrp v v ≡ true
same_itself v = ap is_eq (tied_itself vrp_total v)

-- One that is the same is it.
alike : (v w : Payload) → same_vrp v w ≡ true → v ≡ w
alike v w same = vrp_exact v w (by_order (vrp_cmp v w) same)
  where
    by_order : (o : Ordering) → is_eq o ≡ true → o ≡ Equal
    by_order Less h = absurd (let no : false ≡ true = h in cc)
    by_order Equal h = refl
    by_order Greater h = absurd (let no : false ≡ true = h in cc)

pub found_in : (vs : List Payload) (v : Payload) → list_any (same_vrp v) vs ≡ true → (j : ℕ) × (slice_get vs j ≡ Some v)
found_in [] v any = absurd (let no : false ≡ true = any in cc)
found_in (w ∷ vs) v any = by_test (same_vrp v w) refl any (found_in vs v)
  where
    by_test : (b : Bool) → same_vrp v w ≡ b → (b || list_any (same_vrp v) vs) ≡ true → (list_any (same_vrp v) vs ≡ true → (j : ℕ) × (slice_get vs j ≡ Some v)) → (j : ℕ) × (slice_get (w ∷ vs) j ≡ Some v)
    by_test true is any more = (0, ap (λ x. Some x) (sym (alike v w is)))
    by_test false is any more = let r = more any in (suc r.0, r.1)

less_at : (v w : Payload) (vs : List Payload) (j : ℕ) → AllByRecursion (λ y. vrp_cmp v y ≡ Less) vs → slice_get vs j ≡ Some w → vrp_cmp v w ≡ Less
less_at v w [] j below is = absurd (cc)
less_at v w (x ∷ vs) zero below is = let same : x ≡ w = cc in subst (λ y. vrp_cmp v y ≡ Less) same below.0
less_at v w (x ∷ vs) (suc j) below is = less_at v w vs j below.1 is

not_below : (v w : Payload) (P : Type 0) → v ≡ w → vrp_cmp v w ≡ Less → P
not_below v w P same less = let no : Less ≡ Equal = sym less ∙ ap (λ x. vrp_cmp v x) (sym same) ∙ tied_itself vrp_total v in absurd (cc)

-- A payload has one place among some that ascend.
one_place : (vs : List Payload) (i j : ℕ) (v : Payload) → IsStrictlySortedBy vrp_cmp vs → slice_get vs i ≡ Some v → slice_get vs j ≡ Some v → i ≡ j
unfolding IsStrictlySortedBy
one_place [] i j v ascends at there = absurd (cc)
one_place (w ∷ vs) zero zero v ascends at there = refl
one_place (w ∷ vs) zero (suc j) v ascends at there = let same : w ≡ v = cc in not_below w v (zero ≡ suc j) same (less_at w v vs j ascends.0 there)
one_place (w ∷ vs) (suc i) zero v ascends at there = let same : w ≡ v = cc in not_below w v (suc i ≡ zero) same (less_at w v vs i ascends.0 at)
one_place (w ∷ vs) (suc i) (suc j) v ascends at there = ap suc (one_place vs i j v ascends.1 at there)

-- ---- one record after the other

-- Each member that is among the records so far has the number of one of them.
pub record Numbered (members records : List Payload) (index : ℕ) (numbers of_each : List ℕ) : Type 0 where
  pub long : length of_each ≡ length members
  pub each : (i : ℕ) (v : Payload) (k : ℕ) → slice_get members i ≡ Some v → slice_get of_each i ≡ Some k
      → (list_any (same_vrp v) (take index records) ≡ false) ⊎ ((j : ℕ) × (slice_get records j ≡ Some v) × (k ≡ number_at numbers j))

pub none_numbered : (members records : List Payload) (numbers of_each : List ℕ) → of_each ≡ replicate (length members) 255 → Numbered members records 0 numbers of_each
none_numbered members records numbers of_each is = record { long = ap length is ∙ length-replicate (length members) 255; each = λ i v k at numbered. inl refl }

-- Whether two places are one
same_or_not : (i j : ℕ) (P : Type 0) → (i ≡ j → P) → ((i ≡ j → ⊥) → P) → P
same_or_not i j P same other = by_test (i == j) refl
  where
    by_test : (b : Bool) → (i == j) ≡ b → P
    by_test true is = same (grind (arith, nat_tests))
    by_test false is = other (λ e. grind (arith, nat_tests))

-- A record of a member at another place is another payload.
not_alike : (members : List Payload) (i place : ℕ) (v w : Payload) → IsStrictlySortedBy vrp_cmp members → slice_get members i ≡ Some v → slice_get members place ≡ Some w → (i ≡ place → ⊥) → same_vrp v w ≡ false
not_alike members i place v w ascends at there other = by_test (same_vrp v w) refl
  where
    by_test : (b : Bool) → same_vrp v w ≡ b → same_vrp v w ≡ false
    by_test true is = absurd (other (one_place members i place v ascends at (there ∙ ap (λ x. Some x) (sym (alike v w is)))))
    by_test false is = is

pub one_more_numbered : (members records : List Payload) (index place : ℕ) (w : Payload) (numbers of_each : List ℕ) → members ≡ listing (set_of records) → slice_get records index ≡ Some w → slice_get members place ≡ Some w
    → Numbered members records index numbers of_each → Numbered members records (index + 1) numbers (set of_each place (number_at numbers index))
one_more_numbered members records index place w numbers of_each is here there so_far = record {
  long = length-set of_each place (number_at numbers index) ∙ so_far.long;
  each = λ i v k at numbered. same_or_not i place (Holds v k)
      (λ e.
      let same : w ≡ v = one_of w v (sym there ∙ ap (λ n. slice_get members n) (sym e) ∙ at) in
      inr (index, here ∙ ap (λ x. Some x) same, set_here of_each place (number_at numbers index) k (ap (λ n. slice_get (set of_each place (number_at numbers index)) n) (sym e) ∙ numbered)))
      (λ other. later i v k at other (so_far.each i v k at (sym (set_elsewhere of_each place (number_at numbers index) i other) ∙ numbered)));
}
  where
    Holds : Payload → ℕ → Type 0
    Holds v k = (list_any (same_vrp v) (take (index + 1) records) ≡ false) ⊎ ((j : ℕ) × (slice_get records j ≡ Some v) × (k ≡ number_at numbers j))

    one_of : (x y : Payload) → Some x ≡ Some y → x ≡ y
    one_of x y e = cc

    later : (i : ℕ) (v : Payload) (k : ℕ) → slice_get members i ≡ Some v → (i ≡ place → ⊥)
        → (list_any (same_vrp v) (take index records) ≡ false) ⊎ ((j : ℕ) × (slice_get records j ≡ Some v) × (k ≡ number_at numbers j)) → Holds v k
    later i v k at other (inl none) =
        let inside = slice_get_within records index w here in
        inl (list_any_more (same_vrp v) records index w inside ∙ (λ t. none t || same_vrp v (get_or_from_slice_get records index w w here t)) ∙ not_alike members i place v w (members_ascend members records is) at there other)
    later i v k at other (inr found) = inr found

listed : (s : VrpSet) (i : ℕ) (v : Payload) → slice_get (listing s) i ≡ Some v → has s v ≡ true
listed s i v at = has-listing s v ∙ list_any_at (same_vrp v) (listing s) i v (slice_get_within (listing s) i v at) (ap (same_vrp v) (get_or_from_slice_get (listing s) i v v at) ∙ same_itself v)

pub all_numbered : (members records : List Payload) (index : ℕ) (numbers of_each : List ℕ) → members ≡ listing (set_of records) → take index records ≡ records → Numbered members records index numbers of_each → AreNumbers records numbers (set_of records) of_each
all_numbered members records index numbers of_each is whole h = record {
  one_each = h.long ∙ ap length is ∙ size_of_listing (set_of records);
  each = λ i v k at numbered. found i v k at (h.each i v k (ap (λ vs. slice_get vs i) is ∙ at) numbered);
}
  where
    found : (i : ℕ) (v : Payload) (k : ℕ) → slice_get (listing (set_of records)) i ≡ Some v
        → (list_any (same_vrp v) (take index records) ≡ false) ⊎ ((j : ℕ) × (slice_get records j ≡ Some v) × (k ≡ number_at numbers j)) → (j : ℕ) × (slice_get records j ≡ Some v) × (k ≡ number_at numbers j)
    found i v k at (inl none) =
        let no : false ≡ true = sym none ∙ ap (list_any (same_vrp v)) whole ∙ sym (has-set_of records v) ∙ listed (set_of records) i v at in absurd (cc)
    found i v k at (inr r) = r

-- Records without a trust anchor
pub no_numbers : (records : List Payload) (numbers of_each : List ℕ) (s : VrpSet) → list_all (λ number. number == 255) numbers ≡ true → s ≡ set_of records → of_each ≡ replicate (size s) 255 → AreNumbers records numbers s of_each
no_numbers records numbers of_each s all is are = record {
  one_each = ap length are ∙ length-replicate (size s) 255;
  each = λ i v k at numbered.
      let r = found_in records v (sym (has-set_of records v) ∙ ap (λ t. has t v) (sym is) ∙ listed s i v at) in
      (r.0, r.1, in_replicate (size s) 255 i k (ap (λ ns. slice_get ns i) (sym are) ∙ numbered) ∙ sym (no_number numbers r.0 all));
}
