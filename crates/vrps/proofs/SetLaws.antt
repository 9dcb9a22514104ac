-- What sets and changes satisfy.
use Rattle.std.specs.Prelude.{◌≡◌, Bool, true, false, not, ◌&&◌, ◌||◌, cond, List, [], ◌∷◌, Option, Some, None, is_some, refl, length, map as map_list, T, filter}
use Rattle.std.proofs.Math.Bool.{or-true, or-false, and-false, or_comm}
use Rattle.std.specs.List.{AllByRecursion, list_any}
use Rattle.std.specs.List.Sorted.{IsStrictlySortedBy}
use Rattle.std.specs.Ordering.{eq_by_cmp, is_lt, is_eq}
use Rattle.std.specs.Cmp.{tied_itself}
use Rattle.std.proofs.lemmas.List.Kept.{IsStrictlySortedBy-filter}
use Rattle.std.specs.declared.cmp.Ordering.{Ordering}
use Rattle.std.proofs.lemmas.List.{length-map}
use Rattle.std.specs.FinMap.Entries.{below_all, is_sorted, put, by_order}
use Rattle.std.specs.FinMap as map
use Rattle.std.specs.declared.cmp.Ordering.TheVariants.{Less, Equal, Greater}
use Rattle.std.proofs.Common.{ap, sym, ◌∙◌, subst, arith}
use Rattle.prefixes.specs.Payload.{Payload, vrp_cmp}
use Rattle.prefixes.specs.Orders.{vrp_total, vrp_exact}
use Rattle.vrps.specs.VrpSet.{VrpSet, empty, has, listing, with_member, with_all, set_of, union, without, size}
use Rattle.vrps.specs.Change.{between, apply, merge}
use Rattle.prefixes.proofs.Basics.{or_swap}

abbrev pub same_vrp : Payload → Payload → Bool
same_vrp = eq_by_cmp vrp_cmp

pub some_or : (b : Bool) (x : Option (Unit {0})) → is_some (cond b (Some tt) x) ≡ (b || is_some x)
some_or true x = refl
some_or false x = refl

or_none : (b : Bool) (x : Option (Unit {0})) → is_some (cond b x None) ≡ (is_some x && b)
or_none true None = refl
or_none true (Some u) = refl
or_none false None = refl
or_none false (Some u) = refl

pub has-empty : (q : Payload) → has empty q ≡ false
has-empty q = ap is_some (map.get-empty vrp_cmp q)

pub has-with_member : (s : VrpSet) (v q : Payload) → has (with_member s v) q ≡ (same_vrp q v || has s q)
has-with_member s v q = ap is_some (map.get-insert vrp_total s v tt q) ∙ some_or _ _

pub has-with_all : (s : VrpSet) (vs : List Payload) (q : Payload) → has (with_all s vs) q ≡ (has s q || list_any (same_vrp q) vs)
has-with_all s [] q = sym (or-false _)
has-with_all s (v ∷ vs) q = has-with_member (with_all s vs) v q ∙ ap (λ b. same_vrp q v || b) (has-with_all s vs q) ∙ or_swap (same_vrp q v) (has s q) _

pub has-set_of : (vs : List Payload) (q : Payload) → has (set_of vs) q ≡ list_any (same_vrp q) vs
has-set_of vs q = has-with_all empty vs q ∙ ap (λ b. b || list_any (same_vrp q) vs) (has-empty q)

pub has-listing : (s : VrpSet) (q : Payload) → has s q ≡ list_any (same_vrp q) (listing s)
has-listing s q = map.contains_key-keys s q

pub has-union : (s t : VrpSet) (q : Payload) → has (union s t) q ≡ (has s q || has t q)
has-union s t q = has-with_all s (listing t) q ∙ ap (λ b. has s q || b) (sym (has-listing t q))

pub has_tied : (s : VrpSet) (q x : Payload) → vrp_cmp q x ≡ Equal → has s x ≡ has s q
has_tied s q x t = ap is_some (map.get_tied vrp_total s q x t)

pub has-without : (s t : VrpSet) (q : Payload) → has (without s t) q ≡ (has s q && not (has t q))
has-without s t q = ap is_some (map.get-retain_keys s (λ v. not (has t v)) q (λ x e. ap not (has_tied t q x e))) ∙ or_none (not (has t q)) (map.get s q)

marks : (x : Option (Unit {0})) → x ≡ cond (is_some x) (Some tt) None
marks None = refl
marks (Some u) = refl

-- two sets with the same members are one
pub same_set : (s t : VrpSet) → ((q : Payload) → has s q ≡ has t q) → s ≡ t
same_set s t h = map.same_map vrp_total vrp_exact s t (λ q. marks _ ∙ ap (λ b. cond b (Some tt) None) (h q) ∙ sym (marks _))

-- a record is in t exactly if it is in s and not gone on the way to t, or new in t
moved : (a b : Bool) → ((a && not (a && not b)) || (b && not a)) ≡ b
moved true true = refl
moved true false = refl
moved false true = refl
moved false false = refl

-- The change between two sets leads from the first to the second.
pub apply-between : (s t : VrpSet) → apply (between s t) s ≡ t
apply-between s t = same_set _ _ (λ q.
    has-union (without s (without s t)) (without t s) q
    ∙ (λ i. has-without s (without s t) q i || has-without t s q i)
    ∙ ap (λ b. (has s q && not b) || (has t q && not (has s q))) (has-without s t q)
    ∙ moved (has s q) (has t q))

-- a set is that of its listing
pub set_of-listing : (s : VrpSet) → set_of (listing s) ≡ s
set_of-listing s = same_set _ _ (λ q. has-set_of (listing s) q ∙ sym (has-listing s q))

-- A set lists each member once, in ascending order.
below : (x : Payload) (es : List (Payload × Unit {0})) → T (below_all vrp_cmp x es) → AllByRecursion (λ y. vrp_cmp x y ≡ Less) (map_list (λ e. e.0) es)
below x [] h = tt
below x (e ∷ es) h =
    elim (vrp_cmp x e.0) as (λ o. vrp_cmp x e.0 ≡ o → T (is_lt o && below_all vrp_cmp x es) → AllByRecursion (λ y. vrp_cmp x y ≡ Less) (map_list (λ e. e.0) (e ∷ es))) [
      | Less ↦ λ is h. (is, below x es h)
      | Equal ↦ λ is h. absurd h
      | Greater ↦ λ is h. absurd h
    ] refl h

both_true : (a b : Bool) → T (a && b) → T a × T b
both_true true b h = (tt, h)
both_true false b h = absurd h

sorted_keys : (es : List (Payload × Unit {0})) → T (is_sorted vrp_cmp es) → IsStrictlySortedBy vrp_cmp (map_list (λ e. e.0) es)
unfolding IsStrictlySortedBy
sorted_keys [] h = tt
sorted_keys (e ∷ es) h = let parts = both_true _ _ h in (below e.0 es parts.0, sorted_keys es parts.1)

pub listing_ascends : (s : VrpSet) → IsStrictlySortedBy vrp_cmp (listing s)
listing_ascends s = sorted_keys (map.entries s) (map.entries_sorted s)

-- A fact of each member holds of each that the set lists.
all_listed : (P : Payload → Type 0) (vs : List Payload) → ((q : Payload) → list_any (same_vrp q) vs ≡ true → P q) → AllByRecursion P vs
all_listed P [] h = tt
all_listed P (v ∷ vs) h = (
  h v (ap (λ r. is_eq r || list_any (same_vrp v) vs) (tied_itself vrp_total v)),
  all_listed P vs (λ q one. h q (ap (λ b. same_vrp q v || b) one ∙ or-true (same_vrp q v))),
)

pub all_of_members : (P : Payload → Type 0) (s : VrpSet) → ((q : Payload) → has s q ≡ true → P q) → AllByRecursion P (listing s)
all_of_members P s h = all_listed P (listing s) (λ q one. h q (has-listing s q ∙ one))

merged : (a b c : Bool) → (((a && not b) && not (c && not b)) || ((b && not c) && not (b && not a))) ≡ (a && not c)
merged true true true = refl
merged true true false = refl
merged true false true = refl
merged true false false = refl
merged false true true = refl
merged false true false = refl
merged false false true = refl
merged false false false = refl

halves : (s t u : VrpSet) → union (without (without s t) (without u t)) (without (without t u) (without t s)) ≡ without s u
halves s t u = same_set _ _ (λ q.
    has-union (without (without s t) (without u t)) (without (without t u) (without t s)) q
    ∙ (λ i. has-without (without s t) (without u t) q i || has-without (without t u) (without t s) q i)
    ∙ (λ i. (has-without s t q i && not (has-without u t q i)) || (has-without t u q i && not (has-without t s q i)))
    ∙ merged (has s q) (has t q) (has u q)
    ∙ sym (has-without s u q))

pub merge-between : (s t u : VrpSet) → merge (between s t) (between t u) ≡ between s u
merge-between s t u = λ i. record { withdraw = halves s t u i; announce = flipped i }
  where
    flipped : union (without (without t s) (without t u)) (without (without u t) (without s t)) ≡ without u s
    flipped = same_set _ _ (λ q.
        has-union (without (without t s) (without t u)) (without (without u t) (without s t)) q
        ∙ or_comm (has (without (without t s) (without t u)) q) (has (without (without u t) (without s t)) q)
        ∙ sym (has-union (without (without u t) (without s t)) (without (without t s) (without t u)) q)
        ∙ ap (λ x. has x q) (halves u t s))

-- An ascending list is what its set lists.
put_below : (v : Payload) (es : List (Payload × Unit {0})) → T (below_all vrp_cmp v es) → put vrp_cmp v tt es ≡ (v, tt) ∷ es
put_below v [] h = refl
put_below v (e ∷ es) h =
    elim (vrp_cmp v e.0) as (λ o. T (is_lt o && below_all vrp_cmp v es) → by_order o ((v, tt) ∷ e ∷ es) ((e.0, tt) ∷ es) (e ∷ put vrp_cmp v tt es) ≡ (v, tt) ∷ e ∷ es) [
      | Less ↦ λ h. refl
      | Equal ↦ λ h. absurd h
      | Greater ↦ λ h. absurd h
    ] h

abbrev paired : List Payload → List (Payload × Unit {0})
paired vs = map_list (λ v. (v, tt)) vs

entries-set_of : (vs : List Payload) → IsStrictlySortedBy vrp_cmp vs → map.entries (set_of vs) ≡ paired vs
unfolding IsStrictlySortedBy
entries-set_of [] h = none (map.entries empty) (sym (map.len-entries empty) ∙ map.len-empty vrp_cmp (Unit {0}))
  where
    none : (es : List (Payload × Unit {0})) → length es ≡ 0 → es ≡ []
    none [] e = refl
    none (x ∷ es) e = absurd (omega arith)
entries-set_of (v ∷ vs) h =
    map.entries-insert vrp_total (set_of vs) v tt ∙ ap (put vrp_cmp v tt) (entries-set_of vs h.1) ∙ put_below v (paired vs) (rises vs h.0)
  where
    rises : (ws : List Payload) → AllByRecursion (λ y. vrp_cmp v y ≡ Less) ws → T (below_all vrp_cmp v (paired ws))
    rises [] h = tt
    rises (w ∷ ws) h = subst (λ o. T (is_lt o && below_all vrp_cmp v (paired ws))) (sym h.0) (rises ws h.1)

unpaired : (vs : List Payload) → map_list (λ (e : Payload × Unit {0}). e.0) (paired vs) ≡ vs
unpaired [] = refl
unpaired (v ∷ vs) = ap (λ ws. v ∷ ws) (unpaired vs)

pub listing-set_of : (vs : List Payload) → IsStrictlySortedBy vrp_cmp vs → listing (set_of vs) ≡ vs
listing-set_of vs h = ap (map_list (λ e. e.0)) (entries-set_of vs h) ∙ unpaired vs

pub size-set_of : (vs : List Payload) → IsStrictlySortedBy vrp_cmp vs → size (set_of vs) ≡ length vs
size-set_of vs h = map.len-entries (set_of vs) ∙ ap length (entries-set_of vs h) ∙ length-map vs (λ v. (v, tt))

-- What a filter by a test that answers alike at ties keeps of a member
pub kept : (p : Payload → Bool) (q : Payload) → ((x : Payload) → vrp_cmp q x ≡ Equal → p x ≡ p q) → (vs : List Payload) → list_any (same_vrp q) (filter p vs) ≡ (list_any (same_vrp q) vs && p q)
kept p q alike [] = refl
kept p q alike (v ∷ vs) =
    elim (vrp_cmp q v) as (λ o. vrp_cmp q v ≡ o → list_any (same_vrp q) (filter p (v ∷ vs)) ≡ ((is_eq o || list_any (same_vrp q) vs) && p q)) [
      | Less ↦ λ is. skipped is refl (kept p q alike vs)
      | Equal ↦ λ is. ap (λ b. list_any (same_vrp q) (cond b (v ∷ filter p vs) (filter p vs))) (alike v is) ∙ taken is (p q) (kept p q alike vs)
      | Greater ↦ λ is. skipped is refl (kept p q alike vs)
    ] refl
  where
    skipped : {o : Ordering} → vrp_cmp q v ≡ o → is_eq o ≡ false → list_any (same_vrp q) (filter p vs) ≡ (list_any (same_vrp q) vs && p q) → list_any (same_vrp q) (filter p (v ∷ vs)) ≡ (list_any (same_vrp q) vs && p q)
    skipped {o = o} is not_eq rest =
        elim (p v) as (λ b. list_any (same_vrp q) (cond b (v ∷ filter p vs) (filter p vs)) ≡ (list_any (same_vrp q) vs && p q)) [
          | true ↦ ap (λ b. b || list_any (same_vrp q) (filter p vs)) (ap is_eq is ∙ not_eq) ∙ rest
          | false ↦ rest
        ]

    taken : vrp_cmp q v ≡ Equal → (b : Bool) → list_any (same_vrp q) (filter p vs) ≡ (list_any (same_vrp q) vs && b) → list_any (same_vrp q) (cond b (v ∷ filter p vs) (filter p vs)) ≡ b
    taken is true h = ap (λ o. is_eq o || list_any (same_vrp q) (filter p vs)) is
    taken is false h = h ∙ and-false (list_any (same_vrp q) vs)

-- The members of s that are not in t, in order
pub listing-without : (s t : VrpSet) → listing (without s t) ≡ filter (λ v. not (has t v)) (listing s)
listing-without s t =
    let left = filter (λ v. not (has t v)) (listing s) in
    let same : without s t ≡ set_of left = same_set _ _ (λ q.
    has-without s t q ∙ ap (λ b. b && not (has t q)) (has-listing s q)
    ∙ sym (has-set_of left q ∙ kept (λ v. not (has t v)) q (λ x e. ap not (has_tied t q x e)) (listing s))) in
    ap (λ x. listing x) same ∙ listing-set_of left (IsStrictlySortedBy-filter vrp_cmp (λ v. not (has t v)) (listing s) (listing_ascends s))

same_filter : (p r : Payload → Bool) → ((v : Payload) → p v ≡ r v) → (vs : List Payload) → filter p vs ≡ filter r vs
same_filter p r h [] = refl
same_filter p r h (v ∷ vs) = λ i. cond (h v i) (v ∷ same_filter p r h vs i) (same_filter p r h vs i)

-- the same of sets that are given by lists; it computes
pub listing-without-set_of : (xs ys : List Payload) → IsStrictlySortedBy vrp_cmp xs → listing (without (set_of xs) (set_of ys)) ≡ filter (λ v. not (list_any (same_vrp v) ys)) xs
listing-without-set_of xs ys h =
    listing-without (set_of xs) (set_of ys) ∙ ap (filter (λ v. not (has (set_of ys) v))) (listing-set_of xs h)
    ∙ same_filter (λ v. not (has (set_of ys) v)) (λ v. not (list_any (same_vrp v) ys)) (λ v. ap not (has-set_of ys v)) xs
