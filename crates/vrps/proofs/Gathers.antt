-- A set of std in the order of payloads is a set of payloads.
use Rattle.std.specs.Prelude.{◌≡◌, ℕ, ◌≤◌, ◌<◌, ◌+◌, ◌-◌, Bool, true, false, ◌||◌, cond, List, [], ◌∷◌, ◌++◌, Some, None, length, refl}
use Rattle.std.proofs.Common.{ap, sym, ◌∙◌, ⊎_elim, subst, arith, get_or, take}
use Rattle.std.specs.List.{All, list_any}
use Rattle.std.specs.declared.cmp.Ordering.{Ordering}
use Rattle.std.specs.declared.cmp.Ordering.TheVariants.{Less, Equal, Greater}
use Rattle.std.specs.List.{slice_get}
use Rattle.std.proofs.Math.Seq.{get_or-append_seam}
use Rattle.std.proofs.lemmas.Bool.{cases_lt}
use Rattle.std.proofs.lemmas.List.{length-append, get_or_append_left, take_more}
use Rattle.std.proofs.lemmas.Option.{get_or_from_slice_get, slice_get-get_or}
use Rattle.std.proofs.lemmas.List.Folds.{list_any-append, list_any_none}
use Rattle.std.proofs.lemmas.Map.Keys.{Less-from_sorted, sorted_from_all_adjacent}
use Rattle.std.proofs.lemmas.Map.Views.{All-before_last}
use Rattle.std.specs.List.Sorted.{IsStrictlySortedBy}
use Rattle.std.specs.Cmp.{eq_by_cmp_equiv}
use Rattle.std.specs.Ordering.{is_eq, is_lt, ordering_reverse}
use Rattle.prefixes.specs.Payload.{Payload, IsPayload, vrp_cmp}
use Rattle.prefixes.specs.Orders.{vrp_total}
use Rattle.vrps.specs.VrpSet.{VrpSet, IsListing, has, set_of, size, with_member}
use Rattle.vrps.specs.Gathering.{Ascends, records_in}
use Rattle.vrps.specs.declared.gathered.Records.{Records}
use Rattle.vrps.proofs.SetLaws.{has-set_of, has-with_member, has_tied, same_set, same_vrp, size-set_of}

-- what is found
pub has_gathered : (s : VrpSet) (vs : List Payload) (q : Payload) → set_of vs ≡ s → list_any (same_vrp q) vs ≡ has s q
has_gathered s vs q is = sym (has-set_of vs q) ∙ ap (λ t. has t q) is

true_or : (a b : Bool) → cond a true b ≡ (a || b)
true_or true b = refl
true_or false b = refl

-- what is added
pub gathers : (s : VrpSet) (vs ws : List Payload) (v : Payload) → set_of vs ≡ s
    → ((q : Payload) → list_any (same_vrp q) ws ≡ cond (is_eq (vrp_cmp v q)) true (list_any (same_vrp q) vs)) → set_of ws ≡ with_member s v
gathers s vs ws v is updates =
    same_set (set_of ws) (with_member s v) (λ q.
    has-set_of ws q ∙ updates q ∙ true_or (is_eq (vrp_cmp v q)) (list_any (same_vrp q) vs)
    ∙ (λ i. (eq_by_cmp_equiv vrp_total).symm v q i || sym (has-set_of vs q) i)
    ∙ ap (λ t. same_vrp q v || has t q) is ∙ sym (has-with_member s v q))

-- how many
pub size_gathered : (s : VrpSet) (vs : List Payload) → set_of vs ≡ s → IsStrictlySortedBy vrp_cmp vs → length vs ≡ size s
size_gathered s vs is h = sym (size-set_of vs h) ∙ ap (λ t. size t) is

-- what they are listed as
pub gathered_listing : (s : VrpSet) (ws : List Payload) → set_of ws ≡ s → IsStrictlySortedBy vrp_cmp ws → All IsPayload ws → size s ≤ 16777215 → IsListing ws
gathered_listing s ws is ascends payloads within =
    let count = size-set_of ws ascends in
    record {
      ascends = ascends;
      payloads = payloads;
      within_limit = omega (arith, count, ap (λ t. size t) is, within);
    }

-- no record
pub ascends_none : (vs : List Payload) → vs ≡ [] → IsStrictlySortedBy vrp_cmp vs
unfolding IsStrictlySortedBy
ascends_none [] is = tt
ascends_none (v ∷ vs) is = cc

-- one record more, behind the others
pub set_of_behind : (vs : List Payload) (v : Payload) → set_of (vs ++ v ∷ []) ≡ with_member (set_of vs) v
set_of_behind vs v =
    same_set (set_of (vs ++ v ∷ [])) (with_member (set_of vs) v) (λ q.
    has-set_of (vs ++ v ∷ []) q ∙ list_any-append (same_vrp q) vs (v ∷ [])
    ∙ or_swapped (list_any (same_vrp q) vs) (same_vrp q v)
    ∙ ap (λ b. same_vrp q v || b) (sym (has-set_of vs q)) ∙ sym (has-with_member (set_of vs) v q))
  where
    or_swapped : (a b : Bool) → (a || (b || false)) ≡ (b || a)
    or_swapped true true = refl
    or_swapped true false = refl
    or_swapped false true = refl
    or_swapped false false = refl

less_from_is_lt : (o : Ordering) → is_lt o ≡ true → o ≡ Less
less_from_is_lt Less h = refl
less_from_is_lt Equal h = cc
less_from_is_lt Greater h = cc

-- a record behind the last of an ascending list
pub ascends_behind : (vs : List Payload) (last v : Payload) → IsStrictlySortedBy vrp_cmp vs → Some last ≡ slice_get vs (length vs - 1) → is_lt (vrp_cmp last v) ≡ true
    → IsStrictlySortedBy vrp_cmp (vs ++ v ∷ [])
ascends_behind vs last v ascends is_last is_below =
    sorted_from_all_adjacent vrp_total (vs ++ v ∷ []) v (λ k within.
    ⊎_elim
    (λ below. further k below)
    (λ end. at_end k (omega (arith, length-append vs (v ∷ []), within, end)))
    (cases_lt (k + 1) (length vs)))
  where
    further : (k : ℕ) → k + 1 < length vs → vrp_cmp (get_or (vs ++ v ∷ []) k v) (get_or (vs ++ v ∷ []) (k + 1) v) ≡ Less
    further k below =
        (λ i. vrp_cmp (get_or_append_left vs (v ∷ []) v k (omega arith) i) (get_or_append_left vs (v ∷ []) v (k + 1) below i))
        ∙ Less-from_sorted vrp_cmp vs k (k + 1) v ascends (omega arith) below

    at_end : (k : ℕ) → k + 1 ≡ length vs → vrp_cmp (get_or (vs ++ v ∷ []) k v) (get_or (vs ++ v ∷ []) (k + 1) v) ≡ Less
    at_end k end =
        let place : k ≡ length vs - 1 = omega arith in
        let first : get_or (vs ++ v ∷ []) k v ≡ last =
        get_or_append_left vs (v ∷ []) v k (omega arith) ∙ get_or_from_slice_get vs k last v (ap (slice_get vs) place ∙ sym is_last) in
        let second : get_or (vs ++ v ∷ []) (k + 1) v ≡ v = ap (λ n. get_or (vs ++ v ∷ []) n v) end ∙ get_or-append_seam vs v [] v in
        (λ i. vrp_cmp (first i) (second i)) ∙ less_from_is_lt _ is_below

-- the first record
pub ascends_alone : (vs : List Payload) (v : Payload) → None ≡ slice_get vs (length vs - 1) → IsStrictlySortedBy vrp_cmp (vs ++ v ∷ [])
unfolding IsStrictlySortedBy
ascends_alone [] v none = (tt, tt)
ascends_alone (x ∷ xs) v none = cc (slice_get-get_or (x ∷ xs) (length (x ∷ xs) - 1) x (omega arith))

-- A record behind an ascending list is none of it.
pub none_behind : (vs : List Payload) (v : Payload) → IsStrictlySortedBy vrp_cmp (vs ++ v ∷ []) → has (set_of vs) v ≡ false
none_behind vs v ascends =
    has-set_of vs v ∙ list_any_none (same_vrp v) vs (λ k d within.
    ap is_eq (vrp_total.antisymm v (get_or vs k d) ∙ ap ordering_reverse (All-before_last vrp_cmp vs v ascends k d within)))

-- what a value of the type shows of what it holds
pub shown_in : (r s : Records) (t : VrpSet) → r ≡ s → set_of (records_in r) ≡ t → set_of (records_in s) ≡ t
shown_in r s t is shows = ap (λ x. set_of (records_in x)) (sym is) ∙ shows

pub ascends_in : (r s : Records) → r ≡ s → Ascends r → Ascends s
ascends_in r s is ascends = subst (λ x. Ascends x) is ascends

-- the same of a list and a set, and of what is there already
pub gathers_behind : (s : VrpSet) (vs ws : List Payload) (v : Payload) → set_of vs ≡ s → ws ≡ vs ++ v ∷ [] → set_of ws ≡ with_member s v
gathers_behind s vs ws v is e = ap (λ l. set_of l) e ∙ set_of_behind vs v ∙ ap (λ t. with_member t v) is

pub new_behind : (s : VrpSet) (vs ws : List Payload) (v : Payload) → set_of vs ≡ s → ws ≡ vs → IsStrictlySortedBy vrp_cmp (ws ++ v ∷ []) → has s v ≡ false
new_behind s vs ws v is e ascends = ap (λ t. has t v) (sym is ∙ ap (λ l. set_of l) (sym e)) ∙ none_behind ws v ascends

pub gathers_again : (s : VrpSet) (v : Payload) → has s v ≡ true → s ≡ with_member s v
gathers_again s v there =
    same_set s (with_member s v) (λ q. sym (has-with_member s v q ∙ already q (same_vrp q v) refl))
  where
    equal : (o : Ordering) → is_eq o ≡ true → o ≡ Equal
    equal Less h = cc
    equal Equal h = refl
    equal Greater h = cc

    already : (q : Payload) (b : Bool) → same_vrp q v ≡ b → (b || has s q) ≡ has s q
    already q true same = sym (sym (has_tied s q v (equal (vrp_cmp q v) same)) ∙ there)
    already q false same = refl

-- the next record of a list
pub gathers_next : (xs : List Payload) (i : ℕ) (d : Payload) (s : VrpSet) → i < length xs → s ≡ set_of (take i xs) → with_member s (get_or xs i d) ≡ set_of (take (i + 1) xs)
gathers_next xs i d s within is =
    ap (λ t. with_member t (get_or xs i d)) is ∙ sym (set_of_behind (take i xs) (get_or xs i d)) ∙ ap (λ l. set_of l) (sym (take_more xs i d within))
