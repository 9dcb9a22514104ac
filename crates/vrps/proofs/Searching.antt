-- A binary search over a listing finds the members.
use Rattle.std.proofs.Common.{◌≡◌, ◌+◌, ◌∙◌, ⊎_elim, ℕ, List, length, get_or, Result, Ok, Err, is_ok, ap, sym, arith}
use Rattle.std.specs.List.{list_any}
use Rattle.std.specs.List.Sorted.{IsBinarySearchResult, IsSearchInRange, IsSorted, IsStrictlySortedBy}
use Rattle.std.specs.Ordering.{is_eq, is_lt, ordering_reverse}
use Rattle.std.specs.declared.cmp.Ordering.{Ordering}
use Rattle.std.specs.declared.cmp.Ordering.TheVariants.{Less, Equal, Greater}
use Rattle.std.proofs.lemmas.Bool.{cases_lt}
use Rattle.std.proofs.lemmas.List.Folds.{list_any_at, list_any_none}
use Rattle.std.proofs.lemmas.List.Sorted.{searchable_from_sorted}
use Rattle.std.proofs.lemmas.Map.Keys.{Less-from_sorted}
use Rattle.prefixes.specs.Payload.{Payload, vrp_cmp}
use Rattle.prefixes.specs.Orders.{vrp_total}
use Rattle.vrps.specs.VrpSet.{has, set_of}
use Rattle.vrps.proofs.SetLaws.{has-set_of, same_vrp}

sorted : (vs : List Payload) → IsStrictlySortedBy vrp_cmp vs → IsSorted vrp_cmp vs
sorted vs h k d low high =
    ap is_lt (vrp_total.antisymm (get_or vs (k + 1) d) (get_or vs k d) ∙ ap ordering_reverse (Less-from_sorted vrp_cmp vs k (k + 1) d h (omega arith) (omega arith)))

-- what a comparison from the other side says of sameness
seen_from : (v q : Payload) (o : Ordering) → vrp_cmp v q ≡ o → same_vrp q v ≡ is_eq (ordering_reverse o)
seen_from v q o is = ap is_eq (vrp_total.antisymm q v ∙ ap ordering_reverse is)

found : (vs : List Payload) (q : Payload) → IsStrictlySortedBy vrp_cmp vs → (r : Result ℕ ℕ) → IsSearchInRange r (length vs) → IsBinarySearchResult (λ v. vrp_cmp v q) vs r
    → is_ok r ≡ list_any (same_vrp q) vs
found vs q ascends (Ok at) within equal = sym (list_any_at (same_vrp q) vs at q within (seen_from _ q Equal (equal q)))
found vs q ascends (Err at) within parted =
    let parts = parted (searchable_from_sorted vrp_total (λ v. v) vs q (sorted vs ascends)) in
    sym (list_any_none (same_vrp q) vs (λ k d below. ⊎_elim
    (λ before. seen_from _ q Less (parts.0 k d (omega arith) before))
    (λ after. seen_from _ q Greater (parts.1 k d after below))
    (cases_lt k at)))

pub has_searched : (vs : List Payload) (q : Payload) → IsStrictlySortedBy vrp_cmp vs
    → (r : Result ℕ ℕ) → IsSearchInRange r (length vs) → IsBinarySearchResult (λ v. vrp_cmp v q) vs r → is_ok r ≡ has (set_of vs) q
has_searched vs q ascends r within searched = found vs q ascends r within searched ∙ sym (has-set_of vs q)
