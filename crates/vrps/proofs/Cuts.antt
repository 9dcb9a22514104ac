-- Cutting an ascending list at a record.
use Rattle.std.proofs.Common.{◌≡◌, ◌∙◌, ◌<◌, ◌≤◌, ◌+◌, ℕ, true, false, List, [], ◌∷◌, ◌++◌, append-nil, length, get_or, take, drop, ap, sym, subst}
use Rattle.std.specs.List.{All}
use Rattle.std.specs.Ordering.{ordering_reverse}
use Rattle.std.specs.declared.cmp.Ordering.TheVariants.{Less, Equal, Greater}
use Rattle.std.proofs.lemmas.List.{drop_more, take-append-drop, take_all}
use Rattle.std.proofs.lemmas.List.Elements.{recursion_from_All}
use Rattle.prefixes.specs.Payload.{Payload, vrp_cmp}
use Rattle.prefixes.specs.Orders.{vrp_total, vrp_exact}
use Rattle.vrps.specs.Walk.{IsCut}
use Rattle.vrps.proofs.Walks.{Ascends, Above, ascends_drop, head_below, weaker}

-- the records after the one at a place are above it
above_next : (vs : List Payload) (i : ℕ) (x : Payload) → Ascends vs → i < length vs → x ≡ get_or vs i x → Above x (drop (i + 1) vs)
above_next vs i x h low read =
    subst (λ y. Above y (drop (i + 1) vs)) (sym read) (head_below (get_or vs i x) (drop (i + 1) vs) (subst (λ l. Ascends l) (drop_more vs i x low) (ascends_drop i vs h)))

pub from_next : (vs : List Payload) (i : ℕ) (x : Payload) → i < length vs → x ≡ get_or vs i x → drop i vs ≡ x ∷ drop (i + 1) vs
from_next vs i x low read = drop_more vs i x low ∙ ap (λ y. y ∷ drop (i + 1) vs) (sym read)

pub cut_found : (vs : List Payload) (i : ℕ) (x at : Payload) → Ascends vs → i < length vs → x ≡ get_or vs i x → All (λ v. vrp_cmp v at ≡ Less) (take i vs) → vrp_cmp x at ≡ Equal
    → IsCut vs at (take i vs) true (drop (i + 1) vs)
cut_found vs i x at h low read below is = record {
  parts = sym (take-append-drop i vs) ∙ ap (λ l. take i vs ++ l) (from_next vs i x low read ∙ ap (λ y. y ∷ drop (i + 1) vs) (vrp_exact x at is));
  below_it = recursion_from_All (λ v. vrp_cmp v at ≡ Less) (take i vs) below;
  above_it = subst (λ y. Above y (drop (i + 1) vs)) (vrp_exact x at is) (above_next vs i x h low read);
}

pub cut_between : (vs : List Payload) (i : ℕ) (x at : Payload) → Ascends vs → i < length vs → x ≡ get_or vs i x → All (λ v. vrp_cmp v at ≡ Less) (take i vs) → vrp_cmp x at ≡ Greater
    → IsCut vs at (take i vs) false (drop i vs)
cut_between vs i x at h low read below is =
    let lower : vrp_cmp at x ≡ Less = vrp_total.antisymm at x ∙ ap ordering_reverse is in
    record {
      parts = sym (take-append-drop i vs);
      below_it = recursion_from_All (λ v. vrp_cmp v at ≡ Less) (take i vs) below;
      above_it = subst (λ l. Above at l) (sym (from_next vs i x low read)) (lower, weaker (λ v. vrp_cmp x v ≡ Less) (λ v. vrp_cmp at v ≡ Less) (λ v k. vrp_total.trans at x v lower k) (drop (i + 1) vs) (above_next vs i x h low read));
    }

pub cut_past : (vs : List Payload) (i : ℕ) (at : Payload) → length vs ≤ i → All (λ v. vrp_cmp v at ≡ Less) (take i vs) → IsCut vs at vs false []
cut_past vs i at past below = record {
  parts = sym (append-nil vs);
  below_it = recursion_from_All (λ v. vrp_cmp v at ≡ Less) vs (subst (λ l. All (λ v. vrp_cmp v at ≡ Less) l) (take_all i vs past) below);
  above_it = tt;
}
