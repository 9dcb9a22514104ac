-- What the states of routes satisfy.
use Rattle.std.proofs.Common.{◌≡◌, ◌∙◌, ◌↔◌, Bool, true, false, ◌&&◌, ◌||◌, cond, List, [], ◌∷◌, filter, refl, ap, sym}
use Rattle.std.proofs.Math.Bool.{or-true}
use Rattle.std.proofs.lemmas.Bool.{and_parts}
use Rattle.std.specs.Prelude.{nat_le}
use Rattle.std.specs.Cmp.{tied_itself}
use Rattle.std.specs.List.{list_any}
use Rattle.std.specs.Ordering.{is_eq}
use Rattle.std.specs.declared.cmp.Ordering.TheVariants.{Less, Equal, Greater}
use Rattle.std.proofs.lemmas.List.Kept.{IsStrictlySortedBy-filter}
use Rattle.prefixes.specs.Payload.{Payload, block_of, vrp_cmp}
use Rattle.prefixes.specs.declared.route.Route.{Route}
use Rattle.prefixes.specs.Orders.{vrp_total, vrp_exact}
use Rattle.vrps.specs.Origin.{CoveringDecides, HasState, IsCovered, IsMatched, ListsCovering, covering, covers_route, is_origin, matches, state}
use Rattle.vrps.specs.VrpSet.{VrpSet, has, listing}
use Rattle.vrps.specs.declared.origin.OriginState.{OriginState}
use Rattle.vrps.specs.declared.origin.OriginState.TheVariants.{Valid, Invalid, NotFound}
use Rattle.vrps.proofs.SetLaws.{has-listing, has-set_of, kept, listing_ascends, same_vrp}

-- An element that passes a test is a member that passes it, and the other way round.
some_member : (p : Payload → Bool) (vs : List Payload) → list_any p vs ≡ true → (v : Payload) × (list_any (same_vrp v) vs ≡ true) × (p v ≡ true)
some_member p [] h = absurd (cc)
some_member p (v ∷ vs) h =
    elim (p v) as (λ b. p v ≡ b → (b || list_any p vs) ≡ true → (w : Payload) × (list_any (same_vrp w) (v ∷ vs) ≡ true) × (p w ≡ true)) [
      | true ↦ λ is h. (v, ap (λ o. is_eq o || list_any (same_vrp v) vs) (tied_itself vrp_total v), is)
      | false ↦ λ is h. let later = some_member p vs h in (later.0, ap (λ b. same_vrp later.0 v || b) later.1 ∙ or-true (same_vrp later.0 v), later.2)
    ] refl h

passes : (p : Payload → Bool) (vs : List Payload) (v : Payload) → list_any (same_vrp v) vs ≡ true → p v ≡ true → list_any p vs ≡ true
passes p [] v h k = absurd (cc)
passes p (w ∷ vs) v h k =
    elim (vrp_cmp v w) as (λ o. vrp_cmp v w ≡ o → (is_eq o || list_any (same_vrp v) vs) ≡ true → list_any p (w ∷ vs) ≡ true) [
      | Less ↦ λ is h. ap (λ b. p w || b) (passes p vs v h k) ∙ or-true (p w)
      | Equal ↦ λ is h. ap (λ b. b || list_any p vs) (ap p (sym (vrp_exact v w is)) ∙ k)
      | Greater ↦ λ is h. ap (λ b. p w || b) (passes p vs v h k) ∙ or-true (p w)
    ] refl h

is_some_member : (p : Payload → Bool) (s : VrpSet) → list_any p (listing s) ≡ true → (v : Payload) × (has s v ≡ true) × (p v ≡ true)
is_some_member p s h = let found = some_member p (listing s) h in (found.0, has-listing s found.0 ∙ found.1, found.2)

is_passed : (p : Payload → Bool) (s : VrpSet) → (v : Payload) × (has s v ≡ true) × (p v ≡ true) → list_any p (listing s) ≡ true
is_passed p s w = passes p (listing s) w.0 (sym (has-listing s w.0) ∙ w.1) w.2

none : (p : Payload → Bool) (s : VrpSet) → list_any p (listing s) ≡ false → ¬ ((v : Payload) × (has s v ≡ true) × (p v ≡ true))
none p s is w = let one = is_passed p s w in absurd (cc)

pub state_is : (s : VrpSet) (r : Route) → HasState s r (state s r)
state_is s r = by_tests (list_any (matches r) (listing s)) (list_any (covers_route r) (listing s)) refl refl
  where
    by_tests : (m c : Bool) → list_any (matches r) (listing s) ≡ m → list_any (covers_route r) (listing s) ≡ c → HasState s r (cond m Valid (cond c Invalid NotFound))
    by_tests true c is_m is_c = is_some_member (matches r) s is_m
    by_tests false true is_m is_c = (is_some_member (covers_route r) s is_c, none (matches r) s is_m)
    by_tests false false is_m is_c = none (covers_route r) s is_c

matched_is_covered : (s : VrpSet) (r : Route) → IsMatched s r → IsCovered s r
matched_is_covered s r w = (w.0, w.1, (and_parts (covers_route r w.0) _ w.2).0)

pub one_state : (s : VrpSet) (r : Route) (one other : OriginState) → HasState s r one → HasState s r other → one ≡ other
one_state s r Valid Valid h k = refl
one_state s r Valid Invalid h k = absurd (k.1 h)
one_state s r Valid NotFound h k = absurd (k (matched_is_covered s r h))
one_state s r Invalid Valid h k = absurd (h.1 k)
one_state s r Invalid Invalid h k = refl
one_state s r Invalid NotFound h k = absurd (k h.0)
one_state s r NotFound Valid h k = absurd (h (matched_is_covered s r k))
one_state s r NotFound Invalid h k = absurd (h k.0)
one_state s r NotFound NotFound h k = refl

pub covering_members : (s : VrpSet) (r : Route) → ListsCovering s r
covering_members s r = record {
  ascends = IsStrictlySortedBy-filter vrp_cmp (covers_route r) (listing s) (listing_ascends s);
  members = λ v.
      has-set_of (covering s r) v ∙ kept (covers_route r) v (λ x tie. ap (covers_route r) (sym (vrp_exact v x tie))) (listing s)
      ∙ ap (λ b. b && covers_route r v) (sym (has-listing s v));
}

-- who matches covers
any-covering : (r : Route) (vs : List Payload) → list_any (matches r) (filter (covers_route r) vs) ≡ list_any (matches r) vs
any-covering r [] = refl
any-covering r (v ∷ vs) =
    elim (covers_route r v) as (λ b. covers_route r v ≡ b → list_any (matches r) (cond b (v ∷ filter (covers_route r) vs) (filter (covers_route r) vs)) ≡ (matches r v || list_any (matches r) vs)) [
      | true ↦ λ is. ap (λ b. matches r v || b) (any-covering r vs)
      | false ↦ λ is. any-covering r vs ∙ sym (ap (λ b. b || list_any (matches r) vs) (not_matched is))
    ] refl
  where
    not_matched : covers_route r v ≡ false → matches r v ≡ false
    not_matched is = ap (λ b. b && (nat_le (block_of r.prefix).len v.max_len && is_origin r.origin v.asn)) is

is_empty : (p : Payload → Bool) (vs : List Payload) → (list_any p vs ≡ false) ↔ (filter p vs ≡ [])
is_empty p [] = (λ h. refl, λ h. refl)
is_empty p (v ∷ vs) =
    elim (p v) as (λ b. ((b || list_any p vs) ≡ false) ↔ (cond b (v ∷ filter p vs) (filter p vs) ≡ [])) [
      | true ↦ (λ h. absurd (cc), λ h. absurd (cc))
      | false ↦ is_empty p vs
    ]

valid_by : (m c : Bool) → (cond m Valid (cond c Invalid NotFound) ≡ Valid) ↔ (m ≡ true)
valid_by true c = (λ h. refl, λ h. refl)
valid_by false true = (λ h. absurd (cc), λ h. absurd (cc))
valid_by false false = (λ h. absurd (cc), λ h. absurd (cc))

not_found_by : (m c : Bool) → (m ≡ true → c ≡ true) → (cond m Valid (cond c Invalid NotFound) ≡ NotFound) ↔ (c ≡ false)
not_found_by true true h = (λ e. absurd (cc), λ e. absurd (cc))
not_found_by true false h = let one = h refl in absurd (cc)
not_found_by false true h = (λ e. absurd (cc), λ e. absurd (cc))
not_found_by false false h = (λ e. refl, λ e. refl)

pub covering_decides : (s : VrpSet) (r : Route) → CoveringDecides s r
covering_decides s r =
    let v = valid_by (list_any (matches r) (listing s)) (list_any (covers_route r) (listing s)) in
    let covered = λ (h : list_any (matches r) (listing s) ≡ true). is_passed (covers_route r) s (matched_is_covered s r (is_some_member (matches r) s h)) in
    let n = not_found_by (list_any (matches r) (listing s)) (list_any (covers_route r) (listing s)) covered in
    let e = is_empty (covers_route r) (listing s) in
    record {
      valid = (λ h. any-covering r (listing s) ∙ v.0 h, λ h. v.1 (sym (any-covering r (listing s)) ∙ h));
      not_found = (λ h. e.0 (n.0 h), λ h. n.1 (e.1 h));
    }
