-- What the listing of a set keeps.
use Rattle.std.proofs.Common.{◌≡◌, ◌≤◌, Bool, true, false, not, ◌||◌, List, [], ◌∷◌, length, ap, sym, ◌∙◌, refl, subst, arith}
use Rattle.std.proofs.lemmas.List.Elements.{All-filter, All-from_recursion, recursion_from_All}
use Rattle.std.proofs.lemmas.List.Sums.{length-filter, count_by-le-length}
use Rattle.vrps.specs.Change.{apply}
use Rattle.vrps.specs.declared.change.Change.{Change}
use Rattle.vrps.specs.Walk.{left_out}
use Rattle.vrps.proofs.Walks.{of_member}
use Rattle.std.specs.List.{All, filter}
use Rattle.std.specs.List.Sorted.{IsStrictlySortedBy}
use Rattle.prefixes.specs.Payload.{Payload, IsPayload, vrp_cmp}
use Rattle.vrps.specs.VrpSet.{VrpSet, IsVrpSet, IsListing, has, listing, set_of, size, union, without}
use Rattle.vrps.proofs.SetLaws.{all_of_members, has-listing, has-union, listing-without, listing-set_of, listing_ascends, set_of-listing, size-set_of}

pub is_set : (vs : List Payload) → IsListing vs → IsVrpSet (set_of vs)
is_set vs h =
    let count = size-set_of vs h.ascends in
    record {
      payloads = subst (λ l. All IsPayload l) (sym (listing-set_of vs h.ascends)) h.payloads;
      within_limit = omega (arith, count, h.within_limit);
    }

-- the same of the set that a value is seen as
pub set_is : (s : VrpSet) (vs : List Payload) → set_of vs ≡ s → IsListing vs → IsVrpSet s
set_is s vs e h = subst (λ x. IsVrpSet x) e (is_set vs h)

pub listing_is : (s : VrpSet) (vs : List Payload) → set_of vs ≡ s → IsListing vs → vs ≡ listing s
listing_is s vs e h = sym (listing-set_of vs h.ascends) ∙ ap (λ x. listing x) e

pub size_is : (s : VrpSet) (vs : List Payload) → set_of vs ≡ s → IsListing vs → length vs ≡ size s
size_is s vs e h = sym (size-set_of vs h.ascends) ∙ ap (λ x. size x) e

pub no_members : (vs : List Payload) → vs ≡ [] → IsListing vs
unfolding IsStrictlySortedBy
no_members [] e = record { ascends = tt; payloads = λ k d h. absurd (omega (arith, h)); within_limit = omega arith }
no_members (v ∷ vs) e = cc

pub size_of_listing : (s : VrpSet) → length (listing s) ≡ size s
size_of_listing s = sym (size-set_of (listing s) (listing_ascends s)) ∙ ap (λ x. size x) (set_of-listing s)

-- what a set that can be published lists
pub lists : (s : VrpSet) → IsVrpSet s → IsListing (listing s)
lists s h =
    record { ascends = listing_ascends s; payloads = h.payloads; within_limit = omega (arith, size_of_listing s, h.within_limit) }

-- a part of a set that can be published is one
pub part_is_set : (s t : VrpSet) → IsVrpSet s → IsVrpSet (without s t)
part_is_set s t h =
    let p = λ (v : Payload). not (has t v) in
    let same : listing (without s t) ≡ filter p (listing s) = listing-without s t in
    record {
      payloads = subst (λ l. All IsPayload l) (sym same) (All-filter p IsPayload (listing s) h.payloads);
      within_limit = omega (arith, h.within_limit, size_of_listing s, size_of_listing (without s t), ap (λ l. length l) same, length-filter p (listing s), count_by-le-length p (listing s));
    }

-- the members of two such sets together are payloads
pub union_payloads : (s t : VrpSet) → All IsPayload (listing s) → All IsPayload (listing t) → All IsPayload (listing (union s t))
union_payloads s t h k =
    All-from_recursion IsPayload (listing (union s t)) (all_of_members IsPayload (union s t) (λ q one. in_either q _ refl (sym (has-union s t q) ∙ one)))
  where
    of_set : (u : VrpSet) → All IsPayload (listing u) → (q : Payload) → has u q ≡ true → IsPayload q
    of_set u all q one = of_member IsPayload (listing u) (recursion_from_All IsPayload (listing u) all) q (sym (has-listing u q) ∙ one)

    in_either : (q : Payload) (b : Bool) → has s q ≡ b → (has s q || has t q) ≡ true → IsPayload q
    in_either q true is one = of_set s h q is
    in_either q false is one = of_set t k q (sym (λ i. is i || has t q) ∙ one)

-- the records of the one listing that are none of the other
pub left_out_listings : (s t : VrpSet) (us vs ws : List Payload) → us ≡ left_out vs ws → vs ≡ listing s → ws ≡ listing t → us ≡ listing (without s t)
left_out_listings s t us vs ws is a b = is ∙ (λ i. left_out (a i) (b i)) ∙ (λ i. listing (without (set_of-listing s i) (set_of-listing t i)))

-- the members of the set to which a change leads
pub led_payloads : (c : Change) (s : VrpSet) (vs : List Payload) → vs ≡ listing (apply c s) → IsVrpSet s → IsVrpSet c.announce → All IsPayload vs
led_payloads c s vs is h k = subst (λ l. All IsPayload l) (sym is) (union_payloads (without s c.withdraw) c.announce (part_is_set s c.withdraw h).payloads k.payloads)

pub listing_of : (s : VrpSet) (vs : List Payload) → vs ≡ listing s → All IsPayload vs → length vs ≤ 16777215 → IsListing vs
listing_of s vs is payloads within = record { ascends = subst (λ l. IsStrictlySortedBy vrp_cmp l) (sym is) (listing_ascends s); payloads = payloads; within_limit = within }
