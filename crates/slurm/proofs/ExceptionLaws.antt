-- What exceptions make of a set.
use Rattle.std.specs.Prelude.{◌≡◌, ◌≤◌, ℕ, Bool, true, false, not, ◌&&◌, ◌||◌, cond, List, Option, Some, None, is_some, refl, filter}
use Rattle.std.proofs.Common.{ap, sym, ◌∙◌, subst, arith, rules, ◌<◌, IfOk, IsOk, OnErr, Result, Ok, Err}
use Rattle.vrps.specs.declared.set.SetFault.{SetFault}
use Rattle.vrps.specs.declared.set.SetFault.TheVariants.{TooMany}
use Rattle.std.proofs.Math.Bool.{or-true}
use Rattle.std.specs.FinMap as map
use Rattle.std.specs.declared.cmp.Ordering.TheVariants.{Equal}
use Rattle.std.proofs.lemmas.List.Kept.{IsStrictlySortedBy-filter}
use Rattle.std.proofs.lemmas.List.Sums.{length-filter, count_by-le-length}
use Rattle.prefixes.specs.Payload.{Payload, vrp_cmp}
use Rattle.prefixes.specs.Orders.{vrp_exact}
use Rattle.vrps.specs.VrpSet.{VrpSet, IsVrpSet, has, listing, set_of, size, union, without}
use Rattle.vrps.proofs.Listed.{size_of_listing}
use Rattle.vrps.proofs.SetLaws.{has-listing, has-set_of, has-union, has-without, kept, listing_ascends, same_set, size-set_of}
use Rattle.slurm.specs.Exceptions.{AppliedTwice, AssertionsStay, Exceptions, IsExcepted, excepted, is_filtered}
use Rattle.slurm.specs.declared.filter.PrefixFilter.{PrefixFilter}

or_none : (b : Bool) (x : Option (Unit {0})) → is_some (cond b x None) ≡ (is_some x && b)
or_none true None = refl
or_none true (Some u) = refl
or_none false None = refl
or_none false (Some u) = refl

-- payloads that tie are one
alike : (p : Payload → Bool) (q x : Payload) → vrp_cmp q x ≡ Equal → p x ≡ p q
alike p q x e = ap p (sym (vrp_exact q x e))

-- the members that pass a test
has-kept : (p : Payload → Bool) (s : VrpSet) (q : Payload) → has (map.retain_keys s p) q ≡ (has s q && p q)
has-kept p s q = ap is_some (map.get-retain_keys s p q (λ x e. alike p q x e)) ∙ or_none (p q) (map.get s q)

pub is_excepted : (e : Exceptions) (s : VrpSet) → IsExcepted e s (excepted e s)
is_excepted e s q =
    has-union (map.retain_keys s (λ v. not (is_filtered e.filters v))) e.assertions q ∙ ap (λ b. b || has e.assertions q) (has-kept (λ v. not (is_filtered e.filters v)) s q)

-- the members that some filter matches
pub few : (fs : List PrefixFilter) (s : VrpSet) → IsVrpSet s → size (set_of (filter (is_filtered fs) (listing s))) ≤ 16777215
few fs s h =
    let sorted = IsStrictlySortedBy-filter vrp_cmp (is_filtered fs) (listing s) (listing_ascends s) in
    omega (arith, h.within_limit, size-set_of (filter (is_filtered fs) (listing s)) sorted, size_of_listing s, length-filter (is_filtered fs) (listing s), count_by-le-length (is_filtered fs) (listing s))

has-filtered : (fs : List PrefixFilter) (s : VrpSet) (q : Payload) → has (set_of (filter (is_filtered fs) (listing s))) q ≡ (has s q && is_filtered fs q)
has-filtered fs s q =
    has-set_of (filter (is_filtered fs) (listing s)) q ∙ kept (is_filtered fs) q (λ x e. alike (is_filtered fs) q x e) (listing s) ∙ ap (λ b. b && is_filtered fs q) (sym (has-listing s q))

left : (a b : Bool) → (a && not (a && b)) ≡ (a && not b)
left true b = refl
left false b = refl

-- To withdraw these, and to announce the assertions, is to apply the exceptions.
pub by_change : (e : Exceptions) (s : VrpSet) → union (without s (set_of (filter (is_filtered e.filters) (listing s)))) e.assertions ≡ excepted e s
by_change e s = same_set _ _ (λ q.
    has-union (without s (set_of (filter (is_filtered e.filters) (listing s)))) e.assertions q
    ∙ ap (λ b. b || has e.assertions q) (has-without s (set_of (filter (is_filtered e.filters) (listing s))) q ∙ ap (λ b. has s q && not b) (has-filtered e.filters s q) ∙ left (has s q) (is_filtered e.filters q))
    ∙ sym (is_excepted e s q))

again : (a b c : Bool) → ((((a && not b) || c) && not b) || c) ≡ ((a && not b) || c)
again true true true = refl
again true true false = refl
again true false true = refl
again true false false = refl
again false true true = refl
again false true false = refl
again false false true = refl
again false false false = refl

pub applied_twice : AppliedTwice
applied_twice e s = same_set _ _ (λ q.
    is_excepted e (excepted e s) q
    ∙ ap (λ b. (b && not (is_filtered e.filters q)) || has e.assertions q) (is_excepted e s q)
    ∙ again (has s q) (is_filtered e.filters q) (has e.assertions q)
    ∙ sym (is_excepted e s q))

pub assertions_stay : AssertionsStay
assertions_stay e s v h = is_excepted e s v ∙ ap (λ b. (has s v && not (is_filtered e.filters v)) || b) h ∙ or-true (has s v && not (is_filtered e.filters v))

-- a set of too few members to be refused
pub is_made : (r : Result VrpSet SetFault) (n : ℕ) → OnErr r (r ≡ Err TooMany) → (r ≡ Err TooMany → 16777215 < n) → n ≤ 16777215 → IsOk r
is_made (Ok s) n only many few = search rules
is_made (Err e) n only many few = absurd (let more = many only in omega (arith, more, few))

-- the set that a change makes
pub made : (r : Result VrpSet SetFault) (t u : VrpSet) → IfOk r (λ x. (x ≡ t) × (size x ≤ 16777215)) → t ≡ u → IfOk r (λ x. (x ≡ u) × (size x ≤ 16777215))
made (Ok s) t u h e = (h.0 ∙ e, h.1)
made (Err f) t u h e = tt

pub made_excepted : (r : Result VrpSet SetFault) (e : Exceptions) (s : VrpSet) → IfOk r (λ t. (t ≡ excepted e s) × (size t ≤ 16777215)) → IfOk r (IsExcepted e s)
made_excepted (Ok t) e s h = subst (IsExcepted e s) (sym h.0) (is_excepted e s)
made_excepted (Err f) e s h = tt

-- the same of a set that is made of these parts
pub leads : (e : Exceptions) (gs : List PrefixFilter) (announce s withdraw : VrpSet) → gs ≡ e.filters → withdraw ≡ set_of (filter (is_filtered gs) (listing s)) → announce ≡ e.assertions
    → union (without s withdraw) announce ≡ excepted e s
leads e gs announce s withdraw f w a =
    (λ i. union (without s (w i)) (a i)) ∙ (λ i. union (without s (set_of (filter (is_filtered (f i)) (listing s)))) e.assertions) ∙ by_change e s
