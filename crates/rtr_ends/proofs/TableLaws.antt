-- What the staged records of an answer do to a table.
use Rattle.rtr_ends.proofs.Words.{◌≡◌, Bool, true, false, not, ◌&&◌, ◌||◌, List, [], ◌∷◌, Some, refl, ap, ◌∙◌, AllByRecursion, eq_by_cmp, and_parts, or_parts, Payload, vrp_cmp, VrpSet, empty, has, set_of, without, same_set, has-empty, has-union, has-without, false_of_not}
use Rattle.std.specs.List.{IsDistinct}
use Rattle.rtr_ends.specs.Commit.{Commits}
use Rattle.rtr_ends.specs.Transcript.{is_among, may_withdraw, may_announce, acts_once, led_to, ActsExactly}

pub false_true : {P : Type 0} → false ≡ true → P
false_true h = absurd (let e : false ≡ true = h in cc)

-- What is something is one thing.
pub inside : {A : Type 0} {a b : A} → Some a ≡ Some b → a ≡ b
inside h = cc

not_false : (b : Bool) → b ≡ false → not b ≡ true
not_false b h = ap not h

-- From nothing, what is announced is all.
pub led_from_empty : (vs : List Payload) → led_to empty [] vs ≡ set_of vs
unfolding led_to
led_from_empty vs = same_set _ _ (λ q.
    has-union (without empty (set_of [])) (set_of vs) q
    ∙ ap (λ b. b || has (set_of vs) q) (has-without empty (set_of []) q ∙ ap (λ b. b && not (has (set_of []) q)) (has-empty q)))

-- A payload that is not listed is none of the list.
apart : (v : Payload) (vs : List Payload) → is_among v vs ≡ false → AllByRecursion (λ w. eq_by_cmp vrp_cmp v w ≡ false) vs
apart v [] h = tt
apart v (w ∷ vs) h = let parts = or_parts (eq_by_cmp vrp_cmp v w) (is_among v vs) h in (parts.0, apart v vs parts.1)

not_listed : (v : Payload) (vs : List Payload) → AllByRecursion (λ w. eq_by_cmp vrp_cmp v w ≡ false) vs → is_among v vs ≡ false
not_listed v [] h = refl
not_listed v (w ∷ vs) h = λ i. h.0 i || not_listed v vs h.1 i

-- the records withdrawn
withdraws : (base : VrpSet) (vs : List Payload) → may_withdraw base vs ≡ true → AllByRecursion (λ v. has base v ≡ true) vs × IsDistinct (eq_by_cmp vrp_cmp) vs
unfolding IsDistinct
withdraws base [] h = (tt, tt)
withdraws base (v ∷ vs) h =
    let parts = and_parts (has base v && not (is_among v vs)) (may_withdraw base vs) h in
    let first = and_parts (has base v) (not (is_among v vs)) parts.0 in
    let rest = withdraws base vs parts.1 in
    ((first.0, rest.0), (apart v vs (false_of_not (is_among v vs) first.1), rest.1))

may_withdraw_so : (base : VrpSet) (vs : List Payload) → AllByRecursion (λ v. has base v ≡ true) vs → IsDistinct (eq_by_cmp vrp_cmp) vs → may_withdraw base vs ≡ true
unfolding IsDistinct
may_withdraw_so base [] known once = refl
may_withdraw_so base (v ∷ vs) known once = λ i. (known.0 i && not_false (is_among v vs) (not_listed v vs once.0) i) && may_withdraw_so base vs known.1 once.1 i

-- the records announced
announces : (base : VrpSet) (vs : List Payload) → may_announce base vs ≡ true → AllByRecursion (λ v. has base v ≡ false) vs × IsDistinct (eq_by_cmp vrp_cmp) vs
unfolding IsDistinct
announces base [] h = (tt, tt)
announces base (v ∷ vs) h =
    let parts = and_parts (not (has base v) && not (is_among v vs)) (may_announce base vs) h in
    let first = and_parts (not (has base v)) (not (is_among v vs)) parts.0 in
    let rest = announces base vs parts.1 in
    ((false_of_not (has base v) first.0, rest.0), (apart v vs (false_of_not (is_among v vs) first.1), rest.1))

may_announce_so : (base : VrpSet) (vs : List Payload) → AllByRecursion (λ v. has base v ≡ false) vs → IsDistinct (eq_by_cmp vrp_cmp) vs → may_announce base vs ≡ true
unfolding IsDistinct
may_announce_so base [] known once = refl
may_announce_so base (v ∷ vs) known once = λ i. (not_false (has base v) known.0 i && not_false (is_among v vs) (not_listed v vs once.0) i) && may_announce_so base vs known.1 once.1 i

-- The test of a commit is exact.
pub acts_exactly : ActsExactly
unfolding led_to
acts_exactly base withdrawn announced = (forth, back)
  where
    forth : acts_once base withdrawn announced ≡ true → Commits base withdrawn announced (led_to base withdrawn announced)
    forth h =
        let parts = and_parts (may_withdraw base withdrawn) (may_announce base announced) h in
        let gone = withdraws base withdrawn parts.0 in
        let come = announces base announced parts.1 in
        record { known = gone.0; withdrawn_once = gone.1; unknown = come.0; announced_once = come.1; leads = refl }

    back : Commits base withdrawn announced (led_to base withdrawn announced) → acts_once base withdrawn announced ≡ true
    back c = λ i. may_withdraw_so base withdrawn c.known c.withdrawn_once i && may_announce_so base announced c.unknown c.announced_once i
