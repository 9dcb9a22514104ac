-- What is known of a route's state while groups that cover it are found.
use Rattle.std.proofs.Common.{◌≡◌, ◌∙◌, inl, inr, ℕ, zero, suc, ◌+◌, ◌-◌, ◌*◌, ◌<◌, ◌≤◌, Bool, true, false, ◌&&◌, ◌||◌, cond, List, [], ◌∷◌, ◌++◌, length, get_or, drop, take, filter, reverse, ap, sym, subst, refl, arith}
use Rattle.std.proofs.Math.Bool.{or-true}
use Rattle.std.specs.Prelude.{nat_le}
use Rattle.std.specs.List.{AllByRecursion, list_any, slice_range}
use Rattle.std.proofs.lemmas.Bool.{cases_lt}
use Rattle.std.proofs.lemmas.Int.Digits.{length-digits_of-le}
use Rattle.std.proofs.lemmas.List.{drop_all, get_or_past, reverse-append, reverse-reverse}
use Rattle.std.proofs.lemmas.List.Edits.{get_or-between, length-between, split_between}
use Rattle.std.proofs.lemmas.List.Elements.{filter-append, recursion_from_All}
use Rattle.std.proofs.lemmas.List.Folds.{drop_split, list_any-append, list_any_at, list_any_none}
use Rattle.std.proofs.lemmas.Nat.{mul-le}
use Rattle.prefixes.specs.Payload.{Payload, block_of, width_of}
use Rattle.prefixes.specs.declared.prefix.IpPrefix.{IpPrefix}
use Rattle.prefixes.specs.declared.prefix.IpPrefix.TheVariants.{V4, V6}
use Rattle.prefixes.specs.declared.route.Route.{Route}
use Rattle.vrps.specs.Groups.{AreGroups, begin, group_at}
use Rattle.vrps.specs.Origin.{covers_route, is_origin, matches, state_among}
use Rattle.vrps.specs.Search.{IsNextGroup, NoneCovers, digit_count}
use Rattle.vrps.specs.declared.origin.OriginState.{OriginState}
use Rattle.vrps.specs.declared.origin.OriginState.TheVariants.{Valid, Invalid, NotFound}
use Rattle.vrps.proofs.Grouped.{begins_up_to, begins_within}
use Rattle.prefixes.proofs.Basics.{false_if_never}

-- What the records from a place on say of the route
abbrev pub Judged : List Payload → Route → ℕ → OriginState → Type 0
Judged records r from Valid = ⊥
Judged records r from Invalid = (k : ℕ) × (k < length records) × ((d : Payload) → covers_route r (get_or records k d) ≡ true)
Judged records r from NotFound = NoneCovers records r.prefix from (length records)

abbrev pub NoneMatches : List Payload → Route → ℕ → Type 0
NoneMatches records r from = (k : ℕ) (d : Payload) → from ≤ k → k < length records → matches r (get_or records k d) ≡ false

-- the first payload in order
pub first_payload : Payload
first_payload = record { prefix = V4 (record { addr = 0; len = 0 }); max_len = 0; asn = 0 }

-- who doesn't cover doesn't match
uncovered : (r : Route) (v : Payload) → covers_route r v ≡ false → matches r v ≡ false
uncovered r v is = ap (λ b. b && (nat_le (block_of r.prefix).len v.max_len && is_origin r.origin v.asn)) is

pub judged_none : (records : List Payload) (r : Route) (from : ℕ) (state : OriginState) → Judged records r from state → NoneMatches records r from → NoneCovers records r.prefix 0 from → state ≡ state_among records r
judged_none records r from Valid h none uncovers = absurd h
judged_none records r from Invalid h none uncovers =
    let any = list_any_none (matches r) records (λ k d low. unmatched k d low) in
    let covered = list_any_at (covers_route r) records h.0 first_payload h.1 (h.2 first_payload) in
    λ i. cond (sym any i) Valid (cond (sym covered i) Invalid NotFound)
  where
    unmatched : (k : ℕ) (d : Payload) → k < length records → matches r (get_or records k d) ≡ false
    unmatched k d low = elim (cases_lt k from) [ inl less ↦ uncovered r _ (uncovers k d (omega arith) less) | inr more ↦ none k d more low ]
judged_none records r from NotFound h none uncovers =
    let any = list_any_none (matches r) records (λ k d low. uncovered r _ (uncovered_all k d low)) in
    let covered = list_any_none (covers_route r) records uncovered_all in
    λ i. cond (sym any i) Valid (cond (sym covered i) Invalid NotFound)
  where
    uncovered_all : (k : ℕ) (d : Payload) → k < length records → covers_route r (get_or records k d) ≡ false
    uncovered_all k d low = elim (cases_lt k from) [ inl less ↦ uncovers k d (omega arith) less | inr more ↦ h k d more low ]

-- What part of a list satisfies, the list does.
pub any_part : (p : Payload → Bool) (vs : List Payload) (i j : ℕ) → i ≤ j → list_any p (slice_range vs i j) ≡ true → list_any p vs ≡ true
any_part p vs i j le h =
    ap (list_any p) (split_between vs i j le) ∙ list_any-append p (take i vs) (slice_range vs i j ++ drop j vs)
    ∙ ap (λ b. list_any p (take i vs) || b) (list_any-append p (slice_range vs i j) (drop j vs) ∙ ap (λ b. b || list_any p (drop j vs)) h) ∙ or-true (list_any p (take i vs))

pub matched_part : (records : List Payload) (r : Route) (i j : ℕ) → i ≤ j → list_any (matches r) (slice_range records i j) ≡ true → state_among records r ≡ Valid
matched_part records r i j le h = ap (λ b. cond b Valid (cond (list_any (covers_route r) records) Invalid NotFound)) (any_part (matches r) records i j le h)

module _ (records : List Payload) (starts : List ℕ) (g : AreGroups records starts) (r : Route) (places new : ℕ) (group : List Payload) (in_places : places ≤ length starts) (next : IsNextGroup records starts r.prefix places new group) where
  -- a group in which none matches
  pub none_more : NoneMatches records r (begin records starts places) → list_any (matches r) group ≡ false → NoneMatches records r (begin records starts new)
  none_more none missed k d from low = elim (cases_lt k (begin records starts (new + 1))) [
    | inl inside ↦ false_if_never _ (λ it.
        let end = g.within (new + 1) in
        let at = get_or-between records (begin records starts new) (begin records starts (new + 1)) (k - begin records starts new) d (omega (arith, from, inside)) in
        let is : begin records starts new + (k - begin records starts new) ≡ k = omega (arith, from) in
        let size = length-between records (begin records starts new) (begin records starts (new + 1)) end in
        let one : list_any (matches r) (group_at records starts new) ≡ true =
        list_any_at (matches r) (group_at records starts new) (k - begin records starts new) d (omega (arith, size, from, inside)) (ap (matches r) (at ∙ ap (λ n. get_or records n d) is) ∙ it) in
        let two : true ≡ false = sym one ∙ ap (list_any (matches r)) (sym next.is) ∙ missed in cc)
    | inr after ↦ elim (cases_lt k (begin records starts places)) [
      | inl before ↦ uncovered r _ (next.none_after k d after before)
      | inr more ↦ none k d more low
    ]
  ]

  pub now_covered : Judged records r (begin records starts new) Invalid
  now_covered = let low = begins_within records starts g new (let f = next.fewer in omega (arith, f, in_places)) in let some = g.grow new (let f = next.fewer in omega (arith, f, in_places)) in (begin records starts new, low, λ d. next.covers_it (begin records starts new) d (omega arith) some)

-- No group is empty, so there are at most as many groups as records.
pub few_groups : (records : List Payload) (starts : List ℕ) → AreGroups records starts → length starts ≤ length records
few_groups records starts g = let a = rises (length starts) (omega arith) in let b = g.within (length starts) in omega (arith, a, b)
  where
    rises : (i : ℕ) → i ≤ length starts → i ≤ begin records starts i
    rises zero le = omega arith
    rises (suc i) le =
        let a = rises i (omega (arith, le)) in
        let b = g.grow i (omega (arith, le)) in
        let one : i + 1 ≡ suc i = omega arith in
        subst (λ n. suc i ≤ begin records starts n) one (omega (arith, a, b))

pub few_digits : (n : ℕ) → n ≤ 16777215 → digit_count n ≤ 24
few_digits n h = length-digits_of-le 2 24 n (omega arith) (omega (arith, h))

pub few_probes : (len n : ℕ) → len ≤ 128 → n ≤ 16777215 → (len + 1) * digit_count n ≤ 3096
few_probes len n short few = mul-le (len + 1) (digit_count n) 129 24 (omega (arith, short)) (few_digits n few)

pub at_most_128 : (p : IpPrefix) → width_of p ≤ 128
at_most_128 (V4 p) = omega arith
at_most_128 (V6 p) = omega arith

-- a filter that keeps all of a list, or nothing
keeps_all : (p : Payload → Bool) (vs : List Payload) → AllByRecursion (λ v. p v ≡ true) vs → filter p vs ≡ vs
keeps_all p [] h = refl
keeps_all p (v ∷ vs) h = λ i. cond (h.0 i) (v ∷ keeps_all p vs h.1 i) (filter p vs)

keeps_none : (p : Payload → Bool) (vs : List Payload) → AllByRecursion (λ v. p v ≡ false) vs → filter p vs ≡ []
keeps_none p [] h = refl
keeps_none p (v ∷ vs) h = ap (λ b. cond b (v ∷ filter p vs) (filter p vs)) h.0 ∙ keeps_none p vs h.1

part_all : (p : Payload → Bool) (b : Bool) (vs : List Payload) (i j : ℕ) → j ≤ length vs → ((k : ℕ) (d : Payload) → i ≤ k → k < j → p (get_or vs k d) ≡ b) → AllByRecursion (λ v. p v ≡ b) (slice_range vs i j)
part_all p b vs i j within h =
    recursion_from_All (λ v. p v ≡ b) (slice_range vs i j) (λ m d low.
    let size = length-between vs i j within in
    ap p (get_or-between vs i j m d (omega (arith, size, low))) ∙ h (i + m) d (omega arith) (omega (arith, size, low)))

pub kept_part : (p : Payload → Bool) (vs : List Payload) (i j : ℕ) → i ≤ j → j ≤ length vs → ((k : ℕ) (d : Payload) → i ≤ k → k < j → p (get_or vs k d) ≡ true) → filter p (drop i vs) ≡ slice_range vs i j ++ filter p (drop j vs)
kept_part p vs i j le within h =
    ap (filter p) (drop_split vs i j le) ∙ filter-append p (slice_range vs i j) (drop j vs) ∙ ap (λ l. l ++ filter p (drop j vs)) (keeps_all p (slice_range vs i j) (part_all p true vs i j within h))

pub dropped_part : (p : Payload → Bool) (vs : List Payload) (i j : ℕ) → i ≤ j → j ≤ length vs → ((k : ℕ) (d : Payload) → i ≤ k → k < j → p (get_or vs k d) ≡ false) → filter p (drop i vs) ≡ filter p (drop j vs)
dropped_part p vs i j le within h =
    ap (filter p) (drop_split vs i j le) ∙ filter-append p (slice_range vs i j) (drop j vs) ∙ ap (λ l. l ++ filter p (drop j vs)) (keeps_none p (slice_range vs i j) (part_all p false vs i j within h))

pub found_more : (records : List Payload) (starts : List ℕ) (g : AreGroups records starts) (r : Route) (places new : ℕ) (group found more : List Payload) → places ≤ length starts → IsNextGroup records starts r.prefix places new group
    → found ≡ reverse (filter (covers_route r) (drop (begin records starts places) records)) → more ≡ found ++ reverse group → more ≡ reverse (filter (covers_route r) (drop (begin records starts new) records))
found_more records starts g r places new group found more in_places next is pushed =
    let fewer = next.fewer in
    let some = g.grow new (omega (arith, fewer, in_places)) in
    let on = begins_up_to records starts g (new + 1) places (omega (arith, fewer)) in_places in
    let one = kept_part (covers_route r) records (begin records starts new) (begin records starts (new + 1)) (omega (arith, some)) (g.within (new + 1)) next.covers_it in
    let two = dropped_part (covers_route r) records (begin records starts (new + 1)) (begin records starts places) on (g.within places) next.none_after in
    pushed ∙ (λ i. is i ++ reverse (next.is i)) ∙ sym (reverse-append (group_at records starts new) (filter (covers_route r) (drop (begin records starts places) records)))
    ∙ ap reverse (sym (one ∙ ap (λ l. group_at records starts new ++ l) two))

pub found_all : (records : List Payload) (starts : List ℕ) (g : AreGroups records starts) (r : Route) (places : ℕ) (found : List Payload) → NoneCovers records r.prefix 0 (begin records starts places)
    → found ≡ reverse (filter (covers_route r) (drop (begin records starts places) records)) → reverse found ≡ filter (covers_route r) records
found_all records starts g r places found none is =
    ap reverse is ∙ reverse-reverse (filter (covers_route r) (drop (begin records starts places) records))
    ∙ sym (dropped_part (covers_route r) records 0 (begin records starts places) (omega arith) (g.within places) none)

-- no record is past the end
pub none_found_yet : (records : List Payload) (starts : List ℕ) (r : Route) → [] ≡ reverse (filter (covers_route r) (drop (begin records starts (length starts)) records))
none_found_yet records starts r =
    let end : begin records starts (length starts) ≡ length records = get_or_past starts (length starts) (length records) (omega arith) in
    sym (ap (λ l. reverse (filter (covers_route r) l)) (drop_all (begin records starts (length starts)) records (omega (arith, end))))
