-- The names of trust anchors, and their numbers, where entries come one after the other.
use Rattle.std.proofs.Common.{◌≡◌, ◌≢◌, ◌⊎◌, ℕ, zero, suc, ◌+◌, ◌<◌, ◌≤◌, ◌++◌, ◌||◌, cond, Bool, true, false, List, [], ◌∷◌, length, map, take, drop, append-nil, Option, Some, None, option_map, bytes_eq, refl, sym, ap, ◌∙◌, inl, inr, arith}
use Rattle.std.specs.Prelude.{filter, filter_map, nat_le, not, slice_get}
use Rattle.std.proofs.Math.Bool.{or-true}
use Rattle.std.proofs.lemmas.Bool.Decides.{nat_tests}
use Rattle.std.proofs.lemmas.List.{drop_more, length-append, length-take-le, map-append, take-append-le, take_all}
use Rattle.std.proofs.lemmas.List.Elements.{filter-append, filter_map-append}
use Rattle.std.proofs.lemmas.Option.{get_or_from_slice_get, slice_get-map, slice_get_within}
use Rattle.std.proofs.lemmas.Slice.Eq.{bytes_eq-Decides}
use Rattle.prefixes.specs.Payload.{Payload}
use Rattle.exports.specs.Anchors.{anchor_names, different, number_in, place_from}
use Rattle.exports.specs.Names.{has_name, with_name, with_names}

pub eq_itself : (n : List ℕ) → bytes_eq n n ≡ true
eq_itself n = (bytes_eq-Decides n n).1 refl

-- ---- different names

-- Another name is not among those that are left out.
has_others : (n q : List ℕ) (xs : List (List ℕ)) → bytes_eq n q ≡ false → has_name (filter (λ m. not (bytes_eq n m)) xs) q ≡ has_name xs q
has_others n q [] other = refl
has_others n q (x ∷ xs) other = by_test (bytes_eq n x) refl (has_others n q xs other)
  where
    by_test : (b : Bool) → bytes_eq n x ≡ b → has_name (filter (λ m. not (bytes_eq n m)) xs) q ≡ has_name xs q
        → has_name (cond (not b) (x ∷ filter (λ m. not (bytes_eq n m)) xs) (filter (λ m. not (bytes_eq n m)) xs)) q ≡ (bytes_eq x q || has_name xs q)
    by_test true is rest = rest ∙ ap (λ b. b || has_name xs q) (sym (ap (λ y. bytes_eq y q) (sym ((bytes_eq-Decides n x).0 is)) ∙ other))
    by_test false is rest = ap (λ b. bytes_eq x q || b) rest

pub has_different : (ns : List (List ℕ)) (q : List ℕ) → has_name (different ns) q ≡ has_name ns q
has_different [] q = refl
has_different (n ∷ ns) q = by_test (bytes_eq n q) refl (has_different ns q)
  where
    by_test : (b : Bool) → bytes_eq n q ≡ b → has_name (different ns) q ≡ has_name ns q → (bytes_eq n q || has_name (filter (λ m. not (bytes_eq n m)) (different ns)) q) ≡ (bytes_eq n q || has_name ns q)
    by_test true is rest = ap (λ b. b || has_name (filter (λ m. not (bytes_eq n m)) (different ns)) q) is ∙ sym (ap (λ b. b || has_name ns q) is)
    by_test false is rest = ap (λ b. bytes_eq n q || b) (has_others n q (different ns) is ∙ rest)

-- One name more
different_more : (ns : List (List ℕ)) (q : List ℕ) → different (ns ++ q ∷ []) ≡ cond (has_name ns q) (different ns) (different ns ++ q ∷ [])
different_more [] q = refl
different_more (n ∷ ns) q = ap (λ xs. n ∷ filter (λ m. not (bytes_eq n m)) xs) (different_more ns q) ∙ by_tests (has_name ns q) (bytes_eq n q) refl
  where
    by_tests : (h b : Bool) → bytes_eq n q ≡ b → n ∷ filter (λ m. not (bytes_eq n m)) (cond h (different ns) (different ns ++ q ∷ []))
        ≡ cond (b || h) (n ∷ filter (λ m. not (bytes_eq n m)) (different ns)) (n ∷ filter (λ m. not (bytes_eq n m)) (different ns) ++ q ∷ [])
    by_tests true true is = refl
    by_tests true false is = refl
    by_tests false true is =
        ap (λ xs. n ∷ xs) (filter-append (λ m. not (bytes_eq n m)) (different ns) (q ∷ []) ∙ ap (λ b. filter (λ m. not (bytes_eq n m)) (different ns) ++ cond (not b) (q ∷ []) []) is ∙ append-nil (filter (λ m. not (bytes_eq n m)) (different ns)))
    by_tests false false is =
        ap (λ xs. n ∷ xs) (filter-append (λ m. not (bytes_eq n m)) (different ns) (q ∷ []) ∙ ap (λ b. filter (λ m. not (bytes_eq n m)) (different ns) ++ cond (not b) (q ∷ []) []) is)

-- ---- the first 32

-- They are all, or they are 32.
all_or_full : (xs : List (List ℕ)) (P : Type 0) → (length xs < 32 → P) → (32 ≤ length xs → P) → P
all_or_full xs P few many = by_test (nat_le 32 (length xs)) refl
  where
    by_test : (b : Bool) → nat_le 32 (length xs) ≡ b → P
    by_test true is = many (grind (arith, nat_tests))
    by_test false is = few (grind (arith, nat_tests))

abbrev kept : List (List ℕ) → List (List ℕ)
kept ns = take 32 (different ns)

with_room : (ns : List (List ℕ)) (q : List ℕ) → length (different ns) < 32 → kept (ns ++ q ∷ []) ≡ with_name (kept ns) (Some q)
with_room ns q few =
    let all : kept ns ≡ different ns = take_all 32 (different ns) (omega (arith, few)) in
    let room : nat_le 32 (length (different ns)) ≡ false = grind (arith, nat_tests) in
    ap (take 32) (different_more ns q)
    ∙ by_test (has_name ns q)
    ∙ ap (λ b. cond b (different ns) (different ns ++ q ∷ [])) (sym ((λ i. has_different ns q i || room i) ∙ or_false (has_name ns q)))
    ∙ (λ i. with_name (sym all i) (Some q))
  where
    or_false : (b : Bool) → (b || false) ≡ b
    or_false true = refl
    or_false false = refl

    by_test : (h : Bool) → take 32 (cond h (different ns) (different ns ++ q ∷ [])) ≡ cond h (different ns) (different ns ++ q ∷ [])
    by_test true = take_all 32 (different ns) (omega (arith, few))
    by_test false = take_all 32 (different ns ++ q ∷ []) (omega (arith, few, length-append (different ns) (q ∷ [])))

without_room : (ns : List (List ℕ)) (q : List ℕ) → 32 ≤ length (different ns) → kept (ns ++ q ∷ []) ≡ with_name (kept ns) (Some q)
without_room ns q many =
    let long : length (kept ns) ≡ 32 = length-take-le 32 (different ns) many in
    let full : nat_le 32 (length (kept ns)) ≡ true = ap (λ n. nat_le 32 n) long in
    ap (take 32) (different_more ns q) ∙ by_test (has_name ns q) ∙ ap (λ b. cond b (kept ns) (kept ns ++ q ∷ [])) (sym (ap (λ b. has_name (kept ns) q || b) full ∙ or-true (has_name (kept ns) q)))
  where
    by_test : (h : Bool) → take 32 (cond h (different ns) (different ns ++ q ∷ [])) ≡ kept ns
    by_test true = refl
    by_test false = take-append-le 32 (different ns) (q ∷ []) many

kept_more : (ns : List (List ℕ)) (q : List ℕ) → kept (ns ++ q ∷ []) ≡ with_name (kept ns) (Some q)
kept_more ns q = all_or_full (different ns) (kept (ns ++ q ∷ []) ≡ with_name (kept ns) (Some q)) (with_room ns q) (without_room ns q)

-- ---- of payloads with names

abbrev names_in : List (Payload × Option (List ℕ)) → List (List ℕ)
names_in ps = filter_map (λ p. p.1) ps

names_more : (ps : List (Payload × Option (List ℕ))) (v : Payload) (name : Option (List ℕ)) → anchor_names (ps ++ (v, name) ∷ []) ≡ with_name (anchor_names ps) name
names_more ps v None = ap kept (filter_map-append (λ (p : Payload × Option (List ℕ)). p.1) ps ((v, None) ∷ []) ∙ append-nil (names_in ps))
names_more ps v (Some q) = ap kept (filter_map-append (λ (p : Payload × Option (List ℕ)). p.1) ps ((v, Some q) ∷ [])) ∙ kept_more (names_in ps) q

-- ---- numbers

-- Without the name there is no place of it, and with it there is one.
no_place : (i : ℕ) (names : List (List ℕ)) (q : List ℕ) → has_name names q ≡ false → place_from i names q ≡ 255
no_place i [] q none = refl
no_place i (n ∷ names) q none = by_test (bytes_eq n q) none (no_place (suc i) names q)
  where
    by_test : (b : Bool) → (b || has_name names q) ≡ false → (has_name names q ≡ false → place_from (suc i) names q ≡ 255) → cond b i (place_from (suc i) names q) ≡ 255
    by_test true none rest = absurd (let no : true ≡ false = none in cc)
    by_test false none rest = rest none

place_within : (i : ℕ) (names : List (List ℕ)) (q : List ℕ) → has_name names q ≡ true → place_from i names q < i + length names
place_within i [] q has = absurd (let no : false ≡ true = has in cc)
place_within i (n ∷ names) q has = by_test (bytes_eq n q) has (place_within (suc i) names q)
  where
    by_test : (b : Bool) → (b || has_name names q) ≡ true → (has_name names q ≡ true → place_from (suc i) names q < suc i + length names) → cond b i (place_from (suc i) names q) < i + length (n ∷ names)
    by_test true has rest = omega arith
    by_test false has rest = omega (arith, rest has)

-- The name is added at the end.
place_last : (i : ℕ) (names : List (List ℕ)) (q : List ℕ) → has_name names q ≡ false → place_from i (names ++ q ∷ []) q ≡ i + length names
place_last i [] q none = ap (λ b. cond b i 255) (eq_itself q) ∙ omega arith
place_last i (n ∷ names) q none = by_test (bytes_eq n q) none (place_last (suc i) names q)
  where
    by_test : (b : Bool) → (b || has_name names q) ≡ false → (has_name names q ≡ false → place_from (suc i) (names ++ q ∷ []) q ≡ suc i + length names) → cond b i (place_from (suc i) (names ++ q ∷ []) q) ≡ i + length (n ∷ names)
    by_test true none rest = absurd (let no : true ≡ false = none in cc)
    by_test false none rest = rest none ∙ omega arith

is_new : (names : List (List ℕ)) (q : List ℕ) → place_from 0 names q ≡ 255 → length names < 32 → has_name names q ≡ false
is_new names q none few = by_test (has_name names q) refl
  where
    by_test : (b : Bool) → has_name names q ≡ b → has_name names q ≡ false
    by_test true is = absurd (omega (arith, place_within 0 names q is, none, few))
    by_test false is = is

pub kept_name : (names : List (List ℕ)) (q : List ℕ) → (place_from 0 names q ≢ 255) ⊎ (32 ≤ length names) → names ≡ with_name names (Some q)
kept_name names q (inl there) = by_test (has_name names q) refl
  where
    by_test : (b : Bool) → has_name names q ≡ b → names ≡ cond (has_name names q || nat_le 32 (length names)) names (names ++ q ∷ [])
    by_test true is = ap (λ b. cond (b || nat_le 32 (length names)) names (names ++ q ∷ [])) (sym is)
    by_test false is = absurd (there (no_place 0 names q is))
kept_name names q (inr many) =
    let full : nat_le 32 (length names) ≡ true = grind (arith, nat_tests) in
    ap (λ b. cond b names (names ++ q ∷ [])) (sym (ap (λ b. has_name names q || b) full ∙ or-true (has_name names q)))

pub new_name : (names : List (List ℕ)) (q : List ℕ) → place_from 0 names q ≡ 255 → length names < 32 → names ++ q ∷ [] ≡ with_name names (Some q)
new_name names q none few =
    let room : nat_le 32 (length names) ≡ false = grind (arith, nat_tests) in
    sym (λ i. cond (is_new names q none few i || room i) names (names ++ q ∷ []))

pub new_number : (names : List (List ℕ)) (q : List ℕ) → place_from 0 names q ≡ 255 → length names < 32 → place_from 0 (names ++ q ∷ []) q ≡ length names
new_number names q none few = place_last 0 names q (is_new names q none few) ∙ omega arith

-- The search for a name is at this place.
pub drop_name : {A : Type 0} (f : A → List ℕ) (xs : List A) (i : ℕ) (x : A) → slice_get xs i ≡ Some x → drop i (map f xs) ≡ f x ∷ drop (i + 1) (map f xs)
drop_name f xs i x is =
    let there : slice_get (map f xs) i ≡ Some (f x) = slice_get-map f xs i ∙ ap (option_map f) is in
    drop_more (map f xs) i (f x) (slice_get_within (map f xs) i (f x) there) ∙ ap (λ n. n ∷ drop (i + 1) (map f xs)) (get_or_from_slice_get (map f xs) i (f x) (f x) there)

pub drop_past : (names : List (List ℕ)) (i : ℕ) → length names ≤ i → drop i names ≡ []
drop_past [] zero past = refl
drop_past [] (suc i) past = refl
drop_past (n ∷ names) zero past = absurd (omega (arith, past))
drop_past (n ∷ names) (suc i) past = drop_past names i (omega (arith, past))

pub place_here : (i : ℕ) (n q : List ℕ) (names rest : List (List ℕ)) → names ≡ n ∷ rest → bytes_eq n q ≡ true → i ≡ place_from i names q
place_here i n q names rest is same = ap (λ b. cond b i (place_from (suc i) rest q)) (sym same) ∙ ap (λ ns. place_from i ns q) (sym is)

pub place_later : (i : ℕ) (n q : List ℕ) (names rest : List (List ℕ)) → names ≡ n ∷ rest → bytes_eq n q ≡ false → place_from (i + 1) rest q ≡ place_from i names q
place_later i n q names rest is other = ap (λ k. place_from k rest q) (omega arith) ∙ ap (λ b. cond b i (place_from (suc i) rest q)) (sym other) ∙ ap (λ ns. place_from i ns q) (sym is)

-- A name that is there keeps its place, where others follow.
place_kept : (i : ℕ) (names rest : List (List ℕ)) (q : List ℕ) → has_name names q ≡ true → place_from i (names ++ rest) q ≡ place_from i names q
place_kept i [] rest q has = absurd (let no : false ≡ true = has in cc)
place_kept i (n ∷ names) rest q has = by_test (bytes_eq n q) has (place_kept (suc i) names rest q)
  where
    by_test : (b : Bool) → (b || has_name names q) ≡ true → (has_name names q ≡ true → place_from (suc i) (names ++ rest) q ≡ place_from (suc i) names q) → cond b i (place_from (suc i) (names ++ rest) q) ≡ cond b i (place_from (suc i) names q)
    by_test true has kept = refl
    by_test false has kept = kept has

numbers_kept : (names rest : List (List ℕ)) (ps : List (Payload × Option (List ℕ))) → ((q : List ℕ) → has_name (names_in ps) q ≡ true → has_name names q ≡ true)
    → map (λ p. number_in (names ++ rest) p.1) ps ≡ map (λ p. number_in names p.1) ps
numbers_kept names rest [] all = refl
numbers_kept names rest ((v, None) ∷ ps) all = ap (λ ns. 255 ∷ ns) (numbers_kept names rest ps all)
numbers_kept names rest ((v, Some n) ∷ ps) all =
    let here = place_kept 0 names rest n (all n (ap (λ b. b || has_name (names_in ps) n) (eq_itself n))) in
    let others = numbers_kept names rest ps (λ q has. all q (ap (λ b. bytes_eq n q || b) has ∙ or-true (bytes_eq n q))) in
    λ i. here i ∷ others i

both_false : (a b : Bool) → (a || b) ≡ false → b ≡ false
both_false true b h = absurd (let no : true ≡ false = h in cc)
both_false false b h = h

-- Where one more name was added, all names so far were kept.
numbers_stay : (ps : List (Payload × Option (List ℕ))) (name : Option (List ℕ)) → map (λ p. number_in (with_name (anchor_names ps) name) p.1) ps ≡ map (λ p. number_in (anchor_names ps) p.1) ps
numbers_stay ps None = refl
numbers_stay ps (Some q) = by_test (has_name (anchor_names ps) q || nat_le 32 (length (anchor_names ps))) refl
  where
    ns : List (List ℕ)
    ns = names_in ps

    by_test : (b : Bool) → (has_name (kept ns) q || nat_le 32 (length (kept ns))) ≡ b
        → map (λ p. number_in (cond b (kept ns) (kept ns ++ q ∷ [])) p.1) ps ≡ map (λ p. number_in (kept ns) p.1) ps
    by_test true is = refl
    by_test false is =
        let room = both_false (has_name (kept ns) q) (nat_le 32 (length (kept ns))) is in
        all_or_full (different ns) (map (λ p. number_in (kept ns ++ q ∷ []) p.1) ps ≡ map (λ p. number_in (kept ns) p.1) ps)
        (λ few. numbers_kept (kept ns) (q ∷ []) ps (λ n has. ap (λ xs. has_name xs n) (take_all 32 (different ns) (omega (arith, few))) ∙ has_different ns n ∙ has))
        (λ many. absurd (let no : true ≡ false = ap (λ n. nat_le 32 n) (sym (length-take-le 32 (different ns) many)) ∙ room in cc))

-- The names and numbers of some payloads, with those of one more or of none
pub numbered_more : (b : Bool) (ps : List (Payload × Option (List ℕ))) (v : Payload) (name : Option (List ℕ)) (old new : List (List ℕ)) (before after : List ℕ)
    → old ≡ anchor_names ps → before ≡ map (λ (p : Payload × Option (List ℕ)). number_in (anchor_names ps) p.1) ps
    → new ≡ with_names old (cond b ((v, name) ∷ []) []) → after ≡ before ++ map (λ (p : Payload × Option (List ℕ)). number_in new p.1) (cond b ((v, name) ∷ []) [])
    → (new ≡ anchor_names (ps ++ cond b ((v, name) ∷ []) [])) × (after ≡ map (λ (p : Payload × Option (List ℕ)). number_in (anchor_names (ps ++ cond b ((v, name) ∷ []) [])) p.1) (ps ++ cond b ((v, name) ∷ []) []))
numbered_more false ps v name old new before after named numbers more number = (
  more ∙ named ∙ ap anchor_names (sym (append-nil ps)),
  number ∙ append-nil before ∙ numbers ∙ sym (λ i. map (λ (p : Payload × Option (List ℕ)). number_in (anchor_names (append-nil ps i)) p.1) (append-nil ps i)),
)
numbered_more true ps v name old new before after named numbers more number =
    let names : new ≡ anchor_names (ps ++ (v, name) ∷ []) = more ∙ ap (λ ns. with_name ns name) named ∙ sym (names_more ps v name) in
    let stay : before ≡ map (λ (p : Payload × Option (List ℕ)). number_in (anchor_names (ps ++ (v, name) ∷ [])) p.1) ps =
    numbers ∙ sym (numbers_stay ps name) ∙ ap (λ ns. map (λ (p : Payload × Option (List ℕ)). number_in ns p.1) ps) (sym (names_more ps v name)) in (
      names,
      number ∙ (λ i. stay i ++ number_in (names i) name ∷ []) ∙ sym (map-append (λ p. number_in (anchor_names (ps ++ (v, name) ∷ [])) p.1) ps ((v, name) ∷ [])),
    )
