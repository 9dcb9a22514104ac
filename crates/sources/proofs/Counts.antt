-- What counts at a moment of what was taken of a file.
use Rattle.std.proofs.Common.{◌≡◌, ℕ, ◌+◌, ◌^◌, ◌<◌, cond, Bool, true, false, nat_lt, List, [], ◌∷◌, length, take, Some, refl, sym, ap, ◌∙◌, arith}
use Rattle.std.specs.Prelude.{◌++◌, nat_le, slice_get, count_by, ◌||◌}
use Rattle.std.specs.List.{AllByRecursion}
use Rattle.std.specs.List.Sorted.{IsStrictlySortedBy}
use Rattle.std.specs.declared.cmp.Ordering.TheVariants.{Less}
use Rattle.std.proofs.lemmas.Bool.Decides.{nat_tests}
use Rattle.std.proofs.lemmas.List.Sums.{sum_by-cons}
use Rattle.prefixes.specs.Payload.{Payload, vrp_cmp}
use Rattle.vrps.specs.VrpSet.{listing, set_of, size}
use Rattle.vrps.proofs.Listed.{size_of_listing}
use Rattle.vrps.proofs.SetLaws.{listing_ascends, set_of-listing, size-set_of}
use Rattle.exports.specs.Lasting.{counting, last_at}
use Rattle.exports.proofs.Lasts.{counting-more}
use Rattle.sources.specs.Served.{counting_at, is_any_before}
use Rattle.sources.specs.declared.listed.Listed.{Listed}

-- ---- all count where no last second is before the moment

pub both_false : (a b : Bool) → (a || b) ≡ false → (a ≡ false) × (b ≡ false)
both_false true b h = absurd (let no : true ≡ false = h in cc)
both_false false b h = (refl, h)

pub all_count : (at : ℕ) (vs : List Payload) (lasts : List ℕ) → is_any_before at lasts ≡ false → counting at vs lasts ≡ vs
all_count at [] lasts none = refl
all_count at (v ∷ vs) [] none = refl
all_count at (v ∷ vs) (last ∷ lasts) none =
    let each = both_false (nat_lt last at) (is_any_before at lasts) none in
    let no : nat_lt last at ≡ false = each.0 in
    let yes : nat_le at last ≡ true = grind (arith, nat_tests) in
    (λ i. cond (yes i) (v ∷ all_count at vs lasts each.1 i) (all_count at vs lasts each.1 i))

-- One record more
pub one_more_counts : (at : ℕ) (vs : List Payload) (lasts : List ℕ) (i : ℕ) (v : Payload) (b : Bool) (left : List Payload) → at < 2 ^ 64 → slice_get vs i ≡ Some v → b ≡ nat_le at (last_at lasts i) → left ≡ counting at (take i vs) lasts
    → left ++ cond b (v ∷ []) [] ≡ counting at (take (i + 1) vs) lasts
one_more_counts at vs lasts i v b left small here is so_far = (λ k. so_far k ++ cond (is k) (v ∷ []) []) ∙ sym (counting-more at vs lasts i v small here)

pub whole_set : (at : ℕ) (l : Listed) → is_any_before at l.lasts.items ≡ false → l.set ≡ counting_at at l
whole_set at l none = sym (ap set_of (all_count at (listing l.set) l.lasts.items none) ∙ set_of-listing l.set)

-- ---- how many count

below_all : (P : Payload → Type 0) (at : ℕ) (vs : List Payload) (lasts : List ℕ) → AllByRecursion P vs → AllByRecursion P (counting at vs lasts)
below_all P at [] lasts h = tt
below_all P at (v ∷ vs) [] h = h
below_all P at (v ∷ vs) (last ∷ lasts) h = by_test (nat_le at last) (below_all P at vs lasts h.1)
  where
    by_test : (b : Bool) → AllByRecursion P (counting at vs lasts) → AllByRecursion P (cond b (v ∷ counting at vs lasts) (counting at vs lasts))
    by_test true rest = (h.0, rest)
    by_test false rest = rest

counting_ascends : (at : ℕ) (vs : List Payload) (lasts : List ℕ) → IsStrictlySortedBy vrp_cmp vs → IsStrictlySortedBy vrp_cmp (counting at vs lasts)
unfolding IsStrictlySortedBy
counting_ascends at [] lasts h = tt
counting_ascends at (v ∷ vs) [] h = h
counting_ascends at (v ∷ vs) (last ∷ lasts) h = by_test (nat_le at last) (below_all (λ y. vrp_cmp v y ≡ Less) at vs lasts h.0) (counting_ascends at vs lasts h.1)
  where
    by_test : (b : Bool) → AllByRecursion (λ y. vrp_cmp v y ≡ Less) (counting at vs lasts) → IsStrictlySortedBy vrp_cmp (counting at vs lasts) → IsStrictlySortedBy vrp_cmp (cond b (v ∷ counting at vs lasts) (counting at vs lasts))
    by_test true below rest = (below, rest)
    by_test false below rest = rest

-- how many of these last seconds are before the moment
abbrev gone : ℕ → List ℕ → ℕ
gone at lasts = count_by (λ last. nat_lt last at) lasts

abbrev step : Bool → ℕ
step b = cond b 1 0

gone-cons : (at last : ℕ) (lasts : List ℕ) → gone at (last ∷ lasts) ≡ step (nat_lt last at) + gone at lasts
gone-cons at last lasts = sum_by-cons (λ x. cond (nat_lt x at) 1 0) last lasts

counts_each : (at : ℕ) (vs : List Payload) (lasts : List ℕ) → length lasts ≡ length vs → length (counting at vs lasts) + gone at lasts ≡ length vs
counts_each at [] [] long = refl
counts_each at [] (last ∷ lasts) long = absurd (omega (arith, long))
counts_each at (v ∷ vs) [] long = absurd (omega (arith, long))
counts_each at (v ∷ vs) (last ∷ lasts) long = by_test (nat_lt last at) refl (counts_each at vs lasts (omega (arith, long)))
  where
    by_test : (b : Bool) → nat_lt last at ≡ b → length (counting at vs lasts) + gone at lasts ≡ length vs → length (cond (nat_le at last) (v ∷ counting at vs lasts) (counting at vs lasts)) + gone at (last ∷ lasts) ≡ length (v ∷ vs)
    by_test true is rest =
        let no : nat_le at last ≡ false = grind (arith, nat_tests) in
        let same = ap (λ b. length (cond b (v ∷ counting at vs lasts) (counting at vs lasts))) no in
        let one : step (nat_lt last at) ≡ 1 = ap step is in
        omega (arith, same, one, gone-cons at last lasts, rest)
    by_test false is rest =
        let yes : nat_le at last ≡ true = grind (arith, nat_tests) in
        let same = ap (λ b. length (cond b (v ∷ counting at vs lasts) (counting at vs lasts))) yes in
        let none : step (nat_lt last at) ≡ 0 = ap step is in
        omega (arith, same, none, gone-cons at last lasts, rest)

pub counted_all : (at : ℕ) (l : Listed) → length l.lasts.items ≡ size l.set → size (counting_at at l) + count_by (λ last. nat_lt last at) l.lasts.items ≡ size l.set
counted_all at l long =
    let listed = size_of_listing l.set in
    let each = counts_each at (listing l.set) l.lasts.items (long ∙ sym listed) in
    let counted = size-set_of (counting at (listing l.set) l.lasts.items) (counting_ascends at (listing l.set) l.lasts.items (listing_ascends l.set)) in
    omega (arith, listed, each, counted)
