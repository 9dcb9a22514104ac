-- How many payloads of a file come from each trust anchor, counted one after the other.
use Rattle.std.proofs.Common.{◌≡◌, ℕ, zero, suc, ◌+◌, ◌^◌, ◌<◌, ◌≤◌, cond, Bool, true, false, List, [], ◌∷◌, length, replicate, take, Option, Some, None, refl, sym, ap, ◌∙◌, arith}
use Rattle.std.specs.Prelude.{◌==◌, ◌&&◌, nat_le, slice_get, slice_set, unwrap_or}
use Rattle.std.proofs.lemmas.Bool.Decides.{nat_tests}
use Rattle.std.proofs.lemmas.List.{length-replicate}
use Rattle.sources.specs.ByAnchor.{AreLeft, left_with, raised}

-- ---- places in lists

length_raised : (place : Option ℕ) (counts : List ℕ) → length (raised place counts) ≡ length counts
length_raised None counts = refl
length_raised (Some i) counts = by_place i (unwrap_or (slice_get counts i) 0 + 1) counts
  where
    by_place : (i x : ℕ) (ns : List ℕ) → length (slice_set ns i x) ≡ length ns
    by_place i x [] = refl
    by_place zero x (n ∷ ns) = refl
    by_place (suc i) x (n ∷ ns) = ap suc (by_place i x ns)

-- one, if these are the same number
abbrev one_if : Option ℕ → ℕ → ℕ
one_if None k = 0
one_if (Some i) k = cond (i == k) 1 0

raised_at : (place : Option ℕ) (counts : List ℕ) (k n : ℕ) → slice_get (raised place counts) k ≡ Some n → (m : ℕ) × (slice_get counts k ≡ Some m) × (n ≡ m + one_if place k)
raised_at None counts k n is = (n, is, omega arith)
raised_at (Some i) [] k n is = absurd (cc)
raised_at (Some zero) (m ∷ counts) zero n is = let same : m + 1 ≡ n = cc in (m, refl, sym same)
raised_at (Some zero) (m ∷ counts) (suc k) n is = let other : (zero == suc k) ≡ false = grind (arith, nat_tests) in (n, is, sym (ap (λ b. n + cond b 1 0) other ∙ omega arith))
raised_at (Some (suc i)) (m ∷ counts) zero n is = let same : m ≡ n = cc in let other : (suc i == zero) ≡ false = grind (arith, nat_tests) in (m, refl, sym same ∙ sym (ap (λ b. m + cond b 1 0) other ∙ omega arith))
raised_at (Some (suc i)) (m ∷ counts) (suc k) n is =
    let r = raised_at (Some i) counts k n is in
    let same : (i == k) ≡ (suc i == suc k) = grind (arith, nat_tests) in
    (r.0, r.1, r.2 ∙ ap (λ b. r.0 + cond b 1 0) same)

in_zeros : (n i k : ℕ) → slice_get (replicate n 0) i ≡ Some k → k ≡ 0
in_zeros zero i k is = absurd (cc)
in_zeros (suc n) zero k is = cc
in_zeros (suc n) (suc i) k is = in_zeros n i k is

-- ---- one last second after the other

left_most : (now k : ℕ) (lasts numbers : List ℕ) → left_with now k lasts numbers ≤ length lasts
left_most now k [] numbers = omega arith
left_most now k (last ∷ lasts) [] = omega arith
left_most now k (last ∷ lasts) (n ∷ numbers) = by_test (nat_le now last && (n == k)) (left_most now k lasts numbers)
  where
    by_test : (b : Bool) → left_with now k lasts numbers ≤ length lasts → cond b (suc (left_with now k lasts numbers)) (left_with now k lasts numbers) ≤ suc (length lasts)
    by_test true rest = omega (arith, rest)
    by_test false rest = omega (arith, rest)

left_more : (now k : ℕ) (lasts numbers : List ℕ) (i last : ℕ) → slice_get lasts i ≡ Some last
    → left_with now k (take (suc i) lasts) numbers ≡ left_with now k (take i lasts) numbers + one_if (cond (nat_le now last) (slice_get numbers i) None) k
left_more now k [] numbers i last is = absurd (cc)
left_more now k (l ∷ lasts) [] zero last is = by_test (nat_le now last)
  where
    by_test : (b : Bool) → 0 ≡ 0 + one_if (cond b None None) k
    by_test true = refl
    by_test false = refl
left_more now k (l ∷ lasts) [] (suc i) last is = by_test (nat_le now last)
  where
    by_test : (b : Bool) → 0 ≡ 0 + one_if (cond b None None) k
    by_test true = refl
    by_test false = refl
left_more now k (l ∷ lasts) (n ∷ numbers) zero last is = let same : l ≡ last = cc in ap (λ x. cond (nat_le now x && (n == k)) 1 0) same ∙ by_test (nat_le now last)
  where
    one_or_none : (b : Bool) → cond b 1 0 ≡ 0 + cond b 1 0
    one_or_none true = refl
    one_or_none false = refl

    by_test : (a : Bool) → cond (a && (n == k)) 1 0 ≡ 0 + one_if (cond a (Some n) None) k
    by_test true = one_or_none (n == k)
    by_test false = refl
left_more now k (l ∷ lasts) (n ∷ numbers) (suc i) last is = by_test (nat_le now l && (n == k)) (left_more now k lasts numbers i last is)
  where
    by_test : (b : Bool) → left_with now k (take (suc i) lasts) numbers ≡ left_with now k (take i lasts) numbers + one_if (cond (nat_le now last) (slice_get numbers i) None) k
        → cond b (suc (left_with now k (take (suc i) lasts) numbers)) (left_with now k (take (suc i) lasts) numbers)
        ≡ cond b (suc (left_with now k (take i lasts) numbers)) (left_with now k (take i lasts) numbers) + one_if (cond (nat_le now last) (slice_get numbers i) None) k
    by_test true rest = omega (arith, rest)
    by_test false rest = rest

pub none_left : (now names : ℕ) (numbers counts : List ℕ) → counts ≡ replicate names 0 → AreLeft now names [] numbers counts
none_left now names numbers counts is = record {
  one_each = ap length is ∙ length-replicate names 0;
  each = λ k n at. in_zeros names k n (ap (λ ns. slice_get ns k) (sym is) ∙ at);
}

pub one_more_left : (now names : ℕ) (lasts numbers counts : List ℕ) (i last : ℕ) → slice_get lasts i ≡ Some last → AreLeft now names (take i lasts) numbers counts
    → AreLeft now names (take (i + 1) lasts) numbers (raised (cond (nat_le now last) (slice_get numbers i) None) counts)
one_more_left now names lasts numbers counts i last here so_far = record {
  one_each = length_raised (cond (nat_le now last) (slice_get numbers i) None) counts ∙ so_far.one_each;
  each = λ k n at.
      let r = raised_at (cond (nat_le now last) (slice_get numbers i) None) counts k n at in
      let next : suc i ≡ i + 1 = omega arith in
      r.2 ∙ ap (λ m. m + one_if (cond (nat_le now last) (slice_get numbers i) None) k) (so_far.each k r.0 r.1) ∙ sym (left_more now k lasts numbers i last here) ∙ ap (λ j. left_with now k (take j lasts) numbers) next;
}

-- There is room for one more.
pub has_room : (now names : ℕ) (lasts numbers counts : List ℕ) (i : ℕ) → i + 1 < 2 ^ 64 → AreLeft now names (take i lasts) numbers counts → (k n : ℕ) → slice_get counts k ≡ Some n → n + 1 < 2 ^ 64
has_room now names lasts numbers counts i small so_far k n at =
    let most = left_most now k (take i lasts) numbers in
    let long = take_most i lasts in
    omega (arith, so_far.each k n at, most, long, small)
  where
    take_most : (i : ℕ) (ns : List ℕ) → length (take i ns) ≤ i
    take_most zero ns = omega arith
    take_most (suc i) [] = omega arith
    take_most (suc i) (n ∷ ns) = omega (arith, take_most i ns)
