-- The order of numbers in bytes is that of their lengths, and then that of the bytes.
use Rattle.std.proofs.Common.{◌≡◌, ◌≢◌, ℕ, zero, suc, ◌+◌, ◌*◌, ◌^◌, ◌<◌, ◌≤◌, ltb, List, [], ◌∷◌, length, refl, sym, ap, subst, ◌∙◌, arith}
use Rattle.std.proofs.lemmas.Bool.{lt-ltb, false_from_ne_true, ltb-true}
use Rattle.std.proofs.Math.Nat.{pow-le-pow_right, mul-le-mul_right, add-mul}
use Rattle.std.specs.Ordering.{nat_cmp, ordering_then, is_gt, MatchOrdering}
use Rattle.std.specs.Cmp.{nat_cmp_is, ranked}
use Rattle.std.specs.Cmp.Lexicographic.{slice_cmp}
use Rattle.std.specs.declared.cmp.Ordering.{Ordering}
use Rattle.std.specs.declared.cmp.Ordering.TheVariants.{Less, Equal, Greater}
use Rattle.der_lite.specs.Der.{IsBytes, number}
use Rattle.der_lite.proofs.Integers.{number_bound}
use Rattle.points.specs.Numbers.{HasNoZero}

-- a lower first digit decides, if as many digits are behind each
lower_first : (x y w m n : ℕ) → x < y → m < w → x * w + m < y * w + n
lower_first x y w m n h b =
    let most : (x + 1) * w ≤ y * w = mul-le-mul_right w (omega arith) in
    omega (arith, most, add-mul x 1 w, b)

-- what is added to both changes no order
added : (r : Ordering) (k m n : ℕ) → MatchOrdering r (m < n) (m ≡ n) (n < m) → MatchOrdering r (k + m < k + n) (k + m ≡ k + n) (k + n < k + m)
added Less k m n h = omega (arith, h)
added Equal k m n h = ap (λ (i : ℕ). k + i) h
added Greater k m n h = omega (arith, h)

same_added : (k m n : ℕ) → nat_cmp m n ≡ nat_cmp (k + m) (k + n)
same_added k m n = nat_cmp_is (k + m) (k + n) (nat_cmp m n) (added (nat_cmp m n) k m n (ranked m n (nat_cmp m n) refl))

by_first : (r : Ordering) (x y w m n : ℕ) (later : Ordering) → r ≡ nat_cmp x y → m < w → n < w → later ≡ nat_cmp m n → ordering_then r later ≡ nat_cmp (x * w + m) (y * w + n)
by_first Less x y w m n later e bm bn h =
    let k : x < y = ranked x y Less e in nat_cmp_is (x * w + m) (y * w + n) Less (lower_first x y w m n k bm)
by_first Equal x y w m n later e bm bn h =
    let k : x ≡ y = ranked x y Equal e in
    h ∙ same_added (x * w) m n ∙ ap (λ (i : ℕ). nat_cmp (x * w + m) (i * w + n)) k
by_first Greater x y w m n later e bm bn h =
    let k : y < x = ranked x y Greater e in nat_cmp_is (x * w + m) (y * w + n) Greater (lower_first y x w n m k bn)

same_length : (a b : List ℕ) → length a ≡ length b → IsBytes a → IsBytes b → slice_cmp nat_cmp a b ≡ nat_cmp (number a) (number b)
same_length [] [] l ha hb = nat_cmp_is 0 0 Equal refl
same_length [] (y ∷ ys) l ha hb = absurd (omega (arith, l))
same_length (x ∷ xs) [] l ha hb = absurd (omega (arith, l))
same_length (x ∷ xs) (y ∷ ys) l ha hb =
    let tails : length xs ≡ length ys = omega (arith, l) in
    let w = 256 ^ length xs in
    let bx : number xs < w = number_bound xs (λ i. ha (suc i)) in
    let by : number ys < w = subst (λ (n : ℕ). number ys < 256 ^ n) (sym tails) (number_bound ys (λ i. hb (suc i))) in
    by_first (nat_cmp x y) x y w (number xs) (number ys) (slice_cmp nat_cmp xs ys) refl bx by (same_length xs ys tails (λ i. ha (suc i)) (λ i. hb (suc i)))
    ∙ ap (λ (n : ℕ). nat_cmp (x * w + number xs) (y * 256 ^ n + number ys)) tails

-- fewer bytes are a lower number
fewer : (a b : List ℕ) → length a < length b → IsBytes a → HasNoZero b → number a < number b
fewer a [] l ha hb = absurd (omega (arith, l))
fewer a (y ∷ ys) l ha hb =
    let w = 256 ^ length ys in
    let most : 256 ^ length a ≤ w = pow-le-pow_right (omega arith) (omega (arith, l)) in
    let least : 1 * w ≤ y * w = mul-le-mul_right w (positive y hb) in
    omega (arith, number_bound a ha, most, least)
  where
    positive : (y : ℕ) → y ≢ 0 → 1 ≤ y
    positive zero h = absurd (h refl)
    positive (suc y) h = omega arith

by_length : (r : Ordering) (a b : List ℕ) → r ≡ nat_cmp (length a) (length b) → IsBytes a → IsBytes b → HasNoZero a → HasNoZero b → ordering_then r (slice_cmp nat_cmp a b) ≡ nat_cmp (number a) (number b)
by_length Less a b e ha hb na nb = nat_cmp_is (number a) (number b) Less (fewer a b (ranked (length a) (length b) Less e) ha nb)
by_length Equal a b e ha hb na nb = same_length a b (ranked (length a) (length b) Equal e) ha hb
by_length Greater a b e ha hb na nb = nat_cmp_is (number a) (number b) Greater (fewer b a (ranked (length a) (length b) Greater e) hb na)

pub ordered : (a b : List ℕ) → IsBytes a → IsBytes b → HasNoZero a → HasNoZero b → ordering_then (nat_cmp (length a) (length b)) (slice_cmp nat_cmp a b) ≡ nat_cmp (number a) (number b)
ordered a b = by_length (nat_cmp (length a) (length b)) a b refl

above : (r : Ordering) (m n : ℕ) → MatchOrdering r (m < n) (m ≡ n) (n < m) → is_gt r ≡ ltb n m
above Less m n h = sym (false_from_ne_true (ltb n m) (λ t. absurd (omega (arith, h, ltb-true n m t))))
above Equal m n h = sym (false_from_ne_true (ltb n m) (λ t. absurd (omega (arith, h, ltb-true n m t))))
above Greater m n h = sym (lt-ltb n m h)

-- above by the order, and by the test
pub is_above : (m n : ℕ) → is_gt (nat_cmp m n) ≡ ltb n m
is_above m n = above (nat_cmp m n) m n (ranked m n (nat_cmp m n) refl)
