-- Numbers as bytes, and the bytes of elements: how many there are, and that they are bytes.
use Rattle.std.proofs.Common.{◌≡◌, ℕ, zero, suc, ◌+◌, ◌*◌, ◌/◌, ◌%◌, ◌^◌, ◌<◌, ◌≤◌, Bool, true, false, not, ◌&&◌, ◌||◌, cond, eqb, ltb, leb, List, [], ◌∷◌, ◌++◌, length, take, pos, refl, sym, ap, ◌∙◌, inl, inr, arith, length-append}
use Rattle.std.specs.Int.{byte_at, bytes_high_first}
use Rattle.std.proofs.lemmas.Bool.{cases_lt, lt-ltb, le-ltb, ltb-true}
use Rattle.std.proofs.lemmas.Bool.Decides.{nat_tests}
use Rattle.std.proofs.lemmas.List.{take_all, take-append-le}
use Rattle.std.proofs.Math.Nat.{pow-suc, div-one, div-div-eq-div-mul}
use Rattle.der_lite.specs.Der.{IsBytes, number, base_256, length_bytes, tlv, is_integer}
use Rattle.der_lite.specs.Grammar.{KeepsRules}
use Rattle.der_lite.specs.Values.{is_negative, integer_between, unsigned_bytes}
use Rattle.der_lite.proofs.Integers.{number_more, value_is}

-- ---- lists of bytes

pub bytes_append : (xs ys : List ℕ) → IsBytes xs → IsBytes ys → IsBytes (xs ++ ys)
bytes_append [] ys hx hy i = hy i
bytes_append (x ∷ xs) ys hx hy zero = hx zero
bytes_append (x ∷ xs) ys hx hy (suc i) = bytes_append xs ys (λ j. hx (suc j)) hy i

pub bytes_cons : (x : ℕ) (xs : List ℕ) → x < 256 → IsBytes xs → IsBytes (x ∷ xs)
bytes_cons x xs h hs zero = h
bytes_cons x xs h hs (suc i) = hs i

pub no_bytes : IsBytes []
no_bytes i = omega arith

-- ---- a number in a count of bytes

pub base_length : (count n : ℕ) → length (base_256 count n) ≡ count
base_length zero n = refl
base_length (suc count) n = omega (arith, length-append (base_256 count (n / 256)) (n % 256 ∷ []), base_length count (n / 256))

pub base_bytes : (count n : ℕ) → IsBytes (base_256 count n)
base_bytes zero n = no_bytes
base_bytes (suc count) n = bytes_append (base_256 count (n / 256)) (n % 256 ∷ []) (base_bytes count (n / 256)) (bytes_cons (n % 256) [] (omega arith) no_bytes)

-- they spell the number, if there are enough
pub base_number : (count n : ℕ) → n < 256 ^ count → number (base_256 count n) ≡ n
base_number zero n h = omega (arith, h)
base_number (suc count) n h =
    let high : n / 256 < 256 ^ count = omega (arith, h, pow-suc 256 count) in
    number_more (base_256 count (n / 256)) (n % 256) ∙ omega (arith, base_number count (n / 256) high)

-- a quotient by one power more
div_more : (n count : ℕ) → n / 256 / 256 ^ count ≡ n / 256 ^ suc count
div_more n count =
    let power : 256 * 256 ^ count ≡ 256 ^ suc count = omega (arith, pow-suc 256 count) in
    div-div-eq-div-mul n 256 (256 ^ count) ∙ ap (λ (k : ℕ). n / k) power

-- the first of them are those of a quotient
pub base_take : (count more n : ℕ) → take count (base_256 (count + more) n) ≡ base_256 count (n / 256 ^ more)
base_take count zero n =
    let total : count + 0 ≡ count = omega arith in
    ap (λ (k : ℕ). take count (base_256 k n)) total ∙ take_all count (base_256 count n) (omega (arith, base_length count n)) ∙ ap (base_256 count) (sym (div-one n))
base_take count (suc more) n =
    let total : count + suc more ≡ suc (count + more) = omega arith in
    ap (λ (k : ℕ). take count (base_256 k n)) total
    ∙ take-append-le count (base_256 (count + more) (n / 256)) (n % 256 ∷ []) (omega (arith, base_length (count + more) (n / 256)))
    ∙ base_take count more (n / 256) ∙ ap (base_256 count) (div_more n more)

-- the highest byte, and the others
base_first : (count n : ℕ) → base_256 (suc count) n ≡ n / 256 ^ count % 256 ∷ base_256 count n
base_first zero n = ap (λ (k : ℕ). k % 256 ∷ []) (sym (div-one n))
base_first (suc count) n =
    ap (λ (l : List ℕ). l ++ n % 256 ∷ []) (base_first count (n / 256)) ∙ ap (λ (k : ℕ). k % 256 ∷ base_256 (suc count) n) (div_more n count)

byte_is : (i n : ℕ) → byte_at i n ≡ n / 256 ^ i % 256
byte_is zero n = ap (λ (k : ℕ). k % 256) (sym (div-one n))
byte_is (suc i) n = refl

-- they are those of the machine's number
pub base_high_first : (count n : ℕ) → bytes_high_first count n ≡ base_256 count n
base_high_first zero n = refl
base_high_first (suc count) n =
    ap (λ (l : List ℕ). byte_at count n ∷ l) (base_high_first count n) ∙ ap (λ (k : ℕ). k ∷ base_256 count n) (byte_is count n) ∙ sym (base_first count n)

-- ---- integers that are not negative

-- the content is in the fewest bytes, and not negative, and it is that of the number
pub record IsUnsigned (n : ℕ) (content : List ℕ) : Type 0 where
  pub fewest : is_integer content ≡ true
  pub positive : is_negative content ≡ false
  pub value : number content ≡ n

-- what holds of both branches
both_hold : (P : List ℕ → Type 0) (test : Bool) (xs ys : List ℕ) → (test ≡ true → P xs) → P ys → P (cond test xs ys)
both_hold P true xs ys h k = h refl
both_hold P false xs ys h k = k

-- at most five bytes are the content of a number below 2^32
pub unsigned_few : (n : ℕ) → length (unsigned_bytes n) ≤ 5
unfolding unsigned_bytes
unsigned_few n =
    let Few : List ℕ → Type 0 = λ l. length l ≤ 5 in
    both_hold Few (ltb n 128) _ _ (λ _. omega arith)
    (both_hold Few (ltb n 32768) _ _ (λ _. omega arith) (both_hold Few (ltb n 8388608) _ _ (λ _. omega arith) (both_hold Few (ltb n 2147483648) _ _ (λ _. omega arith) (omega arith))))

pub unsigned_are : (n : ℕ) → IsBytes (unsigned_bytes n)
unfolding unsigned_bytes
unsigned_are n =
    both_hold IsBytes (ltb n 128) _ _ (λ _. base_bytes 1 n)
    (both_hold IsBytes (ltb n 32768) _ _ (λ _. base_bytes 2 n) (both_hold IsBytes (ltb n 8388608) _ _ (λ _. base_bytes 3 n) (both_hold IsBytes (ltb n 2147483648) _ _ (λ _. base_bytes 4 n) (base_bytes 5 n))))

-- the first two bytes of an integer in the fewest
fewest_by : (first second : ℕ) → first < 128 → (first ≡ 0 → 128 ≤ second) → (not (eqb first 0 && ltb second 128) && not (eqb first 255 && leb 128 second)) ≡ true
fewest_by first second h least = grind (arith, nat_tests)

-- a first byte below 128 is no sign
no_sign : (first : ℕ) → first < 128 → leb 128 first ≡ false
no_sign first h = grind (arith, nat_tests)

pub unsigned_is : (n : ℕ) → n < 2 ^ 32 → IsUnsigned n (unsigned_bytes n)
unfolding unsigned_bytes
unsigned_is n h =
    elim (cases_lt n 128) [
      | inl a ↦ rw (lt-ltb n 128 a) record { fewest = refl; positive = no_sign (n % 256) (omega arith); value = base_number 1 n (omega arith) }
      | inr a ↦ elim (cases_lt n 32768) [
        | inl b ↦ rw (le-ltb n 128 a, lt-ltb n 32768 b) record {
          fewest = fewest_by (n / 256 % 256) (n % 256) (omega arith) (λ e. omega arith);
          positive = no_sign (n / 256 % 256) (omega arith);
          value = base_number 2 n (omega arith);
        }
        | inr b ↦ elim (cases_lt n 8388608) [
          | inl c ↦ rw (le-ltb n 128 a, le-ltb n 32768 b, lt-ltb n 8388608 c) record {
            fewest = fewest_by (n / 256 / 256 % 256) (n / 256 % 256) (omega arith) (λ e. omega arith);
            positive = no_sign (n / 256 / 256 % 256) (omega arith);
            value = base_number 3 n (omega arith);
          }
          | inr c ↦ elim (cases_lt n 2147483648) [
            | inl d ↦ rw (le-ltb n 128 a, le-ltb n 32768 b, le-ltb n 8388608 c, lt-ltb n 2147483648 d) record {
              fewest = fewest_by (n / 256 / 256 / 256 % 256) (n / 256 / 256 % 256) (omega arith) (λ e. omega arith);
              positive = no_sign (n / 256 / 256 / 256 % 256) (omega arith);
              value = base_number 4 n (omega arith);
            }
            | inr d ↦ rw (le-ltb n 128 a, le-ltb n 32768 b, le-ltb n 8388608 c, le-ltb n 2147483648 d) record {
              fewest = fewest_by (n / 256 / 256 / 256 / 256 % 256) (n / 256 / 256 / 256 % 256) (omega arith) (λ e. omega arith);
              positive = no_sign (n / 256 / 256 / 256 / 256 % 256) (omega arith);
              value = base_number 5 n (omega arith);
            }
          ]
        ]
      ]
    ]

-- two rules that are kept
kept_both : (fault : ℕ) (a b c d : Bool) → a ≡ true → b ≡ false → c ≡ false → d ≡ false → KeepsRules ((4, not a) ∷ (fault, b || c || d) ∷ [])
kept_both fault a b c d ha hb hc hd = rw (ha, hb, hc, hd) refl

-- an integer between its bounds is spelled by its bytes
pub unsigned_spells : (least most fault n : ℕ) → least ≤ n → n ≤ most → n < 2 ^ 32 → (integer_between least most fault).Spells n (unsigned_bytes n)
unsigned_spells least most fault n low high h =
    let content = unsigned_bytes n in
    let u = unsigned_is n h in (
      record { value = value_is content u.positive ∙ ap (λ (k : ℕ). pos k) u.value; fewest = u.fewest },
      kept_both fault (is_integer content) (is_negative content) (ltb (number content) least) (ltb most (number content)) u.fewest u.positive
          (ap (λ (k : ℕ). ltb k least) u.value ∙ le-ltb n least low) (ap (λ (k : ℕ). ltb most k) u.value ∙ le-ltb most n high),
    )

-- ---- elements

length_few : (n : ℕ) → length (length_bytes n) ≤ 5
unfolding length_bytes
length_few n =
    let Few : List ℕ → Type 0 = λ l. length l ≤ 5 in
    both_hold Few (ltb n 128) _ _ (λ _. omega arith)
    (both_hold Few (ltb n 256) _ _ (λ _. omega arith) (both_hold Few (ltb n 65536) _ _ (λ _. omega arith) (both_hold Few (ltb n 16777216) _ _ (λ _. omega arith) (omega arith))))

length_are : (n : ℕ) → IsBytes (length_bytes n)
unfolding length_bytes
length_are n =
    both_hold IsBytes (ltb n 128) _ _ (λ h. bytes_cons n [] (omega (arith, ltb-true n 128 h)) no_bytes)
    (both_hold IsBytes (ltb n 256) _ _ (λ _. bytes_cons 129 (base_256 1 n) (omega arith) (base_bytes 1 n))
    (both_hold IsBytes (ltb n 65536) _ _ (λ _. bytes_cons 130 (base_256 2 n) (omega arith) (base_bytes 2 n))
    (both_hold IsBytes (ltb n 16777216) _ _ (λ _. bytes_cons 131 (base_256 3 n) (omega arith) (base_bytes 3 n)) (bytes_cons 132 (base_256 4 n) (omega arith) (base_bytes 4 n)))))

-- an element has six bytes more than its content at most
pub tlv_length : (tag : ℕ) (content : List ℕ) → length (tlv tag content) ≤ 6 + length content
tlv_length tag content = omega (arith, length-append (length_bytes (length content)) content, length_few (length content))

pub tlv_bytes : (tag : ℕ) (content : List ℕ) → tag < 256 → IsBytes content → IsBytes (tlv tag content)
tlv_bytes tag content h are = bytes_cons tag (length_bytes (length content) ++ content) h (bytes_append (length_bytes (length content)) content (length_are (length content)) are)
