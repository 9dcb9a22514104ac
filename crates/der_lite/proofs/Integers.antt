-- Integers that are not negative: a content has one number, and a number one content.
use Rattle.std.proofs.Common.{◌≡◌, ◌≢◌, ℕ, zero, suc, ◌+◌, ◌*◌, ◌/◌, ◌^◌, ◌<◌, ◌≤◌, Bool, true, false, not, ◌&&◌, ◌||◌, cond, eqb, ltb, leb, List, [], ◌∷◌, ◌++◌, length, get_or, take, drop, pos, Option, Some, None, refl, sym, ap, subst, ◌∙◌, inl, inr, arith, length-append}
use Rattle.std.proofs.lemmas.Bool.{not-false, or_parts, or_right, leb-false, ltb-false, lt-ltb, cases_lt, cond-true}
use Rattle.std.proofs.lemmas.Bool.Decides.{nat_tests}
use Rattle.std.proofs.lemmas.Nat.{div-mul-add}
use Rattle.std.proofs.lemmas.List.{length-take-le, take-append-drop}
use Rattle.std.proofs.Math.Seq.{take-suc}
use Rattle.std.proofs.Math.Nat.{pow-suc, pow-le-pow_right, mul-le-mul_right}
use Rattle.der_lite.specs.Der.{IsBytes, number, twos_complement, is_integer, IntSpells}
use Rattle.der_lite.specs.Grammar.{KeepsRules}
use Rattle.der_lite.specs.Decoding.{read_primitive}
use Rattle.der_lite.specs.Values.{is_negative, between_rules, integer_between}
pub use Rattle.der_lite.proofs.Lengths.{number_bound}
use Rattle.der_lite.proofs.Rules.{kept_first}
use Rattle.der_lite.proofs.Exact.{ExactContent, exact_primitive}
use Rattle.der_lite.proofs.Once.{Once, front_bytes, once_primitive}

-- an integer that is not negative
pub value_is : (content : List ℕ) → is_negative content ≡ false → twos_complement content ≡ pos (number content)
value_is content h = rw (lt-ltb (get_or content 0 0) 128 (leb-false 128 (get_or content 0 0) h)) refl

pub pos_is : (m n : ℕ) → pos m ≡ pos n → m ≡ n
pos_is m n e = cc

module _ (least most fault : ℕ) where
  pub between_kept : (content : List ℕ) → KeepsRules (between_rules least most fault content) → (is_integer content ≡ true) × (is_negative content ≡ false) × (least ≤ number content) × (number content ≤ most)
  between_kept content h =
      let out : Bool = is_negative content || ltb (number content) least || ltb most (number content) in
      let k = kept_first 4 (not (is_integer content)) ((fault, out) ∷ []) h in
      let o = or_parts (is_negative content || ltb (number content) least) (ltb most (number content)) (kept_first fault out [] k.1).0 in
      let n = or_parts (is_negative content) (ltb (number content) least) o.0 in
      (not-false (is_integer content) k.0, n.0, ltb-false (number content) least n.1, ltb-false most (number content) o.1)

  pub exact_between : ExactContent (integer_between least most fault) (read_primitive (between_rules least most fault) number)
  exact_between = exact_primitive (λ n content. IntSpells (pos n) content) (between_rules least most fault) number
      (λ content bytes kept. let k = between_kept content kept in record { value = value_is content k.1; fewest = k.0 })
      (λ content n kept s. let k = between_kept content kept in pos_is (number content) n (sym (value_is content k.1) ∙ s.value))

-- ---- a number has one content

digits_one : (xs ys : List ℕ) → length xs ≡ length ys → IsBytes xs → IsBytes ys → number xs ≡ number ys → xs ≡ ys
digits_one [] [] l hx hy e = refl
digits_one [] (y ∷ ys) l hx hy e = absurd (omega (arith, l))
digits_one (x ∷ xs) [] l hx hy e = absurd (omega (arith, l))
digits_one (x ∷ xs) (y ∷ ys) l hx hy e =
    let tails : length xs ≡ length ys = omega (arith, l) in
    let w = 256 ^ length xs in
    let by : number ys < w = subst (λ (n : ℕ). number ys < 256 ^ n) (sym tails) (number_bound ys (λ i. hy (suc i))) in
    let e2 : x * w + number xs ≡ y * w + number ys = e ∙ ap (λ (n : ℕ). y * 256 ^ n + number ys) (sym tails) in
    let same : x ≡ y = sym (div-mul-add x w (number xs) (number_bound xs (λ i. hx (suc i)))) ∙ ap (λ (n : ℕ). n / w) e2 ∙ div-mul-add y w (number ys) by in
    let rest : number xs ≡ number ys = let p : x * w ≡ y * w = ap (λ (n : ℕ). n * w) same in omega (arith, e2, p) in
    ap (λ (n : ℕ). n ∷ xs) same ∙ ap (λ (t : List ℕ). y ∷ t) (digits_one xs ys tails (λ i. hx (suc i)) (λ i. hy (suc i)) rest)

small : (x : ℕ) (xs : List ℕ) → x < 128 → IsBytes xs → number (x ∷ xs) < 128 * 256 ^ length xs
small x xs h b =
    let most : x * 256 ^ length xs ≤ 127 * 256 ^ length xs = mul-le-mul_right (256 ^ length xs) (omega (arith, h)) in
    omega (arith, most, number_bound xs b)

not_both : (p q r : Bool) → (not (p && q) && r) ≡ true → p ≡ true → q ≡ false
not_both true true r h e = absurd cc
not_both true false r h e = refl
not_both false q r h e = absurd cc

large : (f s : ℕ) (more : List ℕ) → is_integer (f ∷ s ∷ more) ≡ true → 128 * 256 ^ length more ≤ number (f ∷ s ∷ more)
large zero s more h =
    let high : 128 ≤ s = ltb-false s 128 (not_both (eqb 0 0) (ltb s 128) (not (eqb 0 255 && leb 128 s)) h refl) in
    let least : 128 * 256 ^ length more ≤ s * 256 ^ length more = mul-le-mul_right (256 ^ length more) high in
    omega (arith, least)
large (suc f) s more h =
    let least : 1 * 256 ^ suc (length more) ≤ suc f * 256 ^ suc (length more) = mul-le-mul_right (256 ^ suc (length more)) (omega arith) in
    omega (arith, least, pow-suc 256 (length more))

not_longer : (a b : List ℕ) → IsBytes a → is_integer a ≡ true → is_negative a ≡ false → is_integer b ≡ true → number a ≡ number b → length a < length b → ⊥
not_longer [] b ba ia na ib e l = absurd cc
not_longer (x ∷ xs) [] ba ia na ib e l = omega (arith, l)
not_longer (x ∷ xs) (f ∷ []) ba ia na ib e l = omega (arith, l)
not_longer (x ∷ xs) (f ∷ s ∷ more) ba ia na ib e l =
    let up : 256 ^ length xs ≤ 256 ^ length more = pow-le-pow_right (omega arith) (omega (arith, l)) in
    omega (arith, up, small x xs (leb-false 128 x na) (λ i. ba (suc i)), large f s more ib, e)

pub once_between : (least most fault : ℕ) → Once (integer_between least most fault).Spells
once_between least most fault = once_primitive (λ n content. IntSpells (pos n) content) (between_rules least most fault) (λ n a b ba bb ka kb s t.
    let p = between_kept least most fault a ka in
    let q = between_kept least most fault b kb in
    let e : number a ≡ number b = pos_is (number a) (number b) (sym (value_is a p.1) ∙ s.value ∙ sym t.value ∙ value_is b q.1) in
    let same : length a ≡ length b =
    elim (cases_lt (length a) (length b)) [
      | inl less ↦ absurd (not_longer a b ba p.0 p.1 q.0 e less)
      | inr other ↦ elim (cases_lt (length b) (length a)) [
        | inl less ↦ absurd (not_longer b a bb q.0 q.1 p.0 (sym e) less)
        | inr equal ↦ omega (arith, other, equal)
      ]
    ] in
    digits_one a b same ba bb e)

-- a longer number
wide : (digits : List ℕ) → 4 ≤ length digits → 4294967296 ≤ 256 ^ length digits
wide digits h = pow-le-pow_right {n = 256} (omega arith) h

second_is_high : (d n : ℕ) → (not (true && ltb d 128) && true) ≡ true → 128 ≤ d
second_is_high d n h = grind (arith, nat_tests)

pub is_large : (first : ℕ) (digits : List ℕ) → is_integer (first ∷ digits) ≡ true → 4 ≤ length digits → (first ≡ 0 → length digits ≢ 4) → 4294967295 < number (first ∷ digits)
is_large zero [] f h n = absurd (omega arith)
is_large zero (d ∷ more) f h n =
    let long : 4 ≤ length more = omega (arith, n refl) in
    let big = wide more long in
    let high : 128 ≤ d = second_is_high d (length more) f in
    omega (arith, big, mul-le-mul_right (256 ^ length more) high)
is_large (suc k) digits f h n =
    let big = wide digits h in
    let one : 1 ≤ suc k = omega arith in
    omega (arith, big, mul-le-mul_right (256 ^ length digits) one)

abbrev nothing : Option ℕ
nothing = None

pub too_large : (content : List ℕ) → is_integer content ≡ true → 4 < length content → (get_or content 0 0 ≡ 0 → length content ≢ 5)
    → cond (is_negative content || ltb 4294967295 (number content)) None (Some (number content)) ≡ nothing
too_large [] f h n = absurd (omega arith)
too_large (first ∷ digits) f h n =
    let large = is_large first digits f (omega arith) (λ z l. absurd (n z (omega arith))) in
    cond-true (is_negative (first ∷ digits) || ltb 4294967295 (number (first ∷ digits))) None (Some (number (first ∷ digits)))
    (or_right (is_negative (first ∷ digits)) (ltb 4294967295 (number (first ∷ digits))) (lt-ltb 4294967295 (number (first ∷ digits)) large))

-- ---- a number byte by byte

-- one byte more
pub number_more : (bytes : List ℕ) (byte : ℕ) → number (bytes ++ byte ∷ []) ≡ number bytes * 256 + byte
number_more [] byte = omega arith
number_more (first ∷ bytes) byte =
    let count : length (bytes ++ byte ∷ []) ≡ suc (length bytes) = omega (arith, length-append bytes (byte ∷ [])) in
    let power : first * 256 ^ suc (length bytes) ≡ first * (256 * 256 ^ length bytes) = ap (λ (n : ℕ). first * n) (omega (arith, pow-suc 256 (length bytes))) in
    ap (λ (n : ℕ). first * 256 ^ n + number (bytes ++ byte ∷ [])) count ∙ omega (arith, power, number_more bytes byte)

-- one byte more of those in front
pub number_next : (bytes : List ℕ) (i : ℕ) → i < length bytes → number (take (i + 1) bytes) ≡ number (take i bytes) * 256 + get_or bytes i 0
number_next bytes i h =
    let next : i + 1 ≡ suc i = omega arith in
    ap (λ (n : ℕ). number (take n bytes)) next ∙ ap number (take-suc bytes i 0 h) ∙ number_more (take i bytes) (get_or bytes i 0)

-- those in front are below this many powers
pub number_front : (bytes : List ℕ) (i : ℕ) → IsBytes bytes → i ≤ length bytes → number (take i bytes) < 256 ^ i
number_front bytes i h short =
    subst (λ (n : ℕ). number (take i bytes) < 256 ^ n) (length-take-le i bytes short)
    (number_bound (take i bytes) (front_bytes (take i bytes) (drop i bytes) (subst IsBytes (sym (take-append-drop i bytes)) h)))

-- and below the power of any greater count
pub number_within : (bytes : List ℕ) (i most : ℕ) → IsBytes bytes → i ≤ length bytes → i ≤ most → number (take i bytes) < 256 ^ most
number_within bytes i most h short le =
    let power : 256 ^ i ≤ 256 ^ most = pow-le-pow_right {n = 256} (omega arith) le in
    omega (arith, number_front bytes i h short, power)
