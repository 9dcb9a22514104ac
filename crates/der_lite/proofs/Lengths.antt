-- A length in the fewest bytes is determined by its bytes, and no other bytes spell it.
use Rattle.std.proofs.Common.{◌≡◌, ℕ, zero, suc, ◌+◌, ◌*◌, ◌/◌, ◌%◌, ◌^◌, ◌<◌, ◌≤◌, true, ◌&&◌, Bool, ltb, leb, List, [], ◌∷◌, length, get_or, drop, refl, sym, ap, subst, ◌∙◌, arith, inl, inr}
use Rattle.std.proofs.lemmas.Bool.{cases_lt, lt-ltb, le-ltb, and_parts, and_from, ltb-true, leb-true, le-leb}
use Rattle.std.proofs.lemmas.Bool.Decides.{nat_tests}
use Rattle.std.proofs.lemmas.Slice.Eq.{bytes_eq-Decides}
use Rattle.std.specs.Cmp.{both_ways}
use Rattle.std.proofs.Math.Nat.{pow-suc, pow-le-pow_right, mul-le-mul_right}
use Rattle.der_lite.specs.Der.{IsBytes, number, base_256, length_bytes, announced, told_length, is_length}

-- the bytes of a length below 128
length_bytes-0 : (n : ℕ) → n < 128 → length_bytes n ≡ n ∷ []
unfolding length_bytes
length_bytes-0 n h = rw (lt-ltb n 128 h) refl

-- of one below 256
length_bytes-1 : (n : ℕ) → 128 ≤ n → n < 256 → length_bytes n ≡ 129 ∷ base_256 1 n
unfolding length_bytes
length_bytes-1 n l h = rw (le-ltb n 128 l, lt-ltb n 256 h) refl

-- of one below 65536
length_bytes-2 : (n : ℕ) → 256 ≤ n → n < 65536 → length_bytes n ≡ 130 ∷ base_256 2 n
unfolding length_bytes
length_bytes-2 n l h = rw (le-ltb n 128 (omega arith), le-ltb n 256 l, lt-ltb n 65536 h) refl

-- of one below 16777216
length_bytes-3 : (n : ℕ) → 65536 ≤ n → n < 16777216 → length_bytes n ≡ 131 ∷ base_256 3 n
unfolding length_bytes
length_bytes-3 n l h = rw (le-ltb n 128 (omega arith), le-ltb n 256 (omega arith), le-ltb n 65536 l, lt-ltb n 16777216 h) refl

-- of a longer one
length_bytes-4 : (n : ℕ) → 16777216 ≤ n → length_bytes n ≡ 132 ∷ base_256 4 n
unfolding length_bytes
length_bytes-4 n l = rw (le-ltb n 128 (omega arith), le-ltb n 256 (omega arith), le-ltb n 65536 (omega arith), le-ltb n 16777216 l) refl

-- The test that the code makes: one byte below 128, or behind the first no zero byte first, and 128 at least.
abbrev pub is_fewest : ℕ → List ℕ → Bool
is_fewest first [] = ltb first 128
is_fewest first (highest ∷ more) = ltb 0 highest && leb 128 (number (highest ∷ more))

-- what the bytes of a length spell
pub record Tells (n : ℕ) (first : ℕ) (more : List ℕ) : Type 0 where
  pub spelled : length_bytes n ≡ first ∷ more
  pub counted : announced first ≡ length more
  pub told : told_length (first ∷ more) ≡ n
  pub fewest : is_fewest first more ≡ true

-- the test of the fewest bytes, from its two parts
fewest_from : (a n : ℕ) → 0 < a → 128 ≤ n → (ltb 0 a && leb 128 n) ≡ true
fewest_from a n h k = and_from _ _ (lt-ltb 0 a h) (le-leb 128 n k)

-- the bytes of a length spell it
pub length_tells : (n : ℕ) → n < 2 ^ 32 → (first : ℕ) × (more : List ℕ) × Tells n first more
length_tells n h =
    elim (cases_lt n 128) [
      | inl a ↦ (n, [], record { spelled = length_bytes-0 n a; counted = grind (arith, nat_tests); told = rw (lt-ltb n 128 a) refl; fewest = lt-ltb n 128 a })
      | inr a ↦ elim (cases_lt n 256) [
        | inl b ↦ (129, base_256 1 n, record { spelled = length_bytes-1 n a b; counted = refl; told = omega arith; fewest = fewest_from (n % 256) (number (base_256 1 n)) (omega arith) (omega arith) })
        | inr b ↦ elim (cases_lt n 65536) [
          | inl c ↦ (130, base_256 2 n, record { spelled = length_bytes-2 n b c; counted = refl; told = omega arith; fewest = fewest_from (n / 256 % 256) (number (base_256 2 n)) (omega arith) (omega arith) })
          | inr c ↦ elim (cases_lt n 16777216) [
            | inl d ↦ (131, base_256 3 n, record { spelled = length_bytes-3 n c d; counted = refl; told = omega arith; fewest = fewest_from (n / 256 / 256 % 256) (number (base_256 3 n)) (omega arith) (omega arith) })
            | inr d ↦ (132, base_256 4 n, record { spelled = length_bytes-4 n d; counted = refl; told = omega arith; fewest = fewest_from (n / 256 / 256 / 256 % 256) (number (base_256 4 n)) (omega arith) (omega arith) })
          ]
        ]
      ]
    ]

-- a first length byte that announces some bytes
announced_is : (first k : ℕ) → announced first ≡ k → 0 < k → (first ≡ 128 + k) × (k < 5)
announced_is first k h p = grind (arith, nat_tests)

-- the two parts of the test of the fewest bytes
fewest_parts : (a n : ℕ) → (ltb 0 a && leb 128 n) ≡ true → (0 < a) × (128 ≤ n)
fewest_parts a n h = let p = and_parts (ltb 0 a) (leb 128 n) h in (ltb-true 0 a p.0, leb-true 128 n p.1)

-- one byte spells its number
spells_1 : (n a : ℕ) → n ≡ a → 128 ≤ n → a < 256 → length_bytes n ≡ 129 ∷ a ∷ []
spells_1 n a e l h =
    let x : n % 256 ≡ a = omega arith in
    length_bytes-1 n l (omega arith) ∙ rw x refl

-- two bytes do
spells_2 : (n a b : ℕ) → n ≡ a * 256 + b → 0 < a → a < 256 → b < 256 → length_bytes n ≡ 130 ∷ a ∷ b ∷ []
spells_2 n a b e l ha hb =
    let x : n / 256 % 256 ≡ a = omega arith in
    let y : n % 256 ≡ b = omega arith in
    length_bytes-2 n (omega arith) (omega arith) ∙ rw (x, y) refl

-- three bytes do
spells_3 : (n a b c : ℕ) → n ≡ a * 65536 + b * 256 + c → 0 < a → a < 256 → b < 256 → c < 256 → length_bytes n ≡ 131 ∷ a ∷ b ∷ c ∷ []
spells_3 n a b c e l ha hb hc =
    let x : n / 256 / 256 % 256 ≡ a = omega arith in
    let y : n / 256 % 256 ≡ b = omega arith in
    let z : n % 256 ≡ c = omega arith in
    length_bytes-3 n (omega arith) (omega arith) ∙ rw (x, y, z) refl

-- four bytes do
spells_4 : (n a b c d : ℕ) → n ≡ a * 16777216 + b * 65536 + c * 256 + d → 0 < a → a < 256 → b < 256 → c < 256 → d < 256 → length_bytes n ≡ 132 ∷ a ∷ b ∷ c ∷ d ∷ []
spells_4 n a b c d e l ha hb hc hd =
    let w : n / 256 / 256 / 256 % 256 ≡ a = omega arith in
    let x : n / 256 / 256 % 256 ≡ b = omega arith in
    let y : n / 256 % 256 ≡ c = omega arith in
    let z : n % 256 ≡ d = omega arith in
    length_bytes-4 n (omega arith) ∙ rw (w, x, y, z) refl

-- these bytes are the one spelling of their number
abbrev Spelled : ℕ → List ℕ → Type 0
Spelled first more = (length_bytes (told_length (first ∷ more)) ≡ first ∷ more) × (told_length (first ∷ more) < 2 ^ 32)

-- so they are if they are in the fewest bytes
abbrev IsSpelled : List ℕ → ℕ → Type 0
IsSpelled more first = is_fewest first more ≡ true → Spelled first more

-- four bytes or fewer that a first one announces
fewest_spells : (first : ℕ) (more : List ℕ) → IsBytes more → announced first ≡ length more → is_fewest first more ≡ true → (length_bytes (told_length (first ∷ more)) ≡ first ∷ more) × (told_length (first ∷ more) < 2 ^ 32)
fewest_spells first [] bytes counted fewest =
    let h = ltb-true first 128 fewest in
    let e : told_length (first ∷ []) ≡ first = rw (lt-ltb first 128 h) refl in
    (ap length_bytes e ∙ length_bytes-0 first h, rw e (omega arith))
fewest_spells first (a ∷ []) bytes counted fewest =
    let e = announced_is first 1 counted (omega arith) in
    subst (IsSpelled (a ∷ [])) (sym e.0) (λ f. let p = fewest_parts a (number (a ∷ [])) f in
    (spells_1 (number (a ∷ [])) a (omega arith) p.1 (bytes 0), omega (arith, bytes 0))) fewest
fewest_spells first (a ∷ b ∷ []) bytes counted fewest =
    let e = announced_is first 2 counted (omega arith) in
    subst (IsSpelled (a ∷ b ∷ [])) (sym e.0) (λ f. let p = fewest_parts a (number (a ∷ b ∷ [])) f in
    (spells_2 (number (a ∷ b ∷ [])) a b (omega arith) p.0 (bytes 0) (bytes 1), omega (arith, bytes 0, bytes 1))) fewest
fewest_spells first (a ∷ b ∷ c ∷ []) bytes counted fewest =
    let e = announced_is first 3 counted (omega arith) in
    subst (IsSpelled (a ∷ b ∷ c ∷ [])) (sym e.0) (λ f. let p = fewest_parts a (number (a ∷ b ∷ c ∷ [])) f in
    (spells_3 (number (a ∷ b ∷ c ∷ [])) a b c (omega arith) p.0 (bytes 0) (bytes 1) (bytes 2), omega (arith, bytes 0, bytes 1, bytes 2))) fewest
fewest_spells first (a ∷ b ∷ c ∷ d ∷ []) bytes counted fewest =
    let e = announced_is first 4 counted (omega arith) in
    subst (IsSpelled (a ∷ b ∷ c ∷ d ∷ [])) (sym e.0) (λ f. let p = fewest_parts a (number (a ∷ b ∷ c ∷ d ∷ [])) f in
    (spells_4 (number (a ∷ b ∷ c ∷ d ∷ [])) a b c d (omega arith) p.0 (bytes 0) (bytes 1) (bytes 2) (bytes 3), omega (arith, bytes 0, bytes 1, bytes 2, bytes 3))) fewest
fewest_spells first (a ∷ b ∷ c ∷ d ∷ e ∷ more) bytes counted fewest =
    let k = announced_is first (length (a ∷ b ∷ c ∷ d ∷ e ∷ more)) counted (omega arith) in absurd (omega (arith, k.1))

-- ---- the one spelling of a length

-- the bytes of a length are the spelling of their number
pub length_spells : (n : ℕ) (first : ℕ) (more : List ℕ) → Tells n first more → is_length (first ∷ more) ≡ true
length_spells n first more t = (bytes_eq-Decides (first ∷ more) (length_bytes (told_length (first ∷ more)))).1 (sym t.spelled ∙ ap length_bytes (sym t.told))

-- bytes spell a number below a power of 256
pub number_bound : (xs : List ℕ) → IsBytes xs → number xs < 256 ^ length xs
number_bound [] h = omega arith
number_bound (x ∷ xs) h =
    let most : x * 256 ^ length xs ≤ 255 * 256 ^ length xs = mul-le-mul_right (256 ^ length xs) (omega (arith, h zero)) in
    omega (arith, most, number_bound xs (λ i. h (suc i)), pow-suc 256 (length xs))

-- what at most four bytes spell is below 2^32
told_short : (first : ℕ) (more : List ℕ) → IsBytes more → announced first ≡ length more → told_length (first ∷ more) < 2 ^ 32
told_short first more bytes counted =
    elim (cases_lt first 128) [
      | inl a ↦ rw (lt-ltb first 128 a) (omega arith)
      | inr a ↦
          let few : length more ≤ 4 = grind (arith, nat_tests) in
          let most : 256 ^ length more ≤ 256 ^ 4 = pow-le-pow_right {n = 256} (omega arith) few in
          rw (le-ltb first 128 a) (omega (arith, number_bound more bytes, most))
    ]

-- bytes that are the spelling of their number
pub told_spells : (first : ℕ) (more : List ℕ) → IsBytes more → announced first ≡ length more → is_length (first ∷ more) ≡ true
    → (length_bytes (told_length (first ∷ more)) ≡ first ∷ more) × (told_length (first ∷ more) < 2 ^ 32)
told_spells first more bytes counted h = (sym ((bytes_eq-Decides (first ∷ more) (length_bytes (told_length (first ∷ more)))).0 h), told_short first more bytes counted)

-- The test that the code makes is that one.
pub fewest_is : (first : ℕ) (more : List ℕ) → IsBytes more → announced first ≡ length more → is_fewest first more ≡ is_length (first ∷ more)
fewest_is first more bytes counted =
    both_ways (is_fewest first more) (is_length (first ∷ more))
    (λ h. (bytes_eq-Decides (first ∷ more) (length_bytes (told_length (first ∷ more)))).1 (sym (fewest_spells first more bytes counted h).0))
    (λ h.
    let told = told_spells first more bytes counted h in
    let t = length_tells (told_length (first ∷ more)) told.1 in
    let same : (t.0 ∷ t.1) ≡ (first ∷ more) = sym t.2.spelled ∙ told.0 in
    subst (λ (l : List ℕ). is_fewest (get_or l 0 0) (drop 1 l) ≡ true) same t.2.fewest)

-- it depends on the first byte alone if no other is announced
pub fewest_alone : (first : ℕ) (more : List ℕ) → IsBytes more → announced first ≡ length more → length more < 1 → ltb first 128 ≡ is_length (first ∷ more)
fewest_alone first [] bytes counted none = fewest_is first [] bytes counted
fewest_alone first (highest ∷ more) bytes counted none = absurd (omega arith)

-- on what the others spell, if their first is not zero
pub fewest_high : (first : ℕ) (more : List ℕ) → IsBytes more → announced first ≡ length more → 1 ≤ length more → 0 < get_or more 0 0 → leb 128 (number more) ≡ is_length (first ∷ more)
fewest_high first [] bytes counted some high = absurd (omega arith)
fewest_high first (highest ∷ more) bytes counted some high = ap (λ (b : Bool). b && leb 128 (number (highest ∷ more))) (sym (lt-ltb 0 highest high)) ∙ fewest_is first (highest ∷ more) bytes counted

-- and it fails if that is zero
pub fewest_low : (first : ℕ) (more : List ℕ) → IsBytes more → announced first ≡ length more → 1 ≤ length more → get_or more 0 0 ≤ 0 → ltb 0 (get_or more 0 0) ≡ is_length (first ∷ more)
fewest_low first [] bytes counted some low = absurd (omega arith)
fewest_low first (highest ∷ more) bytes counted some low =
    let no = le-ltb 0 highest low in
    no ∙ ap (λ (b : Bool). b && leb 128 (number (highest ∷ more))) (sym no) ∙ fewest_is first (highest ∷ more) bytes counted
