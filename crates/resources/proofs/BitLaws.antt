-- The bits of an address, and the range of addresses that begin with them.
use Rattle.std.proofs.Common.{◌≡◌, ℕ, zero, suc, ◌+◌, ◌-◌, ◌*◌, ◌/◌, ◌%◌, ◌^◌, ◌<◌, ◌≤◌, Bool, true, false, not, cond, eqb, ltb, List, [], ◌∷◌, length, get_or, drop, replicate, inl, inr, sym, ap, ◌∙◌, refl, arith, length-append}
use Rattle.std.proofs.lemmas.Bool.{cases_lt, lt-ltb, le-ltb}
use Rattle.std.proofs.lemmas.List.{length-replicate}
use Rattle.std.proofs.Math.Nat.{mul-div_cancel, mod-eq_of_lt, pow-le-pow_right, pow-suc}
use Rattle.std.proofs.Math.Pow.{suc_ones}
use Rattle.std.proofs.Math.Bool.{beq}
use Rattle.der_lite.specs.Der.{IsBytes, number, bits_of, is_bit_string, bit_count}
use Rattle.der_lite.specs.Values.{bits_value, bits_number}
use Rattle.der_lite.proofs.BitStrings.{filled, widened, bits_bound, bits_spelled, spelled_count, length-bits_of}
use Rattle.resources.specs.Resources.{ends_in}

-- there are as many bits as the content counts
pub bits_count : (content : List ℕ) → is_bit_string content ≡ true → length (bits_value content) ≡ bit_count content
bits_count content valid = spelled_count (bits_value content) content (bits_spelled content valid)

-- the bytes without the unused bits are the bits
pub first_bits : (unused : ℕ) (body : List ℕ) → is_bit_string (unused ∷ body) ≡ true → IsBytes body → number body / 2 ^ unused ≡ bits_number (bits_value (unused ∷ body)) (length (bits_value (unused ∷ body)))
first_bits unused body valid bytes =
    let bits : List Bool = bits_value (unused ∷ body) in
    ap (λ (n : ℕ). n / 2 ^ unused) (filled unused body valid bytes) ∙ mul-div_cancel (bits_number bits (length bits)) (omega (arith, suc_ones unused))

-- the bytes hold the bits, and the unused ones behind them
pub total : (unused : ℕ) (body : List ℕ) → is_bit_string (unused ∷ body) ≡ true → (8 * length body ≡ length (bits_value (unused ∷ body)) + unused) × (unused < 8)
total unused body valid =
    let bits : List Bool = bits_value (unused ∷ body) in
    let s = bits_spelled (unused ∷ body) valid in
    let body_is : s.body ≡ body = sym (ap (λ (l : List ℕ). drop 1 l) s.counted) in
    let unused_is : s.unused ≡ unused = sym (ap (λ (l : List ℕ). get_or l 0 0) s.counted) in
    let count : length (bits_of s.body) ≡ length bits + s.unused =
    ap (λ (l : List Bool). length l) s.padded ∙ length-append bits (replicate s.unused false) ∙ ap (λ (k : ℕ). length bits + k) (length-replicate s.unused false) in
    (omega (arith, count, length-bits_of s.body, ap (λ (l : List ℕ). length l) body_is, unused_is), omega (arith, s.few, unused_is))

-- more bits than this many need more bytes
pub longer_bytes : (unused : ℕ) (body : List ℕ) (width : ℕ) → is_bit_string (unused ∷ body) ≡ true → ltb ((width + unused) / 8) (length body) ≡ ltb width (length (bits_value (unused ∷ body)))
longer_bytes unused body width valid =
    let t = total unused body valid in
    let count : ℕ = length (bits_value (unused ∷ body)) in
    elim (cases_lt width count) [
      | inl h ↦ rw (lt-ltb width count h) (lt-ltb ((width + unused) / 8) (length body) (omega (arith, t.0, h)))
      | inr h ↦ rw (le-ltb width count h) (le-ltb ((width + unused) / 8) (length body) (omega (arith, t.0, h)))
    ]

-- ---- the last bit is the parity

pow_twice : (w : ℕ) → 2 ^ suc w ≡ 2 ^ w + 2 ^ w
pow_twice w = omega (arith, pow-suc 2 w)

bits_cons : (b : Bool) (bits : List Bool) (w : ℕ) → bits_number (b ∷ bits) (suc w) ≡ cond b (2 ^ w) 0 + bits_number bits w
bits_cons b bits w = let e : suc w - 1 ≡ w = omega arith in ap (λ (n : ℕ). cond b (2 ^ n) 0 + bits_number bits n) e

parity_after : (b : Bool) (c : Bool) (bits : List Bool) → bits_number (b ∷ c ∷ bits) (length (b ∷ c ∷ bits)) % 2 ≡ bits_number (c ∷ bits) (length (c ∷ bits)) % 2
parity_after true c bits = omega (arith, bits_cons true (c ∷ bits) (suc (length bits)), pow_twice (length bits))
parity_after false c bits = omega (arith, bits_cons false (c ∷ bits) (suc (length bits)))

pub ends : (bit : Bool) (first : Bool) (bits : List Bool) → ends_in bit (first ∷ bits) ≡ cond (eqb (bits_number (first ∷ bits) (length (first ∷ bits)) % 2) 1) bit (not bit)
ends true true [] = refl
ends true false [] = refl
ends false true [] = refl
ends false false [] = refl
ends bit first (second ∷ more) = ends bit second more ∙ ap (λ (n : ℕ). cond (eqb n 1) bit (not bit)) (sym (parity_after first second more))

tested : (x bit : Bool) → beq x bit ≡ cond x bit (not bit)
tested true true = refl
tested true false = refl
tested false true = refl
tested false false = refl

pub ends_is : (bit : Bool) (bits : List Bool) (n : ℕ) → 0 < length bits → n ≡ bits_number bits (length bits) → beq (eqb (n % 2) 1) bit ≡ ends_in bit bits
ends_is bit [] n some is = absurd (omega (arith, some))
ends_is bit (first ∷ more) n some is = tested (eqb (n % 2) 1) bit ∙ ap (λ (k : ℕ). cond (eqb (k % 2) 1) bit (not bit)) is ∙ sym (ends bit first more)

pub ends_not : (bit : Bool) (bits : List Bool) → length bits ≡ 0 → ends_in bit bits ≡ false
ends_not bit [] none = refl
ends_not bit (first ∷ more) none = absurd (omega (arith, none))

-- ---- the range

-- the bits, shifted into their place
pub shifted : (bits : List Bool) (width : ℕ) → length bits ≤ width → width ≤ 128 → bits_number bits (length bits) * 2 ^ (width - length bits) % 2 ^ 128 ≡ bits_number bits width
shifted bits width within narrow =
    let place : bits_number bits (length bits) * 2 ^ (width - length bits) ≡ bits_number bits width = sym (widened bits width within) in
    let power : 2 ^ width ≤ 2 ^ 128 = pow-le-pow_right {n = 2} (omega arith) narrow in
    ap (λ (k : ℕ). k % 2 ^ 128) place ∙ mod-eq_of_lt (omega (arith, bits_bound bits width within, power))

-- the last address is one of this width
pub whole : (bits : List Bool) (width : ℕ) → length bits ≤ width → bits_number bits width + 2 ^ (width - length bits) ≤ 2 ^ width
whole [] width h = let z : width - length {A = Bool} [] ≡ width = omega arith in omega (arith, ap (λ (k : ℕ). 2 ^ k) z)
whole (b ∷ bits) zero h = absurd (omega (arith, h))
whole (b ∷ bits) (suc w) h =
    let z : suc w - length (b ∷ bits) ≡ w - length bits = omega arith in
    omega (arith, bits_cons b bits w, bit_most b w, whole bits w (omega (arith, h)), pow_twice w, ap (λ (k : ℕ). 2 ^ k) z)
  where
    bit_most : (b : Bool) (w : ℕ) → cond b (2 ^ w) 0 ≤ 2 ^ w
    bit_most true w = omega arith
    bit_most false w = omega arith

-- no bits are 0
pub none : (bits : List Bool) (width : ℕ) → length bits ≡ 0 → bits_number bits width ≡ 0
none [] width h = refl
none (b ∷ bits) width h = absurd (omega (arith, h))
