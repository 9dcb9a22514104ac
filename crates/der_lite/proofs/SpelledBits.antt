-- The contents that spell bits are those that keep the rules of a bit string.
use Rattle.std.proofs.Common.{◌≡◌, ℕ, zero, suc, ◌+◌, ◌-◌, ◌*◌, ◌/◌, ◌%◌, ◌^◌, ◌<◌, Bool, true, false, eqb, List, [], ◌∷◌, ◌++◌, length, get_or, drop, replicate, sym, ap, ◌∙◌, arith, length-append, inl, inr}
use Rattle.std.proofs.Math.Seq.{drop-append-add, drop-append_seam}
use Rattle.std.proofs.lemmas.Bool.{cases_lt, eqb-false}
use Rattle.std.proofs.lemmas.Bool.Decides.{nat_tests}
use Rattle.std.proofs.lemmas.List.{append-nil, length-replicate}
use Rattle.der_lite.specs.Der.{BitsSpell, bits_of, bits_of_byte, is_bit_string}
use Rattle.der_lite.specs.Values.{bits_value}
use Rattle.der_lite.specs.DerLaws.{SpellsBits}
use Rattle.der_lite.proofs.BitStrings.{bits_spelled, length-bits_of, once_bits, taken}

bit_zero : (n : ℕ) → eqb (n % 2) 1 ≡ false → n % 2 ≡ 0
bit_zero n h = elim (cases_lt (n % 2) 1) [ inl low ↦ omega (arith, low) | inr high ↦ absurd (eqb-false (n % 2) 1 h (omega (arith, high))) ]

-- The lowest bits of a byte are zeros.
byte_zeros : (unused byte : ℕ) → unused < 8 → drop (8 - unused) (bits_of_byte byte) ≡ replicate unused false → byte % 2 ^ unused ≡ 0
byte_zeros zero byte h e = omega arith
byte_zeros (suc zero) byte h e =
    let z0 : byte % 2 ≡ 0 = bit_zero (byte) (ap (λ l. get_or l 0 true) e) in
    omega (arith, z0)
byte_zeros (suc (suc zero)) byte h e =
    let z0 : byte % 2 ≡ 0 = bit_zero (byte) (ap (λ l. get_or l 1 true) e) in
    let z1 : byte / 2 % 2 ≡ 0 = bit_zero (byte / 2) (ap (λ l. get_or l 0 true) e) in
    omega (arith, z0, z1)
byte_zeros (suc (suc (suc zero))) byte h e =
    let z0 : byte % 2 ≡ 0 = bit_zero (byte) (ap (λ l. get_or l 2 true) e) in
    let z1 : byte / 2 % 2 ≡ 0 = bit_zero (byte / 2) (ap (λ l. get_or l 1 true) e) in
    let z2 : byte / 4 % 2 ≡ 0 = bit_zero (byte / 4) (ap (λ l. get_or l 0 true) e) in
    omega (arith, z0, z1, z2)
byte_zeros (suc (suc (suc (suc zero)))) byte h e =
    let z0 : byte % 2 ≡ 0 = bit_zero (byte) (ap (λ l. get_or l 3 true) e) in
    let z1 : byte / 2 % 2 ≡ 0 = bit_zero (byte / 2) (ap (λ l. get_or l 2 true) e) in
    let z2 : byte / 4 % 2 ≡ 0 = bit_zero (byte / 4) (ap (λ l. get_or l 1 true) e) in
    let z3 : byte / 8 % 2 ≡ 0 = bit_zero (byte / 8) (ap (λ l. get_or l 0 true) e) in
    omega (arith, z0, z1, z2, z3)
byte_zeros (suc (suc (suc (suc (suc zero))))) byte h e =
    let z0 : byte % 2 ≡ 0 = bit_zero (byte) (ap (λ l. get_or l 4 true) e) in
    let z1 : byte / 2 % 2 ≡ 0 = bit_zero (byte / 2) (ap (λ l. get_or l 3 true) e) in
    let z2 : byte / 4 % 2 ≡ 0 = bit_zero (byte / 4) (ap (λ l. get_or l 2 true) e) in
    let z3 : byte / 8 % 2 ≡ 0 = bit_zero (byte / 8) (ap (λ l. get_or l 1 true) e) in
    let z4 : byte / 16 % 2 ≡ 0 = bit_zero (byte / 16) (ap (λ l. get_or l 0 true) e) in
    omega (arith, z0, z1, z2, z3, z4)
byte_zeros (suc (suc (suc (suc (suc (suc zero)))))) byte h e =
    let z0 : byte % 2 ≡ 0 = bit_zero (byte) (ap (λ l. get_or l 5 true) e) in
    let z1 : byte / 2 % 2 ≡ 0 = bit_zero (byte / 2) (ap (λ l. get_or l 4 true) e) in
    let z2 : byte / 4 % 2 ≡ 0 = bit_zero (byte / 4) (ap (λ l. get_or l 3 true) e) in
    let z3 : byte / 8 % 2 ≡ 0 = bit_zero (byte / 8) (ap (λ l. get_or l 2 true) e) in
    let z4 : byte / 16 % 2 ≡ 0 = bit_zero (byte / 16) (ap (λ l. get_or l 1 true) e) in
    let z5 : byte / 32 % 2 ≡ 0 = bit_zero (byte / 32) (ap (λ l. get_or l 0 true) e) in
    omega (arith, z0, z1, z2, z3, z4, z5)
byte_zeros (suc (suc (suc (suc (suc (suc (suc zero))))))) byte h e =
    let z0 : byte % 2 ≡ 0 = bit_zero (byte) (ap (λ l. get_or l 6 true) e) in
    let z1 : byte / 2 % 2 ≡ 0 = bit_zero (byte / 2) (ap (λ l. get_or l 5 true) e) in
    let z2 : byte / 4 % 2 ≡ 0 = bit_zero (byte / 4) (ap (λ l. get_or l 4 true) e) in
    let z3 : byte / 8 % 2 ≡ 0 = bit_zero (byte / 8) (ap (λ l. get_or l 3 true) e) in
    let z4 : byte / 16 % 2 ≡ 0 = bit_zero (byte / 16) (ap (λ l. get_or l 2 true) e) in
    let z5 : byte / 32 % 2 ≡ 0 = bit_zero (byte / 32) (ap (λ l. get_or l 1 true) e) in
    let z6 : byte / 64 % 2 ≡ 0 = bit_zero (byte / 64) (ap (λ l. get_or l 0 true) e) in
    omega (arith, z0, z1, z2, z3, z4, z5, z6)
byte_zeros (suc (suc (suc (suc (suc (suc (suc (suc n)))))))) byte h e = absurd (omega (arith, h))

-- The last bits of bytes are those of the last byte.
last_bits : (unused first : ℕ) (more : List ℕ) → unused < 8 → drop (8 * length (first ∷ more) - unused) (bits_of (first ∷ more)) ≡ drop (8 - unused) (bits_of_byte (get_or (first ∷ more) (length more) 0))
last_bits unused first [] h = ap (drop (8 - unused)) (append-nil (bits_of_byte first))
last_bits unused first (second ∷ more) h =
    let n : 8 * length (first ∷ second ∷ more) - unused ≡ 8 + (8 * length (second ∷ more) - unused) = omega (arith, h) in
    ap (λ k. drop k (bits_of_byte first ++ bits_of (second ∷ more))) n ∙ drop-append-add (bits_of_byte first) (bits_of (second ∷ more)) (8 * length (second ∷ more) - unused) ∙ last_bits unused second more h

-- Behind the bits there are that many zeros.
zeros_last : (unused : ℕ) (body : List ℕ) (bits : List Bool) → bits_of body ≡ bits ++ replicate unused false → drop (8 * length body - unused) (bits_of body) ≡ replicate unused false
zeros_last unused body bits e =
    let n : 8 * length body - unused ≡ length bits = omega (arith, length-bits_of body, ap (λ (l : List Bool). length l) e, length-append bits (replicate unused false), length-replicate unused false) in
    ap (λ k. drop k (bits_of body)) n ∙ ap (drop (length bits)) e ∙ drop-append_seam bits (replicate unused false)

keeps_rules : (unused : ℕ) (body : List ℕ) (bits : List Bool) → unused < 8 → bits_of body ≡ bits ++ replicate unused false → is_bit_string (unused ∷ body) ≡ true
keeps_rules unused [] bits few e =
    let none : unused ≡ 0 = omega (arith, ap (λ (l : List Bool). length l) e, length-append bits (replicate unused false), length-replicate unused false) in
    grind (arith, nat_tests)
keeps_rules unused (first ∷ more) bits few e =
    let low : get_or (first ∷ more) (length more) 0 % 2 ^ unused ≡ 0 = byte_zeros unused (get_or (first ∷ more) (length more) 0) few (sym (last_bits unused first more few) ∙ zeros_last unused (first ∷ more) bits e) in
    grind (arith, nat_tests)

value_is : (bits : List Bool) (content : List ℕ) → BitsSpell bits content → bits_value content ≡ bits
value_is bits content s = ap bits_value s.counted ∙ taken s.unused s.body bits s.padded

pub spells_bits : SpellsBits
spells_bits = (
  (λ content. (
    (λ rules. (bits_value content, bits_spelled content rules)),
    (λ spelled. ap is_bit_string spelled.1.counted ∙ keeps_rules spelled.1.unused spelled.1.body spelled.0 spelled.1.few spelled.1.padded),
  )),
  (λ content one other s t. sym (value_is one content s) ∙ value_is other content t),
  once_bits,
)
