-- Addresses, back from their bytes.
use Rattle.std.proofs.Common.{◌≡◌, ℕ, ◌-◌, ◌%◌, ◌^◌, ◌<◌, ◌≤◌, Bool, true, false, not, List, [], ◌∷◌, ◌++◌, length, take, drop, replicate, refl, sym, ap, subst, ◌∙◌, arith}
use Rattle.std.proofs.lemmas.List.{take-append-drop, take_all, length-drop}
use lib.Dec.{eqb}
use lib.Pointwise.{pointwise, bytes_decides}
use Rattle.prefixes.specs.Address.{Block, IsPrefix, HasNoHostBits}
use Rattle.byteorder.specs.Endian.{big_number}
use Rattle.byteorder.specs.Numbers.{big_number-reads_back}
use Rattle.rtr_pdu.proofs.ReadLaws.{bytes_back}
use Rattle.rtr_pdu.specs.Payloads.{AreBytes}
use Rattle.rtr_pdu.proofs.UnitLaws.{back}
use Rattle.rpkirtr_c.specs.Spelled.{v4_bytes, v6_bytes}

pub v4_read : (bytes : List ℕ) → AreBytes bytes → 4 ≤ length bytes → drop 4 bytes ≡ replicate 12 0 → bytes ≡ v4_bytes (big_number 4 bytes)
unfolding v4_bytes
v4_read bytes are long zeros = sym (take-append-drop 4 bytes) ∙ (λ i. sym (bytes_back 4 bytes are long) i ++ zeros i)

pub v6_read : (bytes : List ℕ) → AreBytes bytes → length bytes ≡ 16 → bytes ≡ v6_bytes (big_number 16 bytes)
unfolding v6_bytes
v6_read bytes are long = sym (bytes_back 16 bytes are (omega (arith, long)) ∙ take_all 16 bytes (omega (arith, long)))

pub v4_rest : (n : ℕ) → drop 4 (v4_bytes n) ≡ replicate 12 0
unfolding v4_bytes
v4_rest n = refl

pub v4_one : (n m : ℕ) → n < 2 ^ 32 → m < 2 ^ 32 → v4_bytes n ≡ v4_bytes m → n ≡ m
unfolding v4_bytes
v4_one n m h k e = sym (big_number-reads_back 4 n (replicate 12 0) h) ∙ ap (big_number 4) e ∙ big_number-reads_back 4 m (replicate 12 0) k

pub v6_one : (n m : ℕ) → n < 2 ^ 128 → m < 2 ^ 128 → v6_bytes n ≡ v6_bytes m → n ≡ m
unfolding v6_bytes
v6_one n m h k e = sym (back 16 n h) ∙ ap (big_number 16) e ∙ back 16 m k

abbrev pub rest_of : List ℕ → List ℕ
rest_of bytes = take 12 (drop 4 bytes)

abbrev pub zeros : List ℕ
zeros = 0 ∷ 0 ∷ 0 ∷ 0 ∷ 0 ∷ 0 ∷ 0 ∷ 0 ∷ 0 ∷ 0 ∷ 0 ∷ 0 ∷ []

not_false : (y : Bool) → not y ≡ false → y ≡ true
not_false true e = refl
not_false false e = absurd (let f : true ≡ false = e in cc)

-- If the test finds the rest of the bytes zero, they are the number's. If it finds them otherwise, they are no number's.
pub v4_tested : (bytes : List ℕ) → AreBytes bytes → length bytes ≡ 16 → (r : Bool) → r ≡ not (pointwise eqb (rest_of bytes) zeros) → r ≡ false → bytes ≡ v4_bytes (big_number 4 bytes)
v4_tested bytes are long r told is =
    let rest : length (drop 4 bytes) ≤ 12 = omega (arith, long, length-drop 4 bytes) in
    v4_read bytes are (omega (arith, long)) (sym (take_all 12 (drop 4 bytes) rest) ∙ (bytes_decides (rest_of bytes) zeros).0 (not_false _ (sym told ∙ is)))

pub v4_refuted : (bytes : List ℕ) (r : Bool) → r ≡ not (pointwise eqb (rest_of bytes) zeros) → r ≡ true → (n : ℕ) → ¬ (bytes ≡ v4_bytes n)
v4_refuted bytes r told is n e =
    let same : rest_of bytes ≡ zeros = ap rest_of e ∙ ap (take 12) (v4_rest n) in
    absurd (let f : true ≡ false = sym is ∙ told ∙ ap not ((bytes_decides (rest_of bytes) zeros).1 same) in cc)

-- what a prefix of this address and length shows
pub shown : (width number len : ℕ) (p : Block) → IsPrefix width p → number ≡ p.addr → len ≡ p.len → (len ≤ width) × HasNoHostBits width number len
shown width number len p valid a e = (subst (λ k. k ≤ width) (sym e) valid.in_family, (λ i. a i % 2 ^ (width - e i)) ∙ valid.no_host_bits)
