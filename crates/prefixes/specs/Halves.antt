-- A number of 128 bits in two times eight bytes.
use Rattle.std.specs.Prelude.{◌≡◌, ℕ, ◌+◌, ◌*◌, ◌/◌, ◌%◌, ◌^◌, ◌<◌, List, length, slice_index}
use Rattle.std.specs.Int.{w64, from_le_bytes, to_le_bytes}
use Rattle.std.proofs.Common.{arith}
use Rattle.std.proofs.lemmas.Nat.{le_bytes_8, shr_high, mod_low}

-- eight bytes
pub record AreEight (bytes : List ℕ) : Type 0 where
  pub eight : length bytes ≡ 8
  pub small : (i : ℕ) → slice_index bytes i < 256

-- the number of a high and a low half, in each of which the lowest byte comes first
abbrev pub number_of : List ℕ → List ℕ → ℕ
number_of high low = from_le_bytes w64 high * 2 ^ 64 + from_le_bytes w64 low

-- ---- the bytes of a number
-- What follows shows that a number gives its bytes back, as a `Copy` type requires. No contract says more by it.

eight_below : (bytes : List ℕ) → AreEight bytes → from_le_bytes w64 bytes < 2 ^ 64
eight_below bytes h = omega (arith, h.small 0, h.small 1, h.small 2, h.small 3, h.small 4, h.small 5, h.small 6, h.small 7)

pub high_again : (high low : List ℕ) → AreEight high → AreEight low → to_le_bytes w64 (number_of high low / 2 ^ 64) ≡ high
high_again high low h l = le_bytes_8 high (number_of high low / 2 ^ 64) h.eight h.small (shr_high (from_le_bytes w64 high) 64 (from_le_bytes w64 low) (eight_below low l))

pub low_again : (high low : List ℕ) → AreEight low → to_le_bytes w64 (number_of high low % 2 ^ 64) ≡ low
low_again high low l = le_bytes_8 low (number_of high low % 2 ^ 64) l.eight l.small (mod_low (from_le_bytes w64 high) 64 (from_le_bytes w64 low) (eight_below low l))
