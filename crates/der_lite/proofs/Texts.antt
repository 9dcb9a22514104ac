-- A text of ASCII by the test of each byte.
use Rattle.std.proofs.Common.{◌≡◌, ℕ, zero, suc, ◌≤◌, true, false, ltb, List, [], ◌∷◌, refl, arith}
use Rattle.std.specs.Prelude.{slice_index, IsAscii}
use Rattle.std.proofs.lemmas.Bool.{lt-ltb, le-ltb, and_from, and_right}
use Rattle.der_lite.specs.Der.{is_ia5}

-- each byte is ASCII
pub ia5_from_ascii : (bytes : List ℕ) → IsAscii bytes → is_ia5 bytes ≡ true
ia5_from_ascii [] h = refl
ia5_from_ascii (byte ∷ bytes) h = and_from (ltb byte 128) (is_ia5 bytes) (lt-ltb byte 128 (h 0)) (ia5_from_ascii bytes (λ i. h (suc i)))

-- some byte is not
pub not_ia5 : (bytes : List ℕ) (i : ℕ) → 128 ≤ slice_index bytes i → is_ia5 bytes ≡ false
not_ia5 [] i h = absurd (omega (arith, h))
not_ia5 (byte ∷ bytes) zero h = rw (le-ltb byte 128 h) refl
not_ia5 (byte ∷ bytes) (suc i) h = and_right (ltb byte 128) (is_ia5 bytes) (not_ia5 bytes i h)
