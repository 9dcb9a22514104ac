-- Lengths in the long form.
use Rattle.std.proofs.Common.{◌≡◌, ℕ, ◌+◌, ◌*◌, ◌≤◌, List, [], ◌∷◌, ◌++◌, take, drop, None, refl, ap, arith, append_assoc}
use Rattle.std.proofs.lemmas.Bool.{le-leb}
use Rattle.std.proofs.lemmas.List.{append-nil, take-append-drop}
use Rattle.der_lite.specs.Der.{number}
use Rattle.der_lite.proofs.Integers.{number_more}
use Rattle.signed_objects.specs.BerReading.{length_in}

-- more octets make a number no smaller
grows : (xs ys : List ℕ) → number xs ≤ number (xs ++ ys)
grows xs [] = omega (arith, ap number (append-nil xs))
grows xs (y ∷ ys) = omega (arith, grows (xs ++ y ∷ []) ys, ap number (append_assoc xs (y ∷ []) ys), number_more xs y)

-- with an octet more, the number of so many is out of range
pub too_long : (bytes : List ℕ) (i next : ℕ) → number (take (i + 1) bytes) ≡ number (take i bytes) * 256 + next → 16777216 ≤ number (take i bytes) → length_in bytes ≡ None
too_long bytes i next e large =
    let most : 4294967296 ≤ number bytes = omega (arith, e, grows (take (i + 1) bytes) (drop (i + 1) bytes), ap number (take-append-drop (i + 1) bytes), large) in
    rw (le-leb 4294967296 (number bytes) most) refl
