-- Bytes to be pulled from an outbox.
use Rattle.rtr_ends.proofs.Words.{◌≡◌, ℕ, ◌≤◌, nat_eq, List, [], ◌∷◌, length, drop, ap, arith, length-drop, eq_of, eq_true, false_if_never}
use Rattle.rtr_ends.specs.Cache.{is_none}

-- all was pulled if as many were as there are
pub all_pulled : (n len : ℕ) (bytes out : List ℕ) → drop n bytes ≡ out → n ≤ length bytes → len ≡ length bytes → nat_eq n len ≡ is_none out
all_pulled n len bytes [] is within count = eq_true n len (let size = length-drop n bytes in omega (arith, ap length is, size, within, count))
all_pulled n len bytes (b ∷ out) is within count = false_if_never (nat_eq n len) (λ same. let size = length-drop n bytes in omega (arith, ap length is, size, eq_of n len same, count))
