-- Lists of bytes, and parts of them.
use Rattle.rtr_ends.proofs.Words.{common_steps, ◌≡◌, refl, ℕ, zero, suc, ◌-◌, ◌<◌, List, [], ◌∷◌, ◌++◌, length, take, drop, ◌∙◌, ap, arith, subst, drop-nil, take-append_seam, AreBytes, AreBytes-take}

-- no bytes, and one more
pub none_bytes : AreBytes []
none_bytes i = omega arith

one_byte : (b : ℕ) → b < 256 → AreBytes (b ∷ [])
one_byte b h zero = h
one_byte b h (suc i) = omega arith

pub more_bytes : (held : List ℕ) (b : ℕ) → AreBytes held → b < 256 → AreBytes (held ++ b ∷ [])
more_bytes [] b each h i = one_byte b h i
more_bytes (x ∷ held) b each h zero = each 0
more_bytes (x ∷ held) b each h (suc i) = more_bytes held b (λ j. each (suc j)) h i

-- The bytes consumed are bytes of the piece.
pub bytes_front : (piece taken rest : List ℕ) → piece ≡ taken ++ rest → AreBytes piece → AreBytes taken
bytes_front piece taken rest e each = subst AreBytes (ap (take (length taken)) e ∙ take-append_seam taken rest) (AreBytes-take (length taken) piece each)

-- what is left determines what was consumed
pub front_of : (piece taken rest : List ℕ) → piece ≡ taken ++ rest → take (length piece - length rest) piece ≡ taken
front_of piece taken rest e = grind (arith, common_steps)

-- nothing is left of nothing
pub drop_none : (most : ℕ) (out : List ℕ) → out ≡ [] → drop most out ≡ []
drop_none most out e = ap (drop most) e ∙ drop-nil most

-- a list that cannot have an element
pub no_rest : (xs : List ℕ) → (0 < length xs → ⊥) → xs ≡ []
no_rest [] h = refl
no_rest (x ∷ xs) h = absurd (h (omega arith))
