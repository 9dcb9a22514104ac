-- One more record is copied.
use Rattle.std.proofs.Common.{◌≡◌, ℕ, zero, suc, ◌+◌, ◌<◌, List, [], ◌∷◌, ◌++◌, length, map, take, drop, set, get_or, sym, ap, ◌∙◌, arith}

module _ {A B : Type 0} (f : A → B) where
  next : (i : ℕ) (list : List A) (old : List B) (v : A) → v ≡ get_or list i v → i < length list → i < length old
      → set (map f (take i list) ++ drop i old) i (f v) ≡ map f (take (suc i) list) ++ drop (suc i) old
  next i [] old v e low room = absurd (omega (arith, low))
  next i (x ∷ list) [] v e low room = absurd (omega (arith, room))
  next zero (x ∷ list) (y ∷ old) v e low room = ap (λ z. f z ∷ old) e
  next (suc i) (x ∷ list) (y ∷ old) v e low room = ap (λ zs. f x ∷ zs) (next i list old v e (omega (arith, low)) (omega (arith, room)))

  pub copied_more : (i : ℕ) (list : List A) (old now : List B) (v : A) → v ≡ get_or list i v → i < length list → i < length old
      → now ≡ map f (take i list) ++ drop i old → set now i (f v) ≡ map f (take (i + 1) list) ++ drop (i + 1) old
  copied_more i list old now v e low room is =
      let more : i + 1 ≡ suc i = omega arith in
      ap (λ zs. set zs i (f v)) is ∙ next i list old v e low room ∙ (λ k. map f (take (sym more k) list) ++ drop (sym more k) old)
