-- What is between two places of an array.
use Rattle.std.specs.Prelude.{◌≡◌, ℕ, ◌+◌, ◌-◌, List, [], ◌∷◌, take, drop, refl}
use Rattle.std.proofs.Common.{zero, suc, sym, ap, ◌∙◌, arith}

take_none : (k : ℕ) → take {A = ℕ} k [] ≡ []
take_none zero = refl
take_none (suc k) = refl

drop_none : (k : ℕ) → drop {A = ℕ} k [] ≡ []
drop_none zero = refl
drop_none (suc k) = refl

drop_take : (n k : ℕ) (bs : List ℕ) → drop n (take k bs) ≡ take (k - n) (drop n bs)
drop_take zero k bs = let e : k ≡ k - 0 = omega arith in ap (λ j. take j bs) e
drop_take (suc n) k [] = ap (drop (suc n)) (take_none k) ∙ sym (take_none (k - suc n))
drop_take (suc n) zero (b ∷ bs) = let e : 0 ≡ 0 - suc n = omega arith in ap (λ j. take j (drop n bs)) e
drop_take (suc n) (suc k) (b ∷ bs) = let e : k - n ≡ suc k - suc n = omega arith in drop_take n k bs ∙ ap (λ j. take j (drop n bs)) e

drop_both : (a b : ℕ) (bs : List ℕ) → drop (a + b) bs ≡ drop b (drop a bs)
drop_both zero b bs = let e : 0 + b ≡ b = omega arith in ap (λ n. drop n bs) e
drop_both (suc a) b [] = drop_none (suc a + b) ∙ sym (drop_none b)
drop_both (suc a) b (x ∷ bs) = let e : suc a + b ≡ suc (a + b) = omega arith in ap (λ n. drop n (x ∷ bs)) e ∙ drop_both a b bs

-- the front is removed
pub moved_on : (n from to : ℕ) (bs : List ℕ) → take (to - (from + n)) (drop (from + n) bs) ≡ drop n (take (to - from) (drop from bs))
moved_on n from to bs =
    let e : to - (from + n) ≡ (to - from) - n = omega arith in
    ap (take (to - (from + n))) (drop_both from n bs) ∙ ap (λ k. take k (drop n (drop from bs))) e ∙ sym (drop_take n (to - from) (drop from bs))
