-- A text of three parts
use Rattle.std.proofs.Common.{◌≡◌, ℕ, ◌++◌, List, Result, Ok, Err, IfOk, String, Global, string_bytes, ap, ◌∙◌}

pub with_place : {E : Type 0} (p q w n : List ℕ) (r : Result (String Global) E) → q ≡ p → IfOk r (λ t. string_bytes t ≡ q ++ w ++ n) → IfOk r (λ t. (why : List ℕ) × (string_bytes t ≡ p ++ why ++ n))
with_place p q w n (Ok t) is h = (w, h ∙ ap (λ (x : List ℕ). x ++ w ++ n) is)
with_place p q w n (Err e) is h = tt
