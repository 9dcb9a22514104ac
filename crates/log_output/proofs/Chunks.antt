-- The first bytes of what waits, and the lines behind them.
use Rattle.std.proofs.Common.{◌≡◌, ℕ, ◌+◌, ◌-◌, ◌≤◌, ◌==◌, true, false, List, [], ◌∷◌, ◌++◌, length, take, drop, min, refl, sym, ap, ◌∙◌, arith, append_assoc}
use Rattle.std.proofs.lemmas.Bool.Decides.{nat_tests}
use Rattle.std.proofs.lemmas.List.{drop-append-le, drop-drop, drop_at, length-take, take-append-drop}
use Rattle.log_output.specs.Buffers.{IsChunk, lines_in}
use Rattle.log_output.proofs.OneLine.{lines-append}

pub chunk_of : (n most : ℕ) (bytes : List ℕ) → n ≡ min (length bytes) most → IsChunk most bytes (take n bytes)
chunk_of n most bytes e = record {
  first = (drop n bytes, sym (take-append-drop n bytes));
  some = λ m h. omega (arith, length-take n bytes, e, h, m);
  short = omega (arith, length-take n bytes, e);
}

-- what is first in the front part is first in the whole
pub chunk_before : (most : ℕ) (front back bytes chunk : List ℕ) → front ++ back ≡ bytes → (length front == 0) ≡ false → IsChunk most front chunk → IsChunk most bytes chunk
chunk_before most [] back bytes chunk e full of_front = cc
chunk_before most (x ∷ xs) back bytes chunk e full of_front = record {
  first = (of_front.first.0 ++ back, sym e ∙ ap (λ ys. ys ++ back) of_front.first.1 ∙ append_assoc chunk of_front.first.0 back);
  some = λ m _. of_front.some m (omega arith);
  short = of_front.short;
}

-- nothing stands before the back part
pub chunk_behind : (most : ℕ) (front back bytes chunk : List ℕ) → front ++ back ≡ bytes → (length front == 0) ≡ true → IsChunk most back chunk → IsChunk most bytes chunk
chunk_behind most [] back bytes chunk e none of_back = rw (← e) of_back
chunk_behind most (x ∷ xs) back bytes chunk e none of_back = absurd (grind (arith, nat_tests))

-- ---- the lines behind some bytes of two parts

pub lines_in_both : (n : ℕ) (front back : List ℕ) → n ≤ length front → lines_in (drop n front) + lines_in back ≡ lines_in (drop n (front ++ back))
lines_in_both n front back h = sym (ap (λ l. lines_in l) (drop-append-le n front back h) ∙ lines-append (drop n front) back)

pub lines_in_back : (n : ℕ) (front back : List ℕ) → length front ≤ n → lines_in (drop (n - length front) back) ≡ lines_in (drop n (front ++ back))
lines_in_back n front back h =
    let all : length front + (n - length front) ≡ n = omega (arith, h) in
    ap (λ l. lines_in (drop (n - length front) l)) (sym (drop_at front back (length front) refl))
    ∙ ap (λ l. lines_in l) (drop-drop (n - length front) (length front) (front ++ back))
    ∙ ap (λ k. lines_in (drop k (front ++ back))) all
