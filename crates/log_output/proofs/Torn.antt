-- Newlines, and where an output is torn.
use Rattle.std.proofs.Common.{◌≡◌, ℕ, zero, suc, ◌+◌, ◌-◌, ◌≤◌, ◌<◌, ◌==◌, not, Bool, true, false, if◌then◌else◌, List, [], ◌∷◌, ◌++◌, length, take, drop, Some, refl, sym, ap, ◌∙◌, arith}
use Rattle.std.specs.Prelude.{slice_get}
use Rattle.std.proofs.lemmas.List.{take-append-drop, take-take, drop-take}
use Rattle.log_output.specs.Buffers.{is_newline, is_torn_after, line_length}

-- ---- places

get-behind : (n : ℕ) (xs : List ℕ) (i : ℕ) → slice_get (drop n xs) i ≡ slice_get xs (n + i)
get-behind zero xs i =
    let same : i ≡ 0 + i = omega arith in
    ap (slice_get xs) same
get-behind (suc n) [] i = refl
get-behind (suc n) (x ∷ xs) i =
    let next : suc (n + i) ≡ suc n + i = omega arith in
    get-behind n xs i ∙ ap (slice_get (x ∷ xs)) next

pub get-drop : (n : ℕ) (xs : List ℕ) (i : ℕ) → n ≤ i → slice_get (drop n xs) (i - n) ≡ slice_get xs i
get-drop n xs i h =
    let there : n + (i - n) ≡ i = omega (arith, h) in
    get-behind n xs (i - n) ∙ ap (slice_get xs) there

pub get-take : (n : ℕ) (xs : List ℕ) (i : ℕ) → i < n → slice_get (take n xs) i ≡ slice_get xs i
get-take zero xs i h = absurd (omega (arith, h))
get-take (suc n) [] i h = refl
get-take (suc n) (x ∷ xs) zero h = refl
get-take (suc n) (x ∷ xs) (suc i) h = get-take n xs i (omega (arith, h))

pub get-more : (xs ys : List ℕ) (i : ℕ) → is_newline (slice_get xs i) ≡ true → is_newline (slice_get (xs ++ ys) i) ≡ true
get-more [] ys i h = absurd (apart h)
  where
    apart : false ≡ true → ⊥
    apart e = cc
get-more (x ∷ xs) ys zero h = h
get-more (x ∷ xs) ys (suc i) h = get-more xs ys i h

pub get-at : (xs : List ℕ) (y : ℕ) → slice_get (xs ++ y ∷ []) (length xs) ≡ Some y
get-at [] y = refl
get-at (x ∷ xs) y = get-at xs y

-- ---- the last byte

pub torn-append : (t : Bool) (xs ys : List ℕ) → is_torn_after t (xs ++ ys) ≡ is_torn_after (is_torn_after t xs) ys
torn-append t [] ys = refl
torn-append t (x ∷ xs) ys = torn-append (not (x == 10)) xs ys

pub torn_last : (t : Bool) (xs : List ℕ) (n : ℕ) → n < length xs → is_torn_after t (take (suc n) xs) ≡ not (is_newline (slice_get xs n))
torn_last t [] n h = absurd (omega (arith, h))
torn_last t (x ∷ xs) zero h = refl
torn_last t (x ∷ xs) (suc n) h = torn_last (not (x == 10)) xs n (omega (arith, h))

pub torn_by : (t : Bool) (xs : List ℕ) (n : ℕ) → 0 < n → n ≤ length xs → not (is_newline (slice_get xs (n - 1))) ≡ is_torn_after t (take n xs)
torn_by t xs zero more h = absurd (omega (arith, more))
torn_by t xs (suc n) more h =
    let before : suc n - 1 ≡ n = omega arith in
    ap (λ i. not (is_newline (slice_get xs i))) before ∙ sym (torn_last t xs n (omega (arith, h)))

pub take_on : (n m : ℕ) (xs : List ℕ) → take (n + m) xs ≡ take n xs ++ take m (drop n xs)
take_on n m xs =
    sym (take-append-drop n (take (n + m) xs))
    ∙ ap (λ l. l ++ drop n (take (n + m) xs)) (take-take n (n + m) xs (omega arith))
    ∙ ap (λ l. take n xs ++ l) (drop-take n m xs)

-- ---- the first line

pub line_more : (xs : List ℕ) (n : ℕ) → n < length xs → is_newline (slice_get xs n) ≡ false → line_length (drop n xs) ≡ suc (line_length (drop (suc n) xs))
line_more [] n h other = absurd (omega (arith, h))
line_more (x ∷ xs) zero h other = ap (λ (t : Bool). if t then 1 else suc (line_length xs)) other
line_more (x ∷ xs) (suc n) h other = line_more xs n (omega (arith, h)) other

pub line_ends : (xs : List ℕ) (n : ℕ) → n < length xs → is_newline (slice_get xs n) ≡ true → line_length (drop n xs) ≡ 1
line_ends [] n h newline = absurd (omega (arith, h))
line_ends (x ∷ xs) zero h newline = ap (λ (t : Bool). if t then 1 else suc (line_length xs)) newline
line_ends (x ∷ xs) (suc n) h newline = line_ends xs n (omega (arith, h)) newline

pub line_within : (xs : List ℕ) → line_length xs ≤ length xs
line_within [] = omega arith
line_within (x ∷ xs) = by (x == 10) (line_within xs)
  where
    by : (t : Bool) → line_length xs ≤ length xs → (if t then 1 else suc (line_length xs)) ≤ suc (length xs)
    by true h = omega arith
    by false h = omega (arith, h)
