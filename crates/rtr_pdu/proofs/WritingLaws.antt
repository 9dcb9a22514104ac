-- Bytes that are written in place, four by four.
use Rattle.std.specs.Prelude.{◌≡◌, ℕ, zero, suc, ◌+◌, ◌*◌, ◌≤◌, List, [], ◌∷◌, ◌++◌, length, drop, take, slice_set, refl}
use Rattle.std.specs.List.{AllByRecursion}
use Rattle.std.proofs.Common.{sym, ap, ◌∙◌, append_assoc, arith}
use Rattle.std.proofs.lemmas.List.{drop-drop, length-append, length-drop, length-take, take-append-drop}
use Rattle.rtr_pdu.specs.Placing.{PutsFour}

-- ---- parts, one behind the other

-- what is before some parts, and these
abbrev pub before : List ℕ → List (List ℕ) → List ℕ
before front [] = front
before front (part ∷ parts) = before (front ++ part) parts

-- these parts, and what is behind them
abbrev pub behind : List (List ℕ) → List ℕ → List ℕ
behind [] rest = rest
behind (part ∷ parts) rest = part ++ behind parts rest

abbrev pub sizes : List (List ℕ) → ℕ
sizes [] = 0
sizes (part ∷ parts) = length part + sizes parts

before_behind : (front : List ℕ) (parts : List (List ℕ)) (rest : List ℕ) → front ++ behind parts rest ≡ before front parts ++ rest
before_behind front [] rest = refl
before_behind front (part ∷ parts) rest = sym (append_assoc front part (behind parts rest)) ∙ before_behind (front ++ part) parts rest

length-before : (front : List ℕ) (parts : List (List ℕ)) → length (before front parts) ≡ length front + sizes parts
length-before front [] = let h : length front ≡ length front + 0 = omega arith in h
length-before front (part ∷ parts) = let h = length-before (front ++ part) parts in let l = length-append front part in omega (arith, h, l)

-- Four bytes that are written behind some parts replace the part there.
pub puts_behind : (front : List ℕ) (parts : List (List ℕ)) (part rest : List ℕ) (at a b c d : ℕ) (old new : List ℕ) → PutsFour at a b c d old new → old ≡ front ++ behind parts (part ++ rest)
    → length front + sizes parts ≡ at → length part ≡ 4 → new ≡ front ++ behind parts ((a ∷ b ∷ c ∷ d ∷ []) ++ rest)
puts_behind front parts part rest at a b c d old new puts is here four =
    puts (before front parts) part rest (is ∙ before_behind front parts (part ++ rest)) (length-before front parts ∙ here) four ∙ sym (before_behind front parts ((a ∷ b ∷ c ∷ d ∷ []) ++ rest))

-- the first this many parts of four bytes, and what is left behind them
abbrev pub fours : ℕ → List ℕ → List (List ℕ)
fours zero rest = []
fours (suc n) rest = take 4 rest ∷ fours n (drop 4 rest)

abbrev pub left : ℕ → List ℕ → List ℕ
left zero rest = rest
left (suc n) rest = left n (drop 4 rest)

pub in_fours : (n : ℕ) (rest : List ℕ) → rest ≡ behind (fours n rest) (left n rest)
in_fours zero rest = refl
in_fours (suc n) rest = sym (take-append-drop 4 rest) ∙ ap (λ x. take 4 rest ++ x) (in_fours n (drop 4 rest))

pub each_four : (n : ℕ) (rest : List ℕ) → n * 4 ≤ length rest → AllByRecursion (λ part. length part ≡ 4) (fours n rest)
each_four zero rest fits = tt
each_four (suc n) rest fits =
    let l = length-take 4 rest in
    let d = length-drop 4 rest in
    (omega (arith, l, fits), each_four n (drop 4 rest) (omega (arith, d, fits)))

pub left_is : (n : ℕ) (rest : List ℕ) → left n rest ≡ drop (n * 4) rest
left_is zero rest = refl
left_is (suc n) rest = left_is n (drop 4 rest) ∙ drop-drop (n * 4) 4 rest ∙ ap (λ k. drop k rest) (let e : 4 + n * 4 ≡ suc n * 4 = omega arith in e)

-- ---- four bytes

-- four bytes, one after the other
abbrev pub four_set : List ℕ → ℕ → ℕ → ℕ → ℕ → ℕ → ℕ → ℕ → ℕ → List ℕ
four_set out at i j k a b c d = slice_set (slice_set (slice_set (slice_set out at a) i b) j c) k d

four_put : (a b c d : ℕ) (done block rest : List ℕ) → length block ≡ 4
    → four_set (done ++ (block ++ rest)) (length done) (suc (length done)) (suc (suc (length done))) (suc (suc (suc (length done)))) a b c d ≡ done ++ ((a ∷ b ∷ c ∷ d ∷ []) ++ rest)
four_put a b c d [] [] rest four = absurd (cc)
four_put a b c d [] (w ∷ []) rest four = absurd (cc)
four_put a b c d [] (w ∷ x ∷ []) rest four = absurd (cc)
four_put a b c d [] (w ∷ x ∷ y ∷ []) rest four = absurd (cc)
four_put a b c d [] (w ∷ x ∷ y ∷ z ∷ []) rest four = refl
four_put a b c d [] (w ∷ x ∷ y ∷ z ∷ v ∷ more) rest four = absurd (cc)
four_put a b c d (e ∷ done) block rest four = ap (λ x. e ∷ x) (four_put a b c d done block rest four)

pub puts_four : (at a b c d : ℕ) (old : List ℕ) → PutsFour at a b c d old (four_set old at (at + 1) (at + 2) (at + 3) a b c d)
puts_four at a b c d old done block rest is here four =
    let i : at + 1 ≡ suc (length done) = omega (arith, here) in
    let j : at + 2 ≡ suc (suc (length done)) = omega (arith, here) in
    let k : at + 3 ≡ suc (suc (suc (length done))) = omega (arith, here) in
    (λ t. four_set (is t) (sym here t) (i t) (j t) (k t) a b c d) ∙ four_put a b c d done block rest four
