-- A set of numbers has one list of ranges.
use Rattle.std.proofs.Common.{◌≡◌, ℕ, ◌+◌, ◌≤◌, List, [], ◌∷◌, inl, inr, refl, sym, ap, ◌∙◌, arith}
use Rattle.std.proofs.lemmas.Bool.{cases_lt}
use Rattle.std.proofs.lemmas.List.Elements.{All-head}
use Rattle.resources.specs.declared.range.ResourceRange.{ResourceRange}
use Rattle.resources.specs.Ranges.{AreRanges, Covers}
use Rattle.resources.specs.Resources.{range_of}
use Rattle.resources.specs.Laws.{OneList}
use Rattle.resources.proofs.RangeLaws.{IsFull, tail_ranges, later}

-- no number is below the first range
least : (r : ResourceRange) (more : List ResourceRange) (n : ℕ) → AreRanges (r ∷ more) → Covers (r ∷ more) n → r.low ≤ n
least r more n h (inl here) = here.0
least r more n h (inr there) = omega (arith, later r more n h there, All-head IsFull r more h.full)

-- a number of the list that is not behind the first range is in it
in_first : (r : ResourceRange) (more : List ResourceRange) (n : ℕ) → AreRanges (r ∷ more) → n ≤ r.high + 1 → Covers (r ∷ more) n → n ≤ r.high
in_first r more n h le (inl here) = here.1
in_first r more n h le (inr there) = absurd (omega (arith, le, later r more n h there))

-- a range that begins with the first one, and of which each number is in the list, ends with it at the latest
no_longer : (r s : ResourceRange) (more : List ResourceRange) → AreRanges (r ∷ more) → r.low ≡ s.low → ((n : ℕ) → s.low ≤ n → n ≤ s.high → Covers (r ∷ more) n) → s.high ≤ r.high
no_longer r s more h low all =
    let full = All-head IsFull r more h.full in
    elim (cases_lt r.high s.high) [
      | inl lt ↦ absurd (omega (arith, in_first r more (r.high + 1) h (omega arith) (all (r.high + 1) (omega (arith, low, full)) (omega (arith, lt)))))
      | inr ge ↦ ge
    ]

-- a number of the rest is in the rest of the other, if the first ranges end together
in_rest : (r s : ResourceRange) (a b : List ResourceRange) (n : ℕ) → AreRanges (r ∷ a) → r.high ≡ s.high → Covers a n → Covers (s ∷ b) n → Covers b n
in_rest r s a b n h high there (inl here) = absurd (omega (arith, later r a n h there, here.1, high))
in_rest r s a b n h high there (inr other) = other

pub list_law : OneList
list_law [] [] ha hb same = refl
list_law [] (s ∷ b) ha hb same = absurd ((same s.low).1 (inl (omega arith, All-head IsFull s b hb.full)))
list_law (r ∷ a) [] ha hb same = absurd ((same r.low).0 (inl (omega arith, All-head IsFull r a ha.full)))
list_law (r ∷ a) (s ∷ b) ha hb same =
    let full_r = All-head IsFull r a ha.full in
    let full_s = All-head IsFull s b hb.full in
    let low : r.low ≡ s.low = omega (arith, least s b r.low hb ((same r.low).0 (inl (omega arith, full_r))), least r a s.low ha ((same s.low).1 (inl (omega arith, full_s)))) in
    let one = no_longer r s a ha low (λ n l h. (same n).1 (inl (l, h))) in
    let other = no_longer s r b hb (sym low) (λ n l h. (same n).0 (inl (l, h))) in
    let high : r.high ≡ s.high = omega (arith, one, other) in
    let rest : a ≡ b =
    list_law a b (tail_ranges r a ha) (tail_ranges s b hb)
    (λ n. ((λ c. in_rest r s a b n ha high c ((same n).0 (inr c))), (λ c. in_rest s r b a n hb (sym high) c ((same n).1 (inr c))))) in
    let first : r ≡ s = ap (λ (k : ℕ). range_of k r.high) low ∙ ap (λ (k : ℕ). range_of s.low k) high in
    ap (λ (x : ResourceRange). x ∷ a) first ∙ ap (λ (l : List ResourceRange). s ∷ l) rest
