-- Ranges that are apart.
use Rattle.std.proofs.Common.{◌≡◌, ℕ, ◌+◌, ◌<◌, ◌≤◌, Bool, true, false, ◌&&◌, ltb, leb, List, [], ◌∷◌, length, drop, get_or, Option, Some, None, inl, inr, ◌↔◌, refl, sym, ap, subst, ◌∙◌, arith}
use Rattle.std.proofs.lemmas.Bool.{and_parts, ltb-true, leb-true, le-leb, cases_lt, lt-ltb, le-ltb}
use Rattle.std.proofs.lemmas.List.{at_drop_more}
use Rattle.std.proofs.lemmas.List.Elements.{All-head, All-tail}
use Rattle.resources.specs.declared.range.ResourceRange.{ResourceRange}
use Rattle.resources.specs.Ranges.{are_apart, is_after, AreRanges, Covers, Within}
use Rattle.resources.specs.Walks.{from_end, begins_by}

-- the ranges are apart, and the first is after this end
abbrev pub follow : Option ℕ → List ResourceRange → Bool
follow end [] = true
follow end (r ∷ more) = is_after end r && follow (Some r.high) more

pub follow_is : (ranges : List ResourceRange) → are_apart ranges ≡ follow None ranges
follow_is [] = refl
follow_is (a ∷ []) = refl
follow_is (a ∷ b ∷ more) = ap (λ (x : Bool). ltb (a.high + 1) b.low && x) (follow_is (b ∷ more))

pub followed : (end : Option ℕ) (ranges : List ResourceRange) (i : ℕ) (d : ResourceRange) → i < length ranges → is_after end (get_or ranges i d) ≡ true → follow end (drop i ranges) ≡ follow (Some (get_or ranges i d).high) (drop (i + 1) ranges)
followed end ranges i d lt after = at_drop_more (follow end) ranges i d lt ∙ ap (λ (x : Bool). x && follow (Some (get_or ranges i d).high) (drop (i + 1) ranges)) after

pub not_followed : (end : Option ℕ) (ranges : List ResourceRange) (i : ℕ) (d : ResourceRange) → i < length ranges → is_after end (get_or ranges i d) ≡ false → follow end (drop i ranges) ≡ false
not_followed end ranges i d lt after = at_drop_more (follow end) ranges i d lt ∙ ap (λ (x : Bool). x && follow (Some (get_or ranges i d).high) (drop (i + 1) ranges)) after

-- ---- one walk of both lists

abbrev pub IsFull : ResourceRange → Type 0
IsFull r = r.low ≤ r.high

pub tail_ranges : (o : ResourceRange) (more : List ResourceRange) → AreRanges (o ∷ more) → AreRanges more
tail_ranges o [] h = record { full = All-tail IsFull o [] h.full; apart = refl }
tail_ranges o (p ∷ rest) h = record { full = All-tail IsFull o (p ∷ rest) h.full; apart = (and_parts (ltb (o.high + 1) p.low) (are_apart (p ∷ rest)) h.apart).1 }

-- a later range begins behind the first, and behind a number that none has
pub later : (o : ResourceRange) (more : List ResourceRange) (n : ℕ) → AreRanges (o ∷ more) → Covers more n → o.high + 1 < n
later o [] n h c = absurd c
later o (p ∷ rest) n h c =
    let gap = ltb-true (o.high + 1) p.low (and_parts (ltb (o.high + 1) p.low) (are_apart (p ∷ rest)) h.apart).0 in
    let t = tail_ranges o (p ∷ rest) h in
    let full = All-head IsFull p rest t.full in
    elim c [
      | inl here ↦ omega (arith, gap, here.0)
      | inr there ↦ omega (arith, gap, full, later p rest n t there)
    ]

-- what the walk leaves out ends before the number
pub from_end_ranges : (n : ℕ) (outer : List ResourceRange) → AreRanges outer → AreRanges (from_end n outer)
from_end_ranges n [] h = h
from_end_ranges n (o ∷ more) h =
    elim (cases_lt o.high n) [
      | inl lt ↦ rw (lt-ltb o.high n lt) (from_end_ranges n more (tail_ranges o more h))
      | inr ge ↦ rw (le-ltb o.high n ge) h
    ]

pub left_in : (n : ℕ) (outer : List ResourceRange) (m : ℕ) → Covers (from_end n outer) m → Covers outer m
left_in n [] m c = c
left_in n (o ∷ more) m c =
    elim (cases_lt o.high n) [
      | inl lt ↦ inr (left_in n more m (subst (λ (l : List ResourceRange). Covers l m) (from_later lt) c))
      | inr ge ↦ subst (λ (l : List ResourceRange). Covers l m) (from_here ge) c
    ]
  where
    from_later : o.high < n → from_end n (o ∷ more) ≡ from_end n more
    from_later lt = rw (lt-ltb o.high n lt) refl

    from_here : n ≤ o.high → from_end n (o ∷ more) ≡ o ∷ more
    from_here ge = rw (le-ltb o.high n ge) refl

pub kept_in : (n : ℕ) (outer : List ResourceRange) (m : ℕ) → n ≤ m → Covers outer m → Covers (from_end n outer) m
kept_in n [] m le c = c
kept_in n (o ∷ more) m le c =
    elim (cases_lt o.high n) [
      | inl lt ↦ subst (λ (l : List ResourceRange). Covers l m) (sym (from_later lt)) (kept_in n more m le (others lt))
      | inr ge ↦ subst (λ (l : List ResourceRange). Covers l m) (sym (from_here ge)) c
    ]
  where
    from_later : o.high < n → from_end n (o ∷ more) ≡ from_end n more
    from_later lt = rw (lt-ltb o.high n lt) refl

    from_here : n ≤ o.high → from_end n (o ∷ more) ≡ o ∷ more
    from_here ge = rw (le-ltb o.high n ge) refl

    others : o.high < n → Covers more m
    others lt = elim c [
      | inl here ↦ absurd (omega (arith, lt, le, here.1))
      | inr there ↦ there
    ]

-- all numbers of a range are in ranges
abbrev IsIn : ResourceRange → List ResourceRange → Type 0
IsIn r outer = (m : ℕ) → r.low ≤ m → m ≤ r.high → Covers outer m

-- so the first that does not end before the range's end has them all
begins : (r : ResourceRange) (outer : List ResourceRange) → r.low ≤ r.high → AreRanges outer → begins_by r (from_end r.high outer) ≡ true → IsIn r outer
begins r [] full h b = absurd cc
begins r (o ∷ more) full h b =
    elim (cases_lt o.high r.high) [
      | inl lt ↦ λ m low high. inr (begins r more full (tail_ranges o more h) (subst (λ (l : List ResourceRange). begins_by r l ≡ true) (from_later lt) b) m low high)
      | inr ge ↦ λ m low high. let first = leb-true o.low r.low (subst (λ (l : List ResourceRange). begins_by r l ≡ true) (from_here ge) b) in inl (omega (arith, first, low), omega (arith, ge, high))
    ]
  where
    from_later : o.high < r.high → from_end r.high (o ∷ more) ≡ from_end r.high more
    from_later lt = rw (lt-ltb o.high r.high lt) refl

    from_here : r.high ≤ o.high → from_end r.high (o ∷ more) ≡ o ∷ more
    from_here ge = rw (le-ltb o.high r.high ge) refl

-- and if it begins later, one is missing
begun : (r : ResourceRange) (outer : List ResourceRange) → r.low ≤ r.high → AreRanges outer → IsIn r outer → begins_by r (from_end r.high outer) ≡ true
begun r [] full h i = absurd (i r.high full (omega arith))
begun r (o ∷ more) full h i =
    elim (cases_lt o.high r.high) [
      | inl lt ↦ subst (λ (l : List ResourceRange). begins_by r l ≡ true) (sym (from_later lt)) (begun r more full (tail_ranges o more h) (others lt))
      | inr ge ↦ subst (λ (l : List ResourceRange). begins_by r l ≡ true) (sym (from_here ge)) (first ge (i r.low (omega arith) full))
    ]
  where
    from_later : o.high < r.high → from_end r.high (o ∷ more) ≡ from_end r.high more
    from_later lt = rw (lt-ltb o.high r.high lt) refl

    from_here : r.high ≤ o.high → from_end r.high (o ∷ more) ≡ o ∷ more
    from_here ge = rw (le-ltb o.high r.high ge) refl

    first : r.high ≤ o.high → Covers (o ∷ more) r.low → leb o.low r.low ≡ true
    first ge (inl here) = le-leb o.low r.low here.0
    first ge (inr there) = absurd (omega (arith, ge, full, later o more r.low h there))

    -- a number of the range behind this one is in no other
    behind : o.high < r.high → r.low ≤ o.high → Covers (o ∷ more) (o.high + 1) → ⊥
    behind lt low (inl here) = omega (arith, here.1)
    behind lt low (inr there) = omega (arith, later o more (o.high + 1) h there)

    in_others : o.high < r.high → (m : ℕ) → r.low ≤ m → Covers (o ∷ more) m → Covers more m
    in_others lt m low (inr there) = there
    in_others lt m low (inl here) = absurd (behind lt (omega (arith, low, here.1)) (i (o.high + 1) (omega (arith, low, here.1)) (omega (arith, lt))))

    others : o.high < r.high → IsIn r more
    others lt m low high = in_others lt m low (i m low high)

-- each range in its turn is found in what is left of the others
abbrev pub walk : List ResourceRange → List ResourceRange → Bool
walk outer [] = true
walk outer (r ∷ more) = begins_by r (from_end r.high outer) && walk (from_end r.high outer) more

walked : (outer inner : List ResourceRange) → AreRanges outer → AreRanges inner → walk outer inner ≡ true → Within inner outer
walked outer [] ho hi w n c = absurd c
walked outer (r ∷ more) ho hi w n c =
    let full = All-head IsFull r more hi.full in
    let b = and_parts (begins_by r (from_end r.high outer)) (walk (from_end r.high outer) more) w in
    elim c [
      | inl here ↦ begins r outer full ho b.0 n here.0 here.1
      | inr there ↦ left_in r.high outer n (walked (from_end r.high outer) more (from_end_ranges r.high outer ho) (tail_ranges r more hi) b.1 n there)
    ]

walks : (outer inner : List ResourceRange) → AreRanges outer → AreRanges inner → Within inner outer → walk outer inner ≡ true
walks outer [] ho hi w = refl
walks outer (r ∷ more) ho hi w =
    let full = All-head IsFull r more hi.full in
    let rest = from_end r.high outer in
    let b : begins_by r rest ≡ true = begun r outer full ho (λ m low high. w m (inl (low, high))) in
    let others : walk rest more ≡ true =
    walks rest more (from_end_ranges r.high outer ho) (tail_ranges r more hi) (λ m c. kept_in r.high outer m (omega (arith, later r more m hi c)) (w m (inr c))) in
    rw (b) others

pub walk_is : (outer inner : List ResourceRange) → AreRanges outer → AreRanges inner → (walk outer inner ≡ true) ↔ Within inner outer
walk_is outer inner ho hi = (walked outer inner ho hi, walks outer inner ho hi)

-- a range more
pub walk_on : (rest inner new : List ResourceRange) (i : ℕ) (d : ResourceRange) (b : Bool) → i < length inner → new ≡ from_end (get_or inner i d).high rest → b ≡ begins_by (get_or inner i d) new
    → walk rest (drop i inner) ≡ (b && walk new (drop (i + 1) inner))
walk_on rest inner new i d b lt new_is b_is =
    let r : ResourceRange = get_or inner i d in
    at_drop_more (walk rest) inner i d lt ∙ ap (λ (l : List ResourceRange). begins_by r l && walk l (drop (i + 1) inner)) (sym new_is) ∙ ap (λ (x : Bool). x && walk new (drop (i + 1) inner)) (sym b_is)

-- what the walk gives is the answer
pub decided : (outer inner o i : List ResourceRange) (b : Bool) → AreRanges outer → AreRanges inner → o ≡ outer → i ≡ inner → walk o i ≡ b → (b ≡ true) ↔ Within inner outer
decided outer inner o i b ho hi o_is i_is w =
    let w_is : walk outer inner ≡ b = ap (λ (l : List ResourceRange). walk l inner) (sym o_is) ∙ ap (walk o) (sym i_is) ∙ w in
    ((λ t. walked outer inner ho hi (w_is ∙ t)), (λ h. sym w_is ∙ walks outer inner ho hi h))
