-- Ranges that have a number in common.
use Rattle.std.proofs.Common.{◌≡◌, ℕ, ◌+◌, ◌<◌, ◌≤◌, Bool, true, false, ◌||◌, leb, List, [], ◌∷◌, length, drop, get_or, inl, inr, ◌↔◌, refl, sym, ap, subst, ◌∙◌, arith}
use Rattle.std.proofs.lemmas.Bool.{leb-true, le-leb, cases_lt, lt-ltb, le-ltb}
use Rattle.std.proofs.lemmas.List.{at_drop_more}
use Rattle.std.proofs.lemmas.List.Elements.{All-head}
use Rattle.resources.specs.declared.range.ResourceRange.{ResourceRange}
use Rattle.resources.specs.Ranges.{AreRanges, Covers, IsIn, Overlap}
use Rattle.resources.specs.Walks.{from_end, begins_in}
use Rattle.resources.proofs.RangeLaws.{IsFull, tail_ranges, later, from_end_ranges, left_in, kept_in}

-- a number of the range is in the others
abbrev Meets : ResourceRange → List ResourceRange → Type 0
Meets r others = (n : ℕ) × IsIn r n × Covers others n

from_later : (n : ℕ) (o : ResourceRange) (more : List ResourceRange) → o.high < n → from_end n (o ∷ more) ≡ from_end n more
from_later n o more lt = rw (lt-ltb o.high n lt) refl

from_here : (n : ℕ) (o : ResourceRange) (more : List ResourceRange) → n ≤ o.high → from_end n (o ∷ more) ≡ o ∷ more
from_here n o more ge = rw (le-ltb o.high n ge) refl

-- the higher of the two beginnings is in both
both : (r o : ResourceRange) (more : List ResourceRange) → r.low ≤ r.high → o.low ≤ o.high → r.low ≤ o.high → o.low ≤ r.high → Meets r (o ∷ more)
both r o more full other ge first =
    elim (cases_lt o.low r.low) [
      | inl lt ↦ (r.low, (omega arith, full), inl (omega (arith, lt), ge))
      | inr le ↦ (o.low, (le, first), inl (omega arith, other))
    ]

found : (r : ResourceRange) (others : List ResourceRange) → r.low ≤ r.high → AreRanges others → begins_in r (from_end r.low others) ≡ true → Meets r others
found r [] full h b = absurd cc
found r (o ∷ more) full h b =
    elim (cases_lt o.high r.low) [
      | inl lt ↦
          let m = found r more full (tail_ranges o more h) (subst (λ (l : List ResourceRange). begins_in r l ≡ true) (from_later r.low o more lt) b) in
          (m.0, m.1, inr m.2)
      | inr ge ↦
          let first = leb-true o.low r.high (subst (λ (l : List ResourceRange). begins_in r l ≡ true) (from_here r.low o more ge) b) in
          both r o more full (All-head IsFull o more h.full) ge first
    ]

-- a number behind the first range is in the rest
in_more : (n : ℕ) (o : ResourceRange) (more : List ResourceRange) → o.high < n → Covers (o ∷ more) n → Covers more n
in_more n o more lt (inl here) = absurd (omega (arith, lt, here.1))
in_more n o more lt (inr there) = there

begun : (r : ResourceRange) (others : List ResourceRange) → AreRanges others → (n : ℕ) → IsIn r n → Covers others n → begins_in r (from_end r.low others) ≡ true
begun r [] h n i c = absurd c
begun r (o ∷ more) h n i c =
    elim (cases_lt o.high r.low) [
      | inl lt ↦ subst (λ (l : List ResourceRange). begins_in r l ≡ true) (sym (from_later r.low o more lt))
          (begun r more (tail_ranges o more h) n i (in_more n o more (omega (arith, lt, i.0)) c))
      | inr ge ↦ subst (λ (l : List ResourceRange). begins_in r l ≡ true) (sym (from_here r.low o more ge)) (first c)
    ]
  where
    first : Covers (o ∷ more) n → leb o.low r.high ≡ true
    first (inl here) = le-leb o.low r.high (omega (arith, here.0, i.1))
    first (inr there) = le-leb o.low r.high (omega (arith, All-head IsFull o more h.full, later o more n h there, i.1))

-- each range in its turn is looked for in what is left of the others
abbrev pub meet : List ResourceRange → List ResourceRange → Bool
meet others [] = false
meet others (r ∷ more) = begins_in r (from_end r.low others) || meet (from_end r.low others) more

or_true : (a b : Bool) → b ≡ true → (a || b) ≡ true
or_true true b h = refl
or_true false b h = h

-- the first range is found, or the rest decides
meets_by : (others : List ResourceRange) (r : ResourceRange) (more : List ResourceRange) → r.low ≤ r.high → AreRanges others → (x : Bool) → begins_in r (from_end r.low others) ≡ x
    → (x || meet (from_end r.low others) more) ≡ true → (meet (from_end r.low others) more ≡ true → Overlap more (from_end r.low others)) → Overlap (r ∷ more) others
meets_by others r more full ho true b m rest = let f = found r others full ho b in (f.0, inl f.1, f.2)
meets_by others r more full ho false b m rest = let f = rest m in (f.0, inr f.1, left_in r.low others f.0 f.2)

meets : (others ranges : List ResourceRange) → AreRanges others → AreRanges ranges → meet others ranges ≡ true → Overlap ranges others
meets others [] ho hr m = absurd cc
meets others (r ∷ more) ho hr m =
    meets_by others r more (All-head IsFull r more hr.full) ho (begins_in r (from_end r.low others)) refl m
    (λ t. meets (from_end r.low others) more (from_end_ranges r.low others ho) (tail_ranges r more hr) t)

met : (others ranges : List ResourceRange) → AreRanges others → AreRanges ranges → (n : ℕ) → Covers ranges n → Covers others n → meet others ranges ≡ true
met others [] ho hr n c d = absurd c
met others (r ∷ more) ho hr n (inl here) d = rw (begun r others ho n here d) refl
met others (r ∷ more) ho hr n (inr there) d =
    let full = All-head IsFull r more hr.full in
    or_true (begins_in r (from_end r.low others)) (meet (from_end r.low others) more)
    (met (from_end r.low others) more (from_end_ranges r.low others ho) (tail_ranges r more hr) n there
    (kept_in r.low others n (omega (arith, full, later r more n hr there)) d))

-- a range more
pub meet_on : (rest ranges new : List ResourceRange) (i : ℕ) (d : ResourceRange) (b : Bool) → i < length ranges → new ≡ from_end (get_or ranges i d).low rest → b ≡ begins_in (get_or ranges i d) new
    → meet rest (drop i ranges) ≡ (b || meet new (drop (i + 1) ranges))
meet_on rest ranges new i d b lt new_is b_is =
    let r : ResourceRange = get_or ranges i d in
    at_drop_more (meet rest) ranges i d lt ∙ ap (λ (l : List ResourceRange). begins_in r l || meet l (drop (i + 1) ranges)) (sym new_is) ∙ ap (λ (x : Bool). x || meet new (drop (i + 1) ranges)) (sym b_is)

-- what the walk gives is the answer
pub meeting : (others ranges o i : List ResourceRange) (b : Bool) → AreRanges others → AreRanges ranges → o ≡ others → i ≡ ranges → meet o i ≡ b → (b ≡ true) ↔ Overlap ranges others
meeting others ranges o i b ho hi o_is i_is w =
    let w_is : meet others ranges ≡ b = ap (λ (l : List ResourceRange). meet l ranges) (sym o_is) ∙ ap (meet o) (sym i_is) ∙ w in
    ((λ t. meets others ranges ho hi (w_is ∙ t)), (λ h. sym w_is ∙ met others ranges ho hi h.0 h.1 h.2))
