-- A range more among ranges.
use Rattle.std.proofs.Common.{◌≡◌, ℕ, ◌+◌, ◌<◌, ◌≤◌, Bool, true, false, ◌&&◌, ltb, List, [], ◌∷◌, ◌++◌, Option, Some, None, inl, inr, ◌↔◌, ◌⊎◌, refl, sym, ap, subst, ◌∙◌, arith}
use Rattle.std.specs.List.{All}
use Rattle.std.proofs.lemmas.Bool.{and_parts, ltb-true, cases_lt, lt-ltb, le-ltb}
use Rattle.std.proofs.lemmas.List.Elements.{All-head, All-tail, All-cons}
use Rattle.resources.specs.declared.range.ResourceRange.{ResourceRange}
use Rattle.resources.specs.Ranges.{AreRanges, Covers, IsIn, is_after}
use Rattle.resources.specs.Walks.{hull, merged}
use Rattle.resources.proofs.RangeLaws.{IsFull, follow, follow_is}

-- ---- which of two ranges comes first

pub merged_none : (r : ResourceRange) → merged r [] ≡ r ∷ []
unfolding merged
merged_none r = refl

pub merged_first : (r o : ResourceRange) (more : List ResourceRange) → ltb (r.high + 1) o.low ≡ true → merged r (o ∷ more) ≡ r ∷ merged o more
unfolding merged
merged_first r o more h = rw (h) refl

pub merged_second : (r o : ResourceRange) (more : List ResourceRange) → ltb (r.high + 1) o.low ≡ false → ltb (o.high + 1) r.low ≡ true → merged r (o ∷ more) ≡ o ∷ merged r more
unfolding merged
merged_second r o more h k = rw (h, k) refl

pub merged_joined : (r o : ResourceRange) (more : List ResourceRange) → ltb (r.high + 1) o.low ≡ false → ltb (o.high + 1) r.low ≡ false → merged r (o ∷ more) ≡ merged (hull r o) more
unfolding merged
merged_joined r o more h k = rw (h, k) refl

-- what is written, and one more
pub on_end : (done : List ResourceRange) (r : ResourceRange) (rest : List ResourceRange) → (done ++ r ∷ []) ++ rest ≡ done ++ r ∷ rest
on_end [] r rest = refl
on_end (d ∷ done) r rest = ap (λ (l : List ResourceRange). d ∷ l) (on_end done r rest)

-- ---- the range of two

record IsHull (a b h : ResourceRange) : Type 0 where
  pub low : (h.low ≤ a.low) × (h.low ≤ b.low)
  pub high : (a.high ≤ h.high) × (b.high ≤ h.high)
  pub one_low : (h.low ≡ a.low) ⊎ (h.low ≡ b.low)
  pub one_high : (h.high ≡ a.high) ⊎ (h.high ≡ b.high)

hull_is : (a b : ResourceRange) → IsHull a b (hull a b)
hull_is a b = record {
  low = (omega arith, omega arith);
  high = (omega arith, omega arith);
  one_low = elim (cases_lt b.low a.low) [ inl lt ↦ inr (omega (arith, lt)) | inr ge ↦ inl (omega (arith, ge)) ];
  one_high = elim (cases_lt a.high b.high) [ inl gt ↦ inr (omega (arith, gt)) | inr le ↦ inl (omega (arith, le)) ];
}

hull_full : (a b h : ResourceRange) → IsHull a b h → a.low ≤ a.high → h.low ≤ h.high
hull_full a b h is full = omega (arith, is.low.0, is.high.0, full)

-- two ranges that overlap or touch leave no gap
hull_in : (a b h : ResourceRange) → IsHull a b h → b.low ≤ a.high + 1 → a.low ≤ b.high + 1 → (n : ℕ) → IsIn h n → IsIn a n ⊎ IsIn b n
hull_in a b h is left right n i =
    elim (cases_lt a.high n) [
      | inl behind ↦ inr (omega (arith, left, behind), end is.one_high behind)
      | inr le ↦ elim (cases_lt n a.low) [
        | inl before ↦ inr (begin is.one_low before, omega (arith, right, before))
        | inr ge ↦ inl (ge, le)
      ]
    ]
  where
    end : (h.high ≡ a.high) ⊎ (h.high ≡ b.high) → a.high < n → n ≤ b.high
    end (inl e) behind = absurd (omega (arith, e, behind, i.1))
    end (inr e) behind = omega (arith, e, i.1)

    begin : (h.low ≡ a.low) ⊎ (h.low ≡ b.low) → n < a.low → b.low ≤ n
    begin (inl e) before = absurd (omega (arith, e, before, i.0))
    begin (inr e) before = omega (arith, e, i.0)

in_hull : (a b h : ResourceRange) → IsHull a b h → (n : ℕ) → IsIn a n ⊎ IsIn b n → IsIn h n
in_hull a b h is n (inl i) = (omega (arith, is.low.0, i.0), omega (arith, is.high.0, i.1))
in_hull a b h is n (inr i) = (omega (arith, is.low.1, i.0), omega (arith, is.high.1, i.1))

-- ---- which numbers there are

or_left : {A B C : Type 0} → (B → C) → A ⊎ B → A ⊎ C
or_left f (inl a) = inl a
or_left f (inr b) = inr (f b)

swapped : {A B C : Type 0} → A ⊎ (B ⊎ C) → B ⊎ (A ⊎ C)
swapped (inl a) = inr (inl a)
swapped (inr (inl b)) = inl b
swapped (inr (inr c)) = inr (inr c)

grouped : {A B C H : Type 0} → (A ⊎ B → H) → A ⊎ (B ⊎ C) → H ⊎ C
grouped f (inl a) = inl (f (inl a))
grouped f (inr (inl b)) = inl (f (inr b))
grouped f (inr (inr c)) = inr c

parted : {A B C H : Type 0} → (H → A ⊎ B) → H ⊎ C → A ⊎ (B ⊎ C)
parted f (inr c) = inr (inr c)
parted f (inl h) = elim (f h) [
  | inl a ↦ inl a
  | inr b ↦ inr (inl b)
]

pub merged_covers : (r : ResourceRange) (ranges : List ResourceRange) (n : ℕ) → (Covers (merged r ranges) n) ↔ (IsIn r n ⊎ Covers ranges n)
merged_covers r [] n = subst (λ (l : List ResourceRange). (Covers l n) ↔ (IsIn r n ⊎ Covers [] n)) (sym (merged_none r)) ((λ c. c), (λ c. c))
merged_covers r (o ∷ more) n =
    let P : List ResourceRange → Type 0 = λ l. (Covers l n) ↔ (IsIn r n ⊎ Covers (o ∷ more) n) in
    elim (cases_lt (r.high + 1) o.low) [
      | inl lt ↦
          let ih = merged_covers o more n in
          subst P (sym (merged_first r o more (lt-ltb (r.high + 1) o.low lt))) (or_left ih.0, or_left ih.1)
      | inr ge ↦ elim (cases_lt (o.high + 1) r.low) [
        | inl lt ↦
            let ih = merged_covers r more n in
            subst P (sym (merged_second r o more (le-ltb (r.high + 1) o.low ge) (lt-ltb (o.high + 1) r.low lt))) ((λ c. swapped (or_left ih.0 c)), (λ c. or_left ih.1 (swapped c)))
        | inr le ↦
            let ih = merged_covers (hull r o) more n in
            let is = hull_is r o in
            subst P (sym (merged_joined r o more (le-ltb (r.high + 1) o.low ge) (le-ltb (o.high + 1) r.low le)))
            ((λ c. parted (hull_in r o (hull r o) is ge le n) (ih.0 c)), (λ c. ih.1 (grouped (in_hull r o (hull r o) is n) c)))
      ]
    ]

-- ---- in which order

-- an end is no higher than this number
abbrev Under : Option ℕ → ℕ → Type 0
Under None high = Unit {0}
Under (Some end) high = end ≤ high

under_after : (end : Option ℕ) (o : ResourceRange) → is_after end o ≡ true → o.low ≤ o.high → Under end o.high
under_after None o h full = tt
under_after (Some e) o h full = omega (arith, ltb-true (e + 1) o.low h, full)

after_under : (end : Option ℕ) (high : ℕ) (o : ResourceRange) → Under end high → ltb (high + 1) o.low ≡ true → is_after end o ≡ true
after_under None high o u h = refl
after_under (Some e) high o u h = lt-ltb (e + 1) o.low (omega (arith, u, ltb-true (high + 1) o.low h))

after_hull : (end : Option ℕ) (a b h : ResourceRange) → IsHull a b h → is_after end a ≡ true → is_after end b ≡ true → is_after end h ≡ true
after_hull None a b h is x y = refl
after_hull (Some e) a b h is x y =
    elim is.one_low [
      | inl l ↦ lt-ltb (e + 1) h.low (omega (arith, l, ltb-true (e + 1) a.low x))
      | inr l ↦ lt-ltb (e + 1) h.low (omega (arith, l, ltb-true (e + 1) b.low y))
    ]

both_true : (a b : Bool) → a ≡ true → b ≡ true → (a && b) ≡ true
both_true a b h k = rw (h) k

looser : (end : Option ℕ) (high : ℕ) (ranges : List ResourceRange) → Under end high → follow (Some high) ranges ≡ true → follow end ranges ≡ true
looser end high [] u f = refl
looser end high (p ∷ rest) u f =
    let parts = and_parts (ltb (high + 1) p.low) (follow (Some p.high) rest) f in
    both_true (is_after end p) (follow (Some p.high) rest) (after_under end high p u parts.0) parts.1

merged_follow : (end : Option ℕ) (r : ResourceRange) (ranges : List ResourceRange) → r.low ≤ r.high → All IsFull ranges → is_after end r ≡ true → follow end ranges ≡ true → follow end (merged r ranges) ≡ true
merged_follow end r [] full all a f = subst (λ (l : List ResourceRange). follow end l ≡ true) (sym (merged_none r)) (both_true (is_after end r) true a refl)
merged_follow end r (o ∷ more) full all a f =
    let P : List ResourceRange → Type 0 = λ l. follow end l ≡ true in
    let parts = and_parts (is_after end o) (follow (Some o.high) more) f in
    let o_full = All-head IsFull o more all in
    let others = All-tail IsFull o more all in
    elim (cases_lt (r.high + 1) o.low) [
      | inl lt ↦
          let gap = lt-ltb (r.high + 1) o.low lt in
          let rest = merged_follow (Some r.high) o more o_full others gap (looser (Some r.high) o.high more (omega (arith, lt, o_full)) parts.1) in
          subst P (sym (merged_first r o more gap)) (both_true (is_after end r) (follow (Some r.high) (merged o more)) a rest)
      | inr ge ↦ elim (cases_lt (o.high + 1) r.low) [
        | inl lt ↦
            let gap = lt-ltb (o.high + 1) r.low lt in
            let rest = merged_follow (Some o.high) r more full others gap parts.1 in
            subst P (sym (merged_second r o more (le-ltb (r.high + 1) o.low ge) gap)) (both_true (is_after end o) (follow (Some o.high) (merged r more)) parts.0 rest)
        | inr le ↦
            let is = hull_is r o in
            let rest = merged_follow end (hull r o) more (hull_full r o (hull r o) is full) others (after_hull end r o (hull r o) is a parts.0) (looser end o.high more (under_after end o parts.0 o_full) parts.1) in
            subst P (sym (merged_joined r o more (le-ltb (r.high + 1) o.low ge) (le-ltb (o.high + 1) r.low le))) rest
      ]
    ]

merged_full : (r : ResourceRange) (ranges : List ResourceRange) → r.low ≤ r.high → All IsFull ranges → All IsFull (merged r ranges)
merged_full r [] full all = subst (All IsFull) (sym (merged_none r)) (All-cons IsFull r [] full all)
merged_full r (o ∷ more) full all =
    let o_full = All-head IsFull o more all in
    let others = All-tail IsFull o more all in
    elim (cases_lt (r.high + 1) o.low) [
      | inl lt ↦ subst (All IsFull) (sym (merged_first r o more (lt-ltb (r.high + 1) o.low lt))) (All-cons IsFull r (merged o more) full (merged_full o more o_full others))
      | inr ge ↦ elim (cases_lt (o.high + 1) r.low) [
        | inl lt ↦ subst (All IsFull) (sym (merged_second r o more (le-ltb (r.high + 1) o.low ge) (lt-ltb (o.high + 1) r.low lt))) (All-cons IsFull o (merged r more) o_full (merged_full r more full others))
        | inr le ↦ subst (All IsFull) (sym (merged_joined r o more (le-ltb (r.high + 1) o.low ge) (le-ltb (o.high + 1) r.low le)))
            (merged_full (hull r o) more (hull_full r o (hull r o) (hull_is r o) full) others)
      ]
    ]

pub merged_ranges : (r : ResourceRange) (ranges : List ResourceRange) → r.low ≤ r.high → AreRanges ranges → AreRanges (merged r ranges)
merged_ranges r ranges full h = record {
  full = merged_full r ranges full h.full;
  apart = follow_is (merged r ranges) ∙ merged_follow None r ranges full h.full refl (sym (follow_is ranges) ∙ h.apart);
}

-- a range without numbers adds none
pub none_added : (r : ResourceRange) (ranges same : List ResourceRange) (n : ℕ) → r.high < r.low → same ≡ ranges → (Covers same n) ↔ (IsIn r n ⊎ Covers ranges n)
none_added r ranges same n empty is = ((λ c. inr (subst (λ (l : List ResourceRange). Covers l n) is c)), back)
  where
    back : IsIn r n ⊎ Covers ranges n → Covers same n
    back (inl i) = absurd (omega (arith, empty, i.0, i.1))
    back (inr c) = subst (λ (l : List ResourceRange). Covers l n) (sym is) c
