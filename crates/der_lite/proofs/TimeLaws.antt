-- Reading a GeneralizedTime gives the moment that the grammar says.
use Rattle.std.proofs.Common.{◌≡◌, ℕ, Bool, true, false, not, List, [], ◌∷◌, get_or, Result, Ok, Err, refl, sym, ap, ◌∙◌, ◌⊎◌, inl, inr}
use Rattle.std.specs.Ordering.{ordering_reverse, nat_cmp, is_eq, is_lt, is_le}
use Rattle.std.specs.declared.cmp.Ordering.{Ordering}
use Rattle.std.specs.declared.cmp.Ordering.TheVariants.{Less, Equal, Greater}
use Rattle.std.specs.Cmp.{IsTotalOrder, nat_cmp_total}
use Rattle.std.specs.Cmp.Lexicographic.{slice_cmp, lists_total}
use Rattle.std.proofs.lemmas.Bool.{not-false}
use Rattle.std.proofs.lemmas.Map.Text.{is_eq-slice_cmp}
use Rattle.std.proofs.lemmas.Slice.Eq.{bytes_eq-Decides}
use Rattle.der_lite.specs.Place.{Place, Fault}
use Rattle.der_lite.specs.Der.{tlv, head_rules}
use Rattle.der_lite.specs.Moments.{CivilMoment, told_moment, numbers_of, moment_cmp, moment_before, moment_of, is_time, TimeSpells}
use Rattle.der_lite.specs.Grammar.{primitive}
use Rattle.der_lite.specs.DerReading.{◌>>=◌, judged, element_at, content_at, time_at}
use Rattle.der_lite.specs.Decoding.{ReadContent, read_element, read_primitive}
use Rattle.der_lite.specs.Times.{time_rules, timed, timed_at}
use Rattle.der_lite.proofs.Rules.{judged-bind, kept_first}
use Rattle.der_lite.proofs.Exact.{ExactElement, exact_element, exact_primitive}
use Rattle.der_lite.proofs.Once.{Once}
use Rattle.der_lite.proofs.ContentReads.{usual_head, element_is, exact_along}
use Rattle.der_lite.proofs.MomentLaws.{time_is, spelled_is}

module _ (rules : CivilMoment → List (ℕ × Bool)) where
  -- the content as the grammar reads it
  read_time : ReadContent CivilMoment
  read_time = read_primitive (time_rules rules) moment_of

  -- a moment, and what is behind its element
  with_next : Place → CivilMoment → Result (CivilMoment × Place) Fault
  with_next next m = Ok (m, next)

  -- the moment of a content, as the cursor gives it
  given : List ℕ × Place → Result (CivilMoment × Place) Fault
  given x = Ok (moment_of x.0, x.1)

  -- the content of an element that was found
  content_of : ℕ → Place × Place → Result (List ℕ × Place) Fault
  content_of at x = judged ((4, not (is_time x.0.rest)) ∷ []) at (Ok (x.0.rest, x.1))

  -- the rules behind it
  ruled : ℕ → CivilMoment × Place → Result (CivilMoment × Place) Fault
  ruled at x = judged (rules x.0) at (Ok x)

  -- judged at once or in two steps
  in_two_steps : (at : ℕ) (inner : List ℕ) (next : Place) (time : Bool)
      → (judged ((4, not time) ∷ rules (moment_of inner)) at (Ok (moment_of inner)) >>= with_next next)
      ≡ ((judged ((4, not time) ∷ []) at (Ok (inner, next)) >>= given) >>= ruled at)
  unfolding with_next given ruled
  in_two_steps at inner next true = judged-bind (rules (moment_of inner)) at (Ok (moment_of inner)) (with_next next)
  in_two_steps at inner next false = refl

  -- an element that was found, or its fault
  from_element : (at : ℕ) (r : Result (Place × Place) Fault)
      → (r >>= λ x. read_time at x.0 >>= with_next x.1) ≡ (((r >>= content_of at) >>= given) >>= ruled at)
  unfolding read_time content_of
  from_element at (Ok x) = in_two_steps at x.0.rest x.1 (is_time x.0.rest)
  from_element at (Err e) = refl

  -- the element as the cursor reads it, and then its rules
  timed_is : (p : Place) → read_element (head_rules 24) read_time p ≡ timed_at rules p
  unfolding time_at content_at read_time with_next given content_of ruled
  timed_is p = element_is 24 read_time p ∙ from_element p.at (element_at 24 p)

  -- reading it is exact
  pub exact_timed : ExactElement (timed rules) (timed_at rules)
  unfolding read_time
  exact_timed =
      let c = exact_primitive TimeSpells (time_rules rules) moment_of
      (λ inner bytes kept. time_is inner (not-false (is_time inner) (kept_first 4 (not (is_time inner)) (rules (moment_of inner)) kept).0))
      (λ inner v kept s. (spelled_is inner v s).1) in
      exact_along (timed rules) (read_element (head_rules 24) read_time) (timed_at rules) timed_is
      (exact_element 24 (head_rules 24) (primitive TimeSpells (time_rules rules)) read_time (usual_head 24) c)

  -- a moment has one spelling
  pub spelled_once : (m : CivilMoment) (a b : List ℕ) → (timed rules).Spells m a → (timed rules).Spells m b → a ≡ b
  spelled_once m a b s t = s.1.spelled ∙ ap (λ (l : List ℕ). tlv 24 l) (s.2.0.text ∙ sym t.2.0.text) ∙ sym t.1.spelled

  -- as a member of a grammar, too
  pub once_timed : Once (timed rules).Spells
  once_timed m a b ba bb s t = spelled_once m a b s t

-- without rules, what is read is what the cursor reads
timed_alone : (p : Place) → timed_at (λ m. []) p ≡ time_at p
timed_alone p = alone (time_at p)
  where
    alone : (r : Result (CivilMoment × Place) Fault) → (r >>= λ x. judged [] p.at (Ok x)) ≡ r
    alone (Ok x) = refl
    alone (Err e) = refl

-- so the cursor's own reading is exact
pub exact_time : ExactElement (timed (λ m. [])) time_at
exact_time = exact_along (timed (λ m. [])) (timed_at (λ m. [])) time_at timed_alone (exact_timed (λ m. []))

-- ---- order

-- the order is total
total : IsTotalOrder (slice_cmp nat_cmp)
total = lists_total nat_cmp_total

reversed : (o : Ordering) → is_le (ordering_reverse o) ≡ not (is_lt o)
reversed Less = refl
reversed Equal = refl
reversed Greater = refl

-- what is less, by the test
less_is : (o : Ordering) → is_lt o ≡ true → o ≡ Less
less_is Less h = refl
less_is Equal h = absurd cc
less_is Greater h = absurd cc

-- no order of a thing with itself
itself : (o : Ordering) → o ≡ ordering_reverse o → is_lt o ≡ true → ⊥
itself Less e h = absurd cc
itself Equal e h = absurd cc
itself Greater e h = absurd cc

-- no moment is before itself
pub not_before_itself : (m : CivilMoment) → ¬ (moment_before m m ≡ true)
unfolding moment_before
not_before_itself m h = itself (moment_cmp m m) (total.antisymm (numbers_of m) (numbers_of m)) h

-- a moment is before those behind later ones
pub before_chain : (m n k : CivilMoment) → moment_before m n ≡ true → moment_before n k ≡ true → moment_before m k ≡ true
unfolding moment_before
before_chain m n k h g = ap is_lt (total.trans (numbers_of m) (numbers_of n) (numbers_of k) (less_is (moment_cmp m n) h) (less_is (moment_cmp n k) g))

-- moments of the same numbers are one
pub same_moment : (m n : CivilMoment) → numbers_of m ≡ numbers_of n → m ≡ n
same_moment m n same = λ i. told_moment (get_or (same i) 0 0) (get_or (same i) 1 0) (get_or (same i) 2 0) (get_or (same i) 3 0) (get_or (same i) 4 0) (get_or (same i) 5 0)

-- and those that tie
tied : (m n : CivilMoment) → moment_cmp m n ≡ Equal → m ≡ n
tied m n h = same_moment m n ((bytes_eq-Decides (numbers_of m) (numbers_of n)).0 (sym (is_eq-slice_cmp (numbers_of m) (numbers_of n)) ∙ ap is_eq h))

-- of two moments that differ one is before the other
pub one_before : (m n : CivilMoment) → (m ≡ n) ⊎ (moment_before m n ≡ true) ⊎ (moment_before n m ≡ true)
unfolding moment_before
one_before m n = by_order (moment_cmp m n) refl
  where
    by_order : (o : Ordering) → moment_cmp m n ≡ o → (m ≡ n) ⊎ (is_lt (moment_cmp m n) ≡ true) ⊎ (is_lt (moment_cmp n m) ≡ true)
    by_order Less e = inr (inl (ap is_lt e))
    by_order Equal e = inl (tied m n e)
    by_order Greater e = inr (inr (ap is_lt (total.antisymm (numbers_of n) (numbers_of m) ∙ ap ordering_reverse e)))
