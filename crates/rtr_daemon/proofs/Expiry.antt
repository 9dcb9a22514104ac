-- If no record expires between two seconds, the set of the sources is the same at both.
use Rattle.std.proofs.Common.{◌≡◌, ℕ, suc, ◌+◌, ◌<◌, ◌≤◌, Bool, true, false, cond, nat_lt, List, [], ◌∷◌, None, Some, refl, sym, ap, ◌∙◌, arith}
use Rattle.std.specs.Prelude.{nat_le, not, count_by, slice_get, min, max}
use Rattle.std.proofs.Math.Nat.{min-le_left, min-le_right, le-max_left, le-max_right}
use Rattle.std.specs.FinMap as map
use Rattle.std.specs.Ordering.{nat_cmp}
use Rattle.std.specs.Cmp.Lexicographic.{slice_cmp}
use Rattle.std.proofs.lemmas.Bool.Decides.{nat_tests}
use Rattle.std.proofs.lemmas.List.Sums.{sum_by-cons}
use Rattle.der_lite.specs.Moments.{CivilMoment}
use Rattle.der_lite.specs.Seconds.{seconds_of}
use Rattle.prefixes.specs.Payload.{Payload}
use Rattle.vrps.specs.VrpSet.{VrpSet, listing, set_of, union}
use Rattle.exports.specs.Lasting.{counting as left_at}
use Rattle.points.specs.InUse.{Lists, Payloads, Points, no_points}
use Rattle.sources.specs.Served.{counting_at, excepted_by, narrowed, with_lists}
use Rattle.sources.specs.declared.listed.Listed.{Listed}
use Rattle.sources.specs.declared.sources.Sources.{Sources}
use Rattle.sources.proofs.Ends.{nothing_ends}
use Rattle.rtr_daemon.specs.Serving.{IsServedAt, NoneEnds, SameExpired}

-- how many of these last seconds are before a second
abbrev gone : ℕ → List ℕ → ℕ
gone at lasts = count_by (λ last. nat_lt last at) lasts

abbrev step : Bool → ℕ
step b = cond b 1 0

gone-cons : (at last : ℕ) (lasts : List ℕ) → gone at (last ∷ lasts) ≡ step (nat_lt last at) + gone at lasts
gone-cons at last lasts = sum_by-cons (λ x. cond (nat_lt x at) 1 0) last lasts

step_up : (a b last : ℕ) → a ≤ b → (p q : Bool) → nat_lt last a ≡ p → nat_lt last b ≡ q → step p ≤ step q
step_up a b last le true true e f = omega arith
step_up a b last le false q e f = omega arith
step_up a b last le true false e f =
    let before : last < a = grind (arith, nat_tests) in
    let after : b ≤ last = grind (arith, nat_tests) in
    absurd (omega (arith, before, after, le))

gone_up : (a b : ℕ) → a ≤ b → (lasts : List ℕ) → gone a lasts ≤ gone b lasts
gone_up a b le [] = omega arith
gone_up a b le (last ∷ lasts) = omega (arith, gone-cons a last lasts, gone-cons b last lasts, step_up a b last le (nat_lt last a) (nat_lt last b) refl refl, gone_up a b le lasts)

same_step : (p q : Bool) → step p ≡ step q → p ≡ q
same_step true true e = refl
same_step false false e = refl
same_step true false e = absurd (omega (arith, e))
same_step false true e = absurd (omega (arith, e))

not_before : (last at : ℕ) (b : Bool) → nat_lt last at ≡ b → nat_le at last ≡ not b
not_before last at true e = grind (arith, nat_tests)
not_before last at false e = grind (arith, nat_tests)

same_up : (a b : ℕ) → a ≤ b → (vs : List Payload) (lasts : List ℕ) → gone a lasts ≡ gone b lasts → left_at a vs lasts ≡ left_at b vs lasts
same_up a b le [] lasts e = refl
same_up a b le (v ∷ vs) [] e = refl
same_up a b le (v ∷ vs) (last ∷ lasts) e =
    let one = step_up a b last le (nat_lt last a) (nat_lt last b) refl refl in
    let more = gone_up a b le lasts in
    let steps : step (nat_lt last a) ≡ step (nat_lt last b) = omega (arith, gone-cons a last lasts, gone-cons b last lasts, one, more, e) in
    let others : gone a lasts ≡ gone b lasts = omega (arith, gone-cons a last lasts, gone-cons b last lasts, one, more, e) in
    let test : nat_le a last ≡ nat_le b last = not_before last a (nat_lt last a) refl ∙ ap not (same_step (nat_lt last a) (nat_lt last b) steps) ∙ sym (not_before last b (nat_lt last b) refl) in
    let rest = same_up a b le vs lasts others in
    (λ i. cond (test i) (v ∷ rest i) (rest i))

same_counting : (a b : ℕ) (vs : List Payload) (lasts : List ℕ) → gone a lasts ≡ gone b lasts → left_at a vs lasts ≡ left_at b vs lasts
same_counting a b vs lasts e = by_order (nat_le a b) refl
  where
    by_order : (t : Bool) → nat_le a b ≡ t → left_at a vs lasts ≡ left_at b vs lasts
    by_order true is = let le : a ≤ b = grind (arith, nat_tests) in same_up a b le vs lasts e
    by_order false is = let le : b ≤ a = grind (arith, nat_tests) in sym (same_up b a le vs lasts (sym e))

same_lists : (a b : ℕ) (ls : List Listed) → SameExpired a b ls → (s : VrpSet) → with_lists a s ls ≡ with_lists b s ls
same_lists a b [] h s = refl
same_lists a b (l ∷ ls) h s =
    ap (λ c. with_lists a (union s (set_of c)) ls) (same_counting a b (listing l.set) l.lasts.items (h 0 (omega arith)))
    ∙ same_lists a b ls (λ i lt. h (suc i) (omega (arith, lt))) (union s (counting_at b l))

-- Without publication points no payload of one is in use.
none_used : (points : Points) (now : CivilMoment) (v : Payload) → points ≡ no_points → Payloads points now v → ⊥
none_used points now v none h = let got : map.get no_points h.name ≡ None = map.get-empty (slice_cmp nat_cmp) h.name in let here : map.get no_points h.name ≡ Some h.last = ap (λ ps. map.get ps h.name) (sym none) ∙ h.accepted in cc

none_listed : (used : List Payload) (points : Points) (a b : CivilMoment) → points ≡ no_points → Lists used points a → Lists used points b
none_listed used points a b none h = record { ascending = h.ascending; those = λ v. (λ c. absurd (none_used points a v none ((h.those v).0 c)), λ c. absurd (none_used points b v none c)) }

pub served_later : (before now : ℕ) (s : Sources) (set : VrpSet) → s.repository ≡ no_points → (m : CivilMoment) → seconds_of m ≡ now → SameExpired before now s.lists.items → IsServedAt before s set → IsServedAt now s set
served_later before now s set none m seconds same h = record {
  at = m;
  seconds = seconds;
  served = record {
    used = h.served.used;
    in_use = none_listed h.served.used s.repository h.at m none h.served.in_use;
    is =
        h.served.is
        ∙ ap (λ t. narrowed s.leaves_out (excepted_by s.exceptions t))
        (ap (λ n. with_lists n (set_of h.served.used) s.lists.items) h.seconds ∙ same_lists before now s.lists.items same (set_of h.served.used) ∙ ap (λ n. with_lists n (set_of h.served.used) s.lists.items) (sym seconds));
  };
}

-- If no record ends between two seconds, as many have expired at any two seconds from the first to the last.
pub none_ended : (from to a b : ℕ) (ls : List Listed) → NoneEnds from to ls → from ≤ a → a ≤ to → from ≤ b → b ≤ to → SameExpired a b ls
none_ended from to a b ls none a_low a_high b_low b_high = λ i lt. nothing_ends from to a (slice_get ls i) (none i lt) a_low a_high ∙ sym (nothing_ends from to b (slice_get ls i) (none i lt) b_low b_high)

-- If no record ends from the least to the greatest of three seconds, as many have expired at the second as at the third, and at the first as at the third.
pub none_ended_of : (judged current now least from greatest to : ℕ) (ls : List Listed) → least ≡ min judged current → from ≡ min least now → greatest ≡ max judged current → to ≡ max greatest now → NoneEnds from to ls → SameExpired current now ls × SameExpired judged now ls
none_ended_of judged current now least from greatest to ls e1 e2 e3 e4 none =
    let j_low = min-le_left judged current in
    let c_low = min-le_right judged current in
    let l_low = min-le_left least now in
    let n_low = min-le_right least now in
    let j_high = le-max_left judged current in
    let c_high = le-max_right judged current in
    let g_high = le-max_left greatest now in
    let n_high = le-max_right greatest now in (
      none_ended from to current now ls none (omega (arith, e1, e2, c_low, l_low)) (omega (arith, e3, e4, c_high, g_high)) (omega (arith, e2, n_low)) (omega (arith, e4, n_high)),
      none_ended from to judged now ls none (omega (arith, e1, e2, j_low, l_low)) (omega (arith, e3, e4, j_high, g_high)) (omega (arith, e2, n_low)) (omega (arith, e4, n_high)),
    )
