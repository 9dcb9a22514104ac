-- The ROAPayloadSets of VRPs whose AS numbers ascend, the VRPs of one AS after those of another.
use Rattle.std.proofs.Common.{◌≡◌, ◌≢◌, ◌∙◌, ℕ, zero, suc, ◌+◌, ◌<◌, ◌≤◌, Bool, true, false, cond, eqb, ltb, List, [], ◌∷◌, ◌++◌, length, get_or, take, drop, refl, sym, ap, subst, arith, length-append}
use Rattle.std.specs.Prelude.{⊤}
use Rattle.std.specs.List.{AllByRecursion, flat_map}
use Rattle.std.specs.List.Sorted.{IsNonDecreasingBy}
use Rattle.std.proofs.lemmas.Bool.{eq-eqb, ne_eqb, lt-ltb, le-ltb}
use Rattle.std.proofs.lemmas.List.{take-append-drop}
use Rattle.std.proofs.lemmas.List.Elements.{recursion_from_All}
use Rattle.prefixes.specs.Payload.{Payload}
use Rattle.ccr.specs.Canonical.{as_numbers, of_as, payload_set, payload_sets, with_number}
use Rattle.ccr.specs.Runs.{IsFirstRun}

-- ---- AS numbers that ascend

abbrev pub Ascend : List Payload → Type 0
Ascend [] = ⊤
Ascend (v ∷ vs) = AllByRecursion (λ w. v.asn ≤ w.asn) vs × Ascend vs

pub ascend_from : (vs : List Payload) → IsNonDecreasingBy (λ v. v.asn) vs → Ascend vs
ascend_from [] h = tt
ascend_from (v ∷ vs) h = (
  recursion_from_All (λ w. v.asn ≤ w.asn) vs (λ k d low. h 0 (suc k) d (omega arith) (omega (arith, low))),
  ascend_from vs (λ i j d le low. h (suc i) (suc j) d (omega (arith, le)) (omega (arith, low))),
)

ascend_drop : (n : ℕ) (vs : List Payload) → Ascend vs → Ascend (drop n vs)
ascend_drop zero vs h = h
ascend_drop (suc n) [] h = tt
ascend_drop (suc n) (v ∷ vs) h = ascend_drop n vs h.1

-- above one of two numbers
pub weaken : (a b : ℕ) → a < b → (vs : List Payload) → AllByRecursion (λ w. b ≤ w.asn) vs → AllByRecursion (λ w. a < w.asn) vs
weaken a b less [] h = tt
weaken a b less (v ∷ vs) h = (omega (arith, less, h.0), weaken a b less vs h.1)

-- the front has one number
same : (a n : ℕ) (vs : List Payload) → ((k : ℕ) (d : Payload) → k < n → (get_or vs k d).asn ≡ a) → n ≤ length vs → AllByRecursion (λ w. w.asn ≡ a) (take n vs)
same a zero vs h le = tt
same a (suc n) [] h le = absurd (omega (arith, le))
same a (suc n) (v ∷ vs) h le = (h 0 v (omega arith), same a n vs (λ k d low. h (suc k) d (omega (arith, low))) (omega (arith, le)))

-- what is behind it has greater ones
later : (a n : ℕ) (vs : List Payload) → Ascend vs → AllByRecursion (λ w. a ≤ w.asn) vs → ((d : Payload) → n < length vs → (get_or vs n d).asn ≢ a) → AllByRecursion (λ w. a < w.asn) (drop n vs)
later a zero [] s low h = tt
later a zero (v ∷ vs) s low h =
    let other = h v (omega arith) in
    let less : a < v.asn = omega (arith, low.0, other) in
    (less, weaken a v.asn less vs s.0)
later a (suc n) [] s low h = tt
later a (suc n) (v ∷ vs) s low h = later a n vs s.1 low.1 (λ d less. h d (omega (arith, less)))

-- A group at the front, and what is behind it.
pub record IsCut (a : ℕ) (front back : List Payload) : Type 0 where
  pub some : 0 < length front
  pub one : AllByRecursion (λ w. w.asn ≡ a) front
  pub above : AllByRecursion (λ w. a < w.asn) back
  pub ascend : Ascend back

pub cut : (vs : List Payload) (n : ℕ) (d : Payload) → 0 < length vs → Ascend vs → IsFirstRun vs n → (0 < n) × IsCut (get_or vs 0 d).asn (take n vs) (drop n vs)
cut [] n d some s run = absurd (omega (arith, some))
cut (v ∷ vs) zero d some s run = absurd (run.other d (omega arith) refl)
cut (v ∷ vs) (suc n) d some s run = (
  omega arith,
  record {
    some = omega arith;
    one = same v.asn (suc n) (v ∷ vs) (λ k e low. run.same k e low) run.within;
    above = later v.asn (suc n) (v ∷ vs) s (omega arith, s.0) (λ e less. run.other e less);
    ascend = ascend_drop (suc n) (v ∷ vs) s;
  },
)

-- ---- the numbers of the groups

-- one of three lists
three_low : (a n m : ℕ) (ms more : List ℕ) (b c : Bool) → a < n → AllByRecursion (λ k. a < k) (m ∷ ms) → AllByRecursion (λ k. a < k) more → AllByRecursion (λ k. a < k) (cond b (n ∷ m ∷ ms) (cond c (m ∷ ms) (m ∷ more)))
three_low a n m ms more true c less h g = (less, h)
three_low a n m ms more false true less h g = h
three_low a n m ms more false false less h g = (h.0, g)

with_low : (a n : ℕ) (ms : List ℕ) → a < n → AllByRecursion (λ m. a < m) ms → AllByRecursion (λ m. a < m) (with_number n ms)
with_low a n [] less h = (less, tt)
with_low a n (m ∷ ms) less h = three_low a n m ms (with_number n ms) (ltb n m) (eqb n m) less h (with_low a n ms less h.1)

low_numbers : (a : ℕ) (vs : List Payload) → AllByRecursion (λ w. a < w.asn) vs → AllByRecursion (λ n. a < n) (as_numbers vs)
low_numbers a [] h = tt
low_numbers a (v ∷ vs) h = with_low a v.asn (as_numbers vs) h.0 (low_numbers a vs h.1)

first_number : (a : ℕ) (ms : List ℕ) → AllByRecursion (λ n. a < n) ms → with_number a ms ≡ a ∷ ms
first_number a [] h = refl
first_number a (m ∷ ms) h = ap (λ b. cond b (a ∷ m ∷ ms) (cond (eqb a m) (m ∷ ms) (m ∷ with_number a ms))) (lt-ltb a m h.0)

once : (a : ℕ) (ms : List ℕ) → with_number a (a ∷ ms) ≡ a ∷ ms
once a ms =
    ap (λ b. cond b (a ∷ a ∷ ms) (cond (eqb a a) (a ∷ ms) (a ∷ with_number a ms))) (le-ltb a a (omega arith))
    ∙ ap (λ b. cond b (a ∷ ms) (a ∷ with_number a ms)) (eq-eqb a a refl)

numbers_are : (a : ℕ) (v : Payload) (front back : List Payload) → AllByRecursion (λ w. w.asn ≡ a) (v ∷ front) → AllByRecursion (λ n. a < n) (as_numbers back) → as_numbers ((v ∷ front) ++ back) ≡ a ∷ as_numbers back
numbers_are a v [] back h low = ap (λ n. with_number n (as_numbers back)) h.0 ∙ first_number a (as_numbers back) low
numbers_are a v (w ∷ front) back h low = (λ i. with_number (h.0 i) (numbers_are a w front back h.1 low i)) ∙ once a (as_numbers back)

-- ---- the VRPs of the groups

pub none_of : (a : ℕ) (vs : List Payload) → AllByRecursion (λ w. a < w.asn) vs → of_as a vs ≡ []
none_of a [] h = refl
none_of a (v ∷ vs) h = ap (λ b. cond b (v ∷ of_as a vs) (of_as a vs)) (ne_eqb v.asn a (λ e. absurd (omega (arith, e, h.0)))) ∙ none_of a vs h.1

pub front_of : (a : ℕ) (front back : List Payload) → AllByRecursion (λ w. w.asn ≡ a) front → AllByRecursion (λ w. a < w.asn) back → of_as a (front ++ back) ≡ front
front_of a [] back h low = none_of a back low
front_of a (v ∷ vs) back h low =
    ap (λ b. cond b (v ∷ of_as a (vs ++ back)) (of_as a (vs ++ back))) (eq-eqb v.asn a h.0) ∙ ap (λ l. v ∷ l) (front_of a vs back h.1 low)

others : (a b : ℕ) → a < b → (front back : List Payload) → AllByRecursion (λ w. w.asn ≡ a) front → of_as b (front ++ back) ≡ of_as b back
others a b less [] back h = refl
others a b less (v ∷ vs) back h =
    ap (λ t. cond t (v ∷ of_as b (vs ++ back)) (of_as b (vs ++ back))) (ne_eqb v.asn b (λ e. absurd (omega (arith, e, h.0, less)))) ∙ others a b less vs back h.1

same_sets : (f g : ℕ → List ℕ) (a : ℕ) (ns : List ℕ) → AllByRecursion (λ n. a < n) ns → ((b : ℕ) → a < b → f b ≡ g b) → flat_map f ns ≡ flat_map g ns
same_sets f g a [] h e = refl
same_sets f g a (n ∷ ns) h e = λ i. e n h.0 i ++ same_sets f g a ns h.1 e i

-- The sets of all are that of the group, and those of what is behind it.
pub first_set : (a : ℕ) (front back : List Payload) → 0 < length front → AllByRecursion (λ w. w.asn ≡ a) front → AllByRecursion (λ w. a < w.asn) back → payload_sets (front ++ back) ≡ payload_set a front ++ payload_sets back
unfolding payload_sets
first_set a [] back some one above = absurd (omega (arith, some))
first_set a (v ∷ front) back some one above =
    let whole = (v ∷ front) ++ back in
    let low = low_numbers a back above in
    ap (λ ns. flat_map (λ n. payload_set n (of_as n whole)) ns) (numbers_are a v front back one low)
    ∙ (λ i. payload_set a (front_of a (v ∷ front) back one above i)
    ++ same_sets (λ n. payload_set n (of_as n whole)) (λ n. payload_set n (of_as n back)) a (as_numbers back) low (λ b less. ap (payload_set b) (others a b less (v ∷ front) back one)) i)

-- without VRPs there is no set
pub no_sets : payload_sets [] ≡ []
unfolding payload_sets
no_sets = refl

-- What is known of the first run of VRPs and of what is behind it.
pub record IsNext (v : Payload) (vs front back : List Payload) : Type 0 where
  pub sets : payload_sets vs ≡ payload_set v.asn front ++ payload_sets back
  pub ascend : Ascend back
  pub some : 0 < length front
  pub whole : length vs ≡ length front + length back

pub next : (vs : List Payload) (n : ℕ) (v : Payload) (front back : List Payload) → 0 < length vs → Ascend vs → IsFirstRun vs n → v ≡ get_or vs 0 v → front ≡ take n vs → back ≡ drop n vs → IsNext v vs front back
next vs n v front back some s run first front_is back_is =
    let is = (cut vs n v some s run).1 in
    let a = (get_or vs 0 v).asn in
    let parts : vs ≡ take n vs ++ drop n vs = sym (take-append-drop n vs) in
    let sets : payload_sets vs ≡ payload_set a (take n vs) ++ payload_sets (drop n vs) = ap payload_sets parts ∙ first_set a (take n vs) (drop n vs) is.some is.one is.above in
    record {
      sets = sets ∙ (λ i. payload_set (sym first i).asn (sym front_is i) ++ payload_sets (sym back_is i));
      ascend = subst Ascend (sym back_is) is.ascend;
      some = omega (arith, is.some, ap (λ (l : List Payload). length l) front_is);
      whole = omega (arith, ap (λ (l : List Payload). length l) parts, length-append (take n vs) (drop n vs), ap (λ (l : List Payload). length l) front_is, ap (λ (l : List Payload). length l) back_is);
    }

-- a list that is not empty
pub some_of : (vs : List Payload) (b : Bool) → b ≡ eqb (length vs) 0 → b ≡ false → 0 < length vs
some_of [] b is h = absurd (let e : true ≡ false = sym is ∙ h in cc)
some_of (v ∷ vs) b is h = omega arith
