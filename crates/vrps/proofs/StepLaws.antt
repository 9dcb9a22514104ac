-- What steps from version to version satisfy.
use Rattle.std.proofs.Common.{◌≡◌, ◌≢◌, ◌∙◌, inl, inr, ℕ, zero, suc, ◌+◌, ◌-◌, ◌%◌, ◌<◌, ◌≤◌, Bool, true, false, not, ◌&&◌, List, [], ◌∷◌, length, get_or, take, reverse, Option, Some, None, ap, sym, subst, refl, arith}
use Rattle.std.specs.Prelude.{nat_lt, slice_get, if◌then◌else◌}
use Rattle.std.specs.FinMap as map
use Rattle.std.proofs.Math.Bool.{and-true}
use Rattle.std.proofs.lemmas.Bool.Decides.{nat_tests}
use Rattle.prefixes.specs.Payload.{Payload, vrp_cmp}
use Rattle.std.proofs.lemmas.Bool.{cases_lt}
use Rattle.std.proofs.lemmas.List.{get_or-reverse, get_or_default, length-reverse}
use Rattle.vrps.specs.Change.{between}
use Rattle.vrps.specs.Instance.{Instance, versions_from}
use Rattle.vrps.specs.Merging.{AreLists, AreMerged}
use Rattle.vrps.specs.Steps.{AreSteps, HoldsSteps, Steps, back, back_to, newest_set, steps_of}
use Rattle.vrps.specs.Store.{Known, Unknown, is_current, is_same, published, since}
use Rattle.vrps.specs.VrpSet.{VrpSet, IsListing, IsVrpSet, empty, has, listing, set_of, size, union, without}
use Rattle.vrps.specs.Walk.{led, left_out}
use Rattle.vrps.specs.Wholes.{HoldsSets, IsBehind}
use Rattle.vrps.specs.declared.change.Change.{Change}
use Rattle.vrps.specs.declared.merge.Lists.{Lists}
use Rattle.vrps.proofs.Listed.{lists, part_is_set, size_of_listing}
use Rattle.vrps.proofs.SetLaws.{apply-between, has-empty, has-without, merge-between, same_set, set_of-listing}
use Rattle.vrps.proofs.SetVersions.{same_exactly}
use Rattle.vrps.proofs.WholeLaws.{knows, knows_not}
use Rattle.prefixes.proofs.Basics.{false_if_never}

-- The set before the step between two sets is the first of them.
pub back_between : (s t : VrpSet) → back (between s t) t ≡ s
back_between s t = apply-between t s

pub steps_more : (now set : VrpSet) (steps : List Change) → IsVrpSet now → AreSteps now steps → AreSteps set (between now set ∷ steps)
steps_more now set steps fits h =
    let is = sym (back_between now set) in
    (subst (λ x. IsVrpSet x) is fits, ap (λ x. between x set) is, subst (λ x. AreSteps x steps) is h)

pub steps_take : (k : ℕ) (set : VrpSet) (steps : List Change) → AreSteps set steps → AreSteps set (take k steps)
steps_take zero set steps h = tt
steps_take (suc k) set [] h = tt
steps_take (suc k) set (step ∷ older) h = (h.0, h.1, steps_take k (back step set) older h.2)

pub steps_fit : (k : ℕ) (set : VrpSet) (steps : List Change) → IsVrpSet set → AreSteps set steps → IsVrpSet (back_to (take k steps) set)
steps_fit zero set steps fits h = fits
steps_fit (suc k) set [] fits h = fits
steps_fit (suc k) set (step ∷ older) fits h = steps_fit k (back step set) older h.0 h.2

-- a step leads from the set before it to the set after it
pub step_at : (k : ℕ) (set : VrpSet) (steps : List Change) (d : Change) → AreSteps set steps → k < length steps → get_or steps k d ≡ between (back_to (take (k + 1) steps) set) (back_to (take k steps) set)
step_at k set [] d h low = absurd (omega (arith, low))
step_at zero set (step ∷ older) d h low = h.1
step_at (suc k) set (step ∷ older) d h low =
    let next : suc k + 1 ≡ suc (k + 1) = omega arith in
    step_at k (back step set) older d h.2 (omega (arith, low)) ∙ ap (λ n. between (back_to (take n (step ∷ older)) set) (back_to (take k older) (back step set))) (sym next)

nothing_left : (s : VrpSet) → listing (without s s) ≡ []
nothing_left s = ap listing (same_set (without s s) empty (λ q. has-without s s q ∙ both (has s q) ∙ sym (has-empty q))) ∙ no_keys
  where
    both : (b : Bool) → (b && not b) ≡ false
    both true = refl
    both false = refl

    no_keys : listing empty ≡ []
    no_keys = none_listed (listing empty) (size_of_listing empty ∙ size_empty)
      where
        size_empty : size empty ≡ 0
        size_empty = map.len-empty vrp_cmp (Unit {0})

        none_listed : (vs : List Payload) → length vs ≡ 0 → vs ≡ []
        none_listed [] e = refl
        none_listed (v ∷ vs) e = absurd (omega (arith, e))

-- from a set to itself there is no change
pub no_change : (s : VrpSet) (ls : Lists) → ls.withdraw.items ≡ [] → ls.announce.items ≡ [] → AreLists ls (between s s)
no_change s ls w a = record { withdraw = w ∙ sym (nothing_left s); announce = a ∙ sym (nothing_left s) }

without_none : (s : VrpSet) → without s (set_of []) ≡ s
without_none s = same_set _ _ (λ q. has-without s (set_of []) q ∙ ap (λ b. has s q && not b) (has-empty q) ∙ and-true (has s q))

left_out_sets : (a b : VrpSet) → left_out (listing a) (listing b) ≡ listing (without a b)
left_out_sets a b = λ i. listing (without (set_of-listing a i) (set_of-listing b i))

united_sets : (a b : VrpSet) → led (listing a) [] (listing b) ≡ listing (union a b)
united_sets a b = (λ i. listing (union (without (set_of-listing a i) (set_of [])) (set_of-listing b i))) ∙ ap (λ x. listing (union x b)) (without_none a)

-- The lists of changes in a row, merged, are those of the change between the ends.
pub merged_lists : (s t u : VrpSet) (older newer ls : Lists) → AreLists older (between s t) → AreLists newer (between t u) → AreMerged older newer ls → AreLists ls (between s u)
merged_lists s t u older newer ls o n m =
    let is = merge-between s t u in
    record {
      withdraw = m.withdraw ∙ (λ i. led (left_out (o.withdraw i) (n.announce i)) [] (left_out (n.withdraw i) (o.announce i)))
          ∙ (λ i. led (left_out_sets (without s t) (without u t) i) [] (left_out_sets (without t u) (without t s) i))
          ∙ united_sets (without (without s t) (without u t)) (without (without t u) (without t s)) ∙ ap (λ c. listing c.withdraw) is;
      announce = m.announce ∙ (λ i. led (left_out (o.announce i) (n.withdraw i)) [] (left_out (n.announce i) (o.withdraw i)))
          ∙ (λ i. led (left_out_sets (without t s) (without t u) i) [] (left_out_sets (without u t) (without s t) i))
          ∙ united_sets (without (without t s) (without t u)) (without (without u t) (without s t)) ∙ ap (λ c. listing c.announce) is;
    }

-- lists of a change between sets that can be published are listings
pub fit_listings : (s t : VrpSet) (ls : Lists) → IsVrpSet s → IsVrpSet t → AreLists ls (between s t) → IsListing ls.withdraw.items × IsListing ls.announce.items
fit_listings s t ls h k are = (
  subst (λ l. IsListing l) (sym are.withdraw) (lists (without s t) (part_is_set s t h)),
  subst (λ l. IsListing l) (sym are.announce) (lists (without t s) (part_is_set t s k)),
)

pub change_is : (s t : VrpSet) (ls : Lists) → AreLists ls (between s t) → ◌≡◌ {A = Change} (record { withdraw = set_of ls.withdraw.items; announce = set_of ls.announce.items }) (between s t)
change_is s t ls are = λ i. record { withdraw = (ap set_of are.withdraw ∙ set_of-listing (without s t)) i; announce = (ap set_of are.announce ∙ set_of-listing (without t s)) i }

-- The sets before the kept steps are those that were published.
count_steps : (keep : ℕ) (set : VrpSet) (older : List VrpSet) → length (take keep (steps_of (set ∷ older))) + 1 ≡ length (take (suc keep) (set ∷ older))
count_steps zero set older = refl
count_steps (suc keep) set [] = refl
count_steps (suc keep) set (before ∷ older) = let h = count_steps keep before older in omega (arith, h)

set_before : (keep b : ℕ) (set : VrpSet) (older : List VrpSet) (d : VrpSet) → b ≤ length (take keep (steps_of (set ∷ older))) → back_to (take b (take keep (steps_of (set ∷ older)))) set ≡ get_or (take (suc keep) (set ∷ older)) b d
set_before keep zero set older d le = refl
set_before zero (suc b) set older d le = absurd (omega (arith, le))
set_before (suc keep) (suc b) set [] d le = absurd (omega (arith, le))
set_before (suc keep) (suc b) set (before ∷ older) d le =
    ap (λ x. back_to (take b (take keep (steps_of (before ∷ older)))) x) (back_between before set) ∙ set_before keep b before older d (omega (arith, le))

whole : (keep : ℕ) (i : Instance) (log : Steps) → HoldsSteps keep i log → HoldsSets keep i log.session log.next (take (suc keep) i.sets)
whole keep i log h = record { session_is = h.session_is; start = h.start; next_is = h.next_is; sets_are = refl }

pub some_is : (a b : VrpSet) → ◌≡◌ {A = Option VrpSet} (Some a) (Some b) → a ≡ b
some_is a b e = cc

pub knows_steps : (keep : ℕ) (i : Instance) (log : Steps) (serial b : ℕ) (now : VrpSet) → HoldsSteps keep i log → IsBehind log.next serial b → log.newest ≡ Some now → b ≤ length log.steps
    → Known (between (back_to (take b log.steps) now) now) ≡ since keep serial (versions_from i.start i.sets)
knows_steps keep i log serial b now h behind current some = by_sets i.sets refl
  where
    by_sets : (sets : List VrpSet) → i.sets ≡ sets → Known (between (back_to (take b log.steps) now) now) ≡ since keep serial (versions_from i.start i.sets)
    by_sets [] e = absurd (let k : ◌≡◌ {A = Option VrpSet} (Some now) None = sym current ∙ h.newest_is ∙ ap newest_set e in cc)
    by_sets (x ∷ older) e =
        let is : now ≡ x = some_is now x (sym current ∙ h.newest_is ∙ ap newest_set e) in
        let steps : log.steps ≡ take keep (steps_of (x ∷ older)) = h.steps_are ∙ ap (λ l. take keep (steps_of l)) e in
        let few : b ≤ length (take keep (steps_of (x ∷ older))) = subst (λ l. b ≤ length l) steps some in
        let count = count_steps keep x older in
        let before = get_or (take (suc keep) (x ∷ older)) b x in
        let found : back_to (take b log.steps) now ≡ before = (λ j. back_to (take b (steps j)) (is j)) ∙ set_before keep b x older x few in
        let low : b < length (take (suc keep) (x ∷ older)) = omega (arith, few, count) in
        (λ j. Known (between (found j) (is j)))
        ∙ knows keep i log.session log.next serial b (take (suc keep) i.sets) x before (whole keep i log h) behind
        (ap (λ l. get_or (take (suc keep) l) 0 x) (sym e)) (subst (λ l. b < length (take (suc keep) l)) (sym e) low)
        (get_or_default (take (suc keep) (x ∷ older)) b x before low ∙ ap (λ l. get_or (take (suc keep) l) b before) (sym e))

pub knows_no_step : (keep : ℕ) (i : Instance) (log : Steps) (serial b : ℕ) → HoldsSteps keep i log → IsBehind log.next serial b → log.newest ≢ None → length log.steps < b → Unknown ≡ since keep serial (versions_from i.start i.sets)
knows_no_step keep i log serial b h behind current past = by_sets i.sets refl
  where
    by_sets : (sets : List VrpSet) → i.sets ≡ sets → Unknown ≡ since keep serial (versions_from i.start i.sets)
    by_sets [] e = absurd (current (h.newest_is ∙ ap newest_set e))
    by_sets (x ∷ older) e =
        let count = count_steps keep x older in
        let steps = ap length (h.steps_are ∙ ap (λ l. take keep (steps_of l)) e) in
        let all = ap (λ l. length (take (suc keep) l)) e in
        knows_not keep i log.session log.next serial b (take (suc keep) i.sets) (whole keep i log h) behind (omega (arith, count, all)) (omega (arith, count, all, steps, past))

-- a set in which nothing is left out is the other
none_missing : (s t : VrpSet) → size (without s t) ≡ 0 → size (without t s) ≡ 0 → s ≡ t
none_missing s t a b = same_set s t (λ q.
    alike (has s q) (has t q) (sym (has-without s t q) ∙ ap (λ x. has x q) (map.empty_of_len (without s t) a) ∙ has-empty q)
    (sym (has-without t s q) ∙ ap (λ x. has x q) (map.empty_of_len (without t s) b) ∙ has-empty q))
  where
    alike : (a b : Bool) → (a && not b) ≡ false → (b && not a) ≡ false → a ≡ b
    alike true true h k = refl
    alike true false h k = h
    alike false true h k = sym k
    alike false false h k = refl

size_empty : size empty ≡ 0
size_empty = map.len-empty vrp_cmp (Unit {0})

size_nothing : (s : VrpSet) → size (without s s) ≡ 0
size_nothing s = sym (size_of_listing (without s s)) ∙ ap length (nothing_left s)

-- The newest set differs from the one before it exactly if the step to it changes something.
pub is_the_current : (now set : VrpSet) (sets : List VrpSet) → Some now ≡ newest_set sets → size (without now set) ≡ 0 → size (without set now) ≡ 0 → is_current sets set ≡ true
is_the_current now set [] e a b = absurd (let k : ◌≡◌ {A = Option VrpSet} (Some now) None = e in cc)
is_the_current now set (x ∷ older) e a b = (same_exactly x set).1 (sym (some_is now x e) ∙ none_missing now set a b)

pub is_another : (now set : VrpSet) (sets : List VrpSet) → Some now ≡ newest_set sets → ((size (without now set) ≡ 0) × (size (without set now) ≡ 0) → ⊥) → is_current sets set ≡ false
is_another now set [] e h = absurd (let k : ◌≡◌ {A = Option VrpSet} (Some now) None = e in cc)
is_another now set (x ∷ older) e h = false_if_never (is_same x set) (λ it.
    let same : now ≡ set = some_is now x e ∙ (same_exactly x set).0 it in
    h (ap (λ y. size (without now y)) (sym same) ∙ size_nothing now, ap (λ y. size (without y now)) (sym same) ∙ size_nothing now))

take_one_more : (n : ℕ) (c : Change) (cs : List Change) → take n (c ∷ take n cs) ≡ take n (c ∷ cs)
take_one_more zero c cs = refl
take_one_more (suc n) c cs = ap (λ l. c ∷ l) (fewer n cs)
  where
    fewer : (n : ℕ) (cs : List Change) → take n (take (suc n) cs) ≡ take n cs
    fewer zero cs = refl
    fewer (suc n) [] = refl
    fewer (suc n) (x ∷ cs) = ap (λ l. x ∷ l) (fewer n cs)

pub publishes_step : (keep : ℕ) (i : Instance) (old new : Steps) (now set : VrpSet) → HoldsSteps keep i old → old.newest ≡ Some now → is_current i.sets set ≡ false → new.session ≡ old.session → new.next ≡ (old.next + 1) % 4294967296
    → new.newest ≡ Some set → new.steps ≡ take old.keep (between now set ∷ old.steps) → new.keep ≡ old.keep → HoldsSteps keep (published set i) new
publishes_step keep i old new now set h current other session next newest steps keeps =
    subst (λ b. HoldsSteps keep (if b then i else record i { sets = set ∷ i.sets }) new) (sym other)
    (record {
      session_is = session ∙ h.session_is;
      start = h.start;
      next_is = (let n : old.next ≡ (i.start + length i.sets) % 4294967296 = h.next_is in omega (arith, n, next));
      newest_is = newest;
      steps_are = steps ∙ by_sets i.sets (sym current ∙ h.newest_is) h.steps_are;
      keep_is = keeps ∙ h.keep_is;
    })
  where
    by_sets : (sets : List VrpSet) → Some now ≡ newest_set sets → old.steps ≡ take keep (steps_of sets) → take old.keep (between now set ∷ old.steps) ≡ take keep (steps_of (set ∷ sets))
    by_sets [] e are = absurd (let k : ◌≡◌ {A = Option VrpSet} (Some now) None = e in cc)
    by_sets (x ∷ older) e are =
        (λ j. take (h.keep_is j) (between (some_is now x e j) set ∷ are j)) ∙ take_one_more keep (between x set) (steps_of (x ∷ older))

pub publishes_first : (keep : ℕ) (i : Instance) (old new : Steps) (set : VrpSet) → HoldsSteps keep i old → old.newest ≡ None → new.session ≡ old.session → new.next ≡ (old.next + 1) % 4294967296
    → new.newest ≡ Some set → new.steps ≡ old.steps → new.keep ≡ old.keep → HoldsSteps keep (published set i) new × (is_current i.sets set ≡ false)
publishes_first keep i old new set h none session next newest steps keeps = by_sets i.sets refl
  where
    by_sets : (sets : List VrpSet) → i.sets ≡ sets → HoldsSteps keep (published set i) new × (is_current i.sets set ≡ false)
    by_sets (x ∷ older) e = absurd (let k : ◌≡◌ {A = Option VrpSet} None (Some x) = sym none ∙ h.newest_is ∙ ap newest_set e in cc)
    by_sets [] e =
        let other : is_current i.sets set ≡ false = ap (λ l. is_current l set) e in (
          subst (λ b. HoldsSteps keep (if b then i else record i { sets = set ∷ i.sets }) new) (sym other)
              (record {
                session_is = session ∙ h.session_is;
                start = h.start;
                next_is = (let n : old.next ≡ (i.start + length i.sets) % 4294967296 = h.next_is in omega (arith, n, next));
                newest_is = newest;
                steps_are = steps ∙ h.steps_are ∙ ap (λ l. take keep (steps_of l)) e ∙ ap (λ l. take keep (steps_of (set ∷ l))) (sym e);
                keep_is = keeps ∙ h.keep_is;
              }),
          other,
        )

pub stays_steps : (keep : ℕ) (i : Instance) (log : Steps) (set : VrpSet) → HoldsSteps keep i log → is_current i.sets set ≡ true → HoldsSteps keep (published set i) log
stays_steps keep i log set h same = subst (λ b. HoldsSteps keep (if b then i else record i { sets = set ∷ i.sets }) log) (sym same) h

-- an item from the back
pub from_back : (xs : List Change) (i : ℕ) → (if nat_lt i (length xs) then slice_get xs (length xs - i - 1) else None) ≡ slice_get (reverse xs) i
from_back xs i = elim (cases_lt i (length xs)) [
  | inl low ↦ (λ j. if is_low i (length xs) low j then slice_get xs (length xs - i - 1) else None) ∙ at xs (length xs - i - 1) (omega (arith, low)) (first_of xs)
      ∙ ap Some (ap (λ n. get_or xs n (first_of xs)) (let e : length xs - i - 1 ≡ length xs - 1 - i = omega arith in e) ∙ sym (get_or-reverse xs i (first_of xs) low)) ∙ sym (at (reverse xs) i (let size = length-reverse xs in omega (arith, size, low)) (first_of xs))
  | inr past ↦ (λ j. if not_low i (length xs) past j then slice_get xs (length xs - i - 1) else None) ∙ sym (none_at (reverse xs) i (let size = length-reverse xs in omega (arith, size, past)))
]
  where
    is_low : (a b : ℕ) → a < b → nat_lt a b ≡ true
    is_low a b h = grind (arith, nat_tests)

    not_low : (a b : ℕ) → b ≤ a → nat_lt a b ≡ false
    not_low a b h = grind (arith, nat_tests)

    first_of : List Change → Change
    first_of [] = record { withdraw = empty; announce = empty }
    first_of (x ∷ xs) = x

    at : (ys : List Change) (k : ℕ) → k < length ys → (d : Change) → slice_get ys k ≡ Some (get_or ys k d)
    at [] k low d = absurd (omega (arith, low))
    at (y ∷ ys) zero low d = refl
    at (y ∷ ys) (suc k) low d = at ys k (omega (arith, low)) d

    none_at : (ys : List Change) (k : ℕ) → length ys ≤ k → slice_get ys k ≡ None
    none_at [] k past = refl
    none_at (y ∷ ys) zero past = absurd (omega (arith, past))
    none_at (y ∷ ys) (suc k) past = none_at ys k (omega (arith, past))

pub slice_read : (xs : List Change) (k : ℕ) (x : Change) → Some x ≡ slice_get xs k → (k < length xs) × (get_or xs k x ≡ x)
slice_read [] k x e = absurd (let h : ◌≡◌ {A = Option Change} (Some x) None = e in cc)
slice_read (y ∷ ys) zero x e = (omega arith, let h : ◌≡◌ {A = Option Change} (Some x) (Some y) = e in cc)
slice_read (y ∷ ys) (suc k) x e = let rest = slice_read ys k x e in (omega (arith, rest.0), rest.1)

pub slice_past : (xs : List Change) (k : ℕ) → None ≡ slice_get xs k → length xs ≤ k
slice_past [] k e = omega arith
slice_past (y ∷ ys) zero e = absurd (let h : ◌≡◌ {A = Option Change} None (Some y) = e in cc)
slice_past (y ∷ ys) (suc k) e = let rest = slice_past ys k e in omega (arith, rest)

-- the lists of one step, and of none
pub one_step : (now : VrpSet) (steps : List Change) (from to : ℕ) (step : Change) (ls : Lists) → AreSteps now steps → from < to → to - from ≤ 1 → Some step ≡ slice_get steps from → AreLists ls step → AreLists ls (between (back_to (take to steps) now) (back_to (take from steps) now))
one_step now steps from to step ls h low one read are =
    let at = slice_read steps from step read in
    let is : to ≡ from + 1 = omega (arith, low, one) in
    let leads = step_at from now steps step h at.0 in
    subst (λ c. AreLists ls c) (sym at.1 ∙ leads ∙ ap (λ n. between (back_to (take n steps) now) (back_to (take from steps) now)) (sym is)) are

pub no_step : (now : VrpSet) (steps : List Change) (from to : ℕ) (ls : Lists) → from ≡ to → ls.withdraw.items ≡ [] → ls.announce.items ≡ [] → AreLists ls (between (back_to (take to steps) now) (back_to (take from steps) now))
no_step now steps from to ls same w a = subst (λ n. AreLists ls (between (back_to (take n steps) now) (back_to (take from steps) now))) same (no_change (back_to (take from steps) now) ls w a)
