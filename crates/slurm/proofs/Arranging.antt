-- Filters, arranged for records that come in ascending order.
use Rattle.std.specs.Prelude.{None, drop, nat_lt, nat_le, ◌≡◌, ℕ, ◌<◌, ◌≤◌, ◌+◌, ◌++◌, ◌&&◌, ◌||◌, ◌==◌, Bool, true, false, List, [], ◌∷◌, Some, Result, Ok, Err, is_ok, MatchResult, length, take, get_or, refl}
use Rattle.std.proofs.Common.{ap, sym, ◌∙◌, subst, arith, append_assoc, append-nil, ⊎_elim}
use Rattle.std.proofs.lemmas.List.{get_or_default, get_or-drop, get_or-take, length-drop, length-take, take-append-drop, take_more}
use Rattle.std.proofs.lemmas.List.Elements.{recursion_from_All}
use Rattle.std.proofs.Math.Bool.{or-false}
use Rattle.prefixes.proofs.Basics.{all_both, eq_true, false_if_never, eq_of}
use Rattle.vrps.specs.Keys.{up_to}
use Rattle.std.specs.List.{All, AllByRecursion, list_any}
use Rattle.std.specs.List.Sorted.{IsBinarySearchResult, IsNonDecreasing, IsNonDecreasingBy, IsPartitionPoint, IsPermutation}
use Rattle.std.proofs.lemmas.Bool.{cases_lt}
use Rattle.std.proofs.lemmas.Bool.Decides.{nat_tests}
use Rattle.std.proofs.lemmas.List.Folds.{list_any-append, list_any_at, list_any_none}
use Rattle.std.proofs.lemmas.List.Sorted.{list_any-IsPermutation, searched}
use Rattle.std.specs.Ordering.{nat_cmp}
use Rattle.prefixes.specs.Payload.{Payload, covers}
use Rattle.prefixes.specs.declared.asn.Asn.{Asn}
use Rattle.prefixes.specs.declared.prefix.IpPrefix.{IpPrefix}
use Rattle.slurm.specs.Arranged.{Opens}
use Rattle.slurm.specs.Exceptions.{is_of_as, is_within, matches}
use Rattle.slurm.specs.declared.filter.PrefixFilter.{PrefixFilter}
use Rattle.slurm.specs.declared.index.Both.{Both}

put_before : (a b r : Bool) → ((a || (b || false)) || r) ≡ ((a || r) || b)
put_before true b r = refl
put_before false true true = refl
put_before false true false = refl
put_before false false true = refl
put_before false false false = refl

-- One more passes a test, or does not.
passes_more : {X : Type 0} (q : X → Bool) (xs ys : List X) (x : X) (b r : Bool) → ys ≡ xs ++ x ∷ [] → q x ≡ b → (list_any q ys || r) ≡ ((list_any q xs || r) || b)
passes_more q xs ys x b r is test =
    ap (λ zs. list_any q zs || r) is ∙ ap (λ c. c || r) (list_any-append q xs (x ∷ [])) ∙ put_before (list_any q xs) (q x) r ∙ ap (λ c. (list_any q xs || r) || c) test

and_both : (a b c : Bool) → a ≡ b → (a && true) ≡ b
and_both true b c h = h
and_both false b c h = h

swapped : (a b : Bool) → (a && b) ≡ (b && a)
swapped true true = refl
swapped true false = refl
swapped false true = refl
swapped false false = refl

or_or : (a b c : Bool) → (a || (b || c)) ≡ ((a || b) || c)
or_or true b c = refl
or_or false b c = refl

-- a prefix more
pub one_prefix : (xs ys : List IpPrefix) (p : IpPrefix) (g : PrefixFilter) (r : Bool) (v : Payload) → ys ≡ xs ++ p ∷ [] → g.prefix ≡ Some p → g.asn ≡ None
    → (list_any (λ f. covers f v.prefix) ys || r) ≡ ((list_any (λ f. covers f v.prefix) xs || r) || matches g v)
one_prefix xs ys p g r v is some none =
    passes_more (λ f. covers f v.prefix) xs ys p (matches g v) r is (sym ((λ i. is_within (some i) v.prefix && is_of_as (none i) v.asn) ∙ and_both (covers p v.prefix) (covers p v.prefix) true refl))

-- a prefix with an AS more
pub one_of_both : (a : Bool) (xs ys : List Both) (f : Both) (p : IpPrefix) (n : Asn) (g : PrefixFilter) (r : Bool) (v : Payload) → ys ≡ xs ++ f ∷ [] → f.prefix ≡ p → f.asn ≡ n.0 → g.prefix ≡ Some p → g.asn ≡ Some n
    → (a || (list_any (λ h. (h.asn == v.asn) && covers h.prefix v.prefix) ys || r)) ≡ ((a || (list_any (λ h. (h.asn == v.asn) && covers h.prefix v.prefix) xs || r)) || matches g v)
one_of_both a xs ys f p n g r v is prefix asn some number =
    let test : ((f.asn == v.asn) && covers f.prefix v.prefix) ≡ matches g v =
    (λ i. (asn i == v.asn) && covers (prefix i) v.prefix) ∙ swapped (n.0 == v.asn) (covers p v.prefix) ∙ sym (λ i. is_within (some i) v.prefix && is_of_as (number i) v.asn) in
    ap (λ b. a || b) (passes_more (λ h. (h.asn == v.asn) && covers h.prefix v.prefix) xs ys f (matches g v) r is test)
    ∙ or_or a (list_any (λ h. (h.asn == v.asn) && covers h.prefix v.prefix) xs || r) (matches g v)

unequal : (a b : ℕ) → (a ≡ b → ⊥) → (a == b) ≡ false
unequal a b h = false_if_never (a == b) (λ e. h (eq_of a b e))

-- what is found in ascending numbers
pub found : (xs : List ℕ) (x : ℕ) (r : Result ℕ ℕ) → IsBinarySearchResult (λ y. nat_cmp y x) xs r → IsNonDecreasing xs → is_ok r ≡ list_any (λ n. n == x) xs
found xs x r position ascends = by_result r (searched xs x r position (λ i j a b. ascends i j 0 a b))
  where
    by_result : (q : Result ℕ ℕ) → MatchResult q (λ i. (i < length xs) × (get_or xs i 0 ≡ x)) (λ i. (i ≤ length xs) × ((k : ℕ) → k < i → get_or xs k 0 < x) × ((k : ℕ) → i ≤ k → k < length xs → x < get_or xs k 0))
        → is_ok q ≡ list_any (λ n. n == x) xs
    by_result (Ok i) h = sym (list_any_at (λ n. n == x) xs i 0 h.0 (eq_true _ _ h.1))
    by_result (Err i) h = sym (list_any_none (λ n. n == x) xs (λ k d below. ⊎_elim
        (λ before. let less = h.1 k before in let same = get_or_default xs k d 0 below in unequal (get_or xs k d) x (λ e. omega (arith, less, same, e)))
        (λ after. let more = h.2 k after below in let same = get_or_default xs k d 0 below in unequal (get_or xs k d) x (λ e. omega (arith, more, same, e)))
        (cases_lt k i)))

-- Those from one place up to another are added, and are not after the prefix.
pub record OpensSoFar (fs : List IpPrefix) (p : IpPrefix) (next : ℕ) (old : List IpPrefix) (to : ℕ) (new : List IpPrefix) : Type 0 where
  pub within : to ≤ length fs
  pub more : List IpPrefix
  pub taken : take to fs ≡ take next fs ++ more
  pub opened : new ≡ old ++ more
  pub not_after : AllByRecursion (λ f. up_to f p ≡ true) more

pub open_none : (fs : List IpPrefix) (p : IpPrefix) (next : ℕ) (old : List IpPrefix) → next ≤ length fs → OpensSoFar fs p next old next old
open_none fs p next old h = record { within = h; more = []; taken = sym (append-nil (take next fs)); opened = sym (append-nil old); not_after = tt }

pub open_more : (fs : List IpPrefix) (p : IpPrefix) (next : ℕ) (old : List IpPrefix) (to : ℕ) (new now : List IpPrefix) (f : IpPrefix) → OpensSoFar fs p next old to new → to < length fs → f ≡ get_or fs to f
    → up_to f p ≡ true → now ≡ new ++ f ∷ [] → OpensSoFar fs p next old (to + 1) now
open_more fs p next old to new now f s h is up pushed =
    record {
      within = omega (arith, h);
      more = s.more ++ f ∷ [];
      taken = take_more fs to f h ∙ (λ i. s.taken i ++ sym is i ∷ []) ∙ append_assoc (take next fs) s.more (f ∷ []);
      opened = pushed ∙ ap (λ xs. xs ++ f ∷ []) s.opened ∙ append_assoc old s.more (f ∷ []);
      not_after = all_both (λ g. up_to g p ≡ true) s.more (f ∷ []) s.not_after (up, tt);
    }

pub opens : (fs : List IpPrefix) (p : IpPrefix) (next : ℕ) (old : List IpPrefix) (to : ℕ) (new : List IpPrefix) → OpensSoFar fs p next old to new
    → ((d : IpPrefix) → to < length fs → up_to (get_or fs to d) p ≡ false) → Opens fs p next old to new
opens fs p next old to new s stops = record { within = s.within; more = s.more; taken = s.taken; opened = s.opened; not_after = s.not_after; stops = stops }

-- A sort changes no answer.
pub sorted_hits : (xs ys : List IpPrefix) (fs gs : List Both) (ms ns : List ℕ) (b : Bool) (v : Payload) → IsPermutation xs ys → IsPermutation fs gs → IsPermutation ms ns
    → (list_any (λ f. covers f v.prefix) ys || (list_any (λ h. (h.asn == v.asn) && covers h.prefix v.prefix) gs || (list_any (λ n. n == v.asn) ns || b)))
    ≡ (list_any (λ f. covers f v.prefix) xs || (list_any (λ h. (h.asn == v.asn) && covers h.prefix v.prefix) fs || (list_any (λ n. n == v.asn) ms || b)))
sorted_hits xs ys fs gs ms ns b v one two other =
    λ i. sym (list_any-IsPermutation (λ f. covers f v.prefix) xs ys one) i
    || (sym (list_any-IsPermutation (λ h. (h.asn == v.asn) && covers h.prefix v.prefix) fs gs two) i || (sym (list_any-IsPermutation (λ n. n == v.asn) ms ns other) i || b))

-- Among filters in ascending order of the AS those of one AS stand side by side.
module _ (xs : List Both) (asn : ℕ) (p : IpPrefix) where
  abbrev Hits : Both → Bool
  Hits f = (f.asn == asn) && covers f.prefix p

  not_hit : (f : Both) → (f.asn ≡ asn → ⊥) → Hits f ≡ false
  not_hit f h = ap (λ b. b && covers f.prefix p) (unequal f.asn asn h)

  all_hit : (ys : List Both) → AllByRecursion (λ f. f.asn ≡ asn) ys → list_any Hits ys ≡ list_any (λ f. covers f.prefix p) ys
  all_hit [] h = refl
  all_hit (f ∷ ys) h = (λ i. (eq_true f.asn asn h.0 i && covers f.prefix p) || all_hit ys h.1 i)

  pub side_by_side : (start count : ℕ) → IsNonDecreasingBy (λ f. f.asn) xs → ((k : ℕ) (d : Both) → k < start → (get_or xs k d).asn < asn) → ((k : ℕ) (d : Both) → start ≤ k → k < length xs → asn ≤ (get_or xs k d).asn)
      → ((k : ℕ) (d : Both) → k < count → (get_or (drop start xs) k d).asn ≤ asn) → ((k : ℕ) (d : Both) → count ≤ k → k < length (drop start xs) → asn < (get_or (drop start xs) k d).asn)
      → list_any (λ f. covers f.prefix p) (take count (drop start xs)) ≡ list_any Hits xs
  side_by_side start count up low high few more =
      let rest = drop start xs in
      let one : list_any Hits (take start xs) ≡ false =
      list_any_none Hits (take start xs) (λ k d below. not_hit _ (λ e.
      let long = length-take start xs in
      let same : get_or (take start xs) k d ≡ get_or xs k d = get_or-take start xs k d (omega arith) in
      let less = low k d (omega arith) in omega (arith, ap (λ f. f.asn) same, less, e))) in
      let three : list_any Hits (drop count rest) ≡ false =
      list_any_none Hits (drop count rest) (λ k d below. not_hit _ (λ e.
      let long = length-drop count rest in
      let same : get_or (drop count rest) k d ≡ get_or rest (count + k) d = get_or-drop count rest k d in
      let above = more (count + k) d (omega arith) (omega arith) in omega (arith, ap (λ f. f.asn) same, above, e))) in
      let within : All (λ f. f.asn ≡ asn) (take count rest) = λ k d below.
      (let long = length-take count rest in
      let longer = length-drop start xs in
      let same : get_or (take count rest) k d ≡ get_or rest k d = get_or-take count rest k d (omega arith) in
      let there : get_or rest k d ≡ get_or xs (start + k) d = get_or-drop start xs k d in
      let under = few k d (omega arith) in
      let over = high (start + k) d (omega arith) (omega arith) in
      omega (arith, ap (λ f. f.asn) same, ap (λ f. f.asn) there, under, over)) in
      sym (ap (list_any Hits) (sym (take-append-drop start xs)) ∙ list_any-append Hits (take start xs) rest ∙ ap (λ b. b || list_any Hits rest) one
      ∙ ap (list_any Hits) (sym (take-append-drop count rest)) ∙ list_any-append Hits (take count rest) (drop count rest) ∙ ap (λ b. list_any Hits (take count rest) || b) three ∙ or-false _
      ∙ all_hit (take count rest) (recursion_from_All (λ f. f.asn ≡ asn) (take count rest) within))

lt_of : (a b : ℕ) → nat_lt a b ≡ true → a < b
lt_of a b h = grind (arith, nat_tests)

not_lt_of : (a b : ℕ) → nat_lt a b ≡ false → b ≤ a
not_lt_of a b h = grind (arith, nat_tests)

le_of : (a b : ℕ) → nat_le a b ≡ true → a ≤ b
le_of a b h = grind (arith, nat_tests)

not_le_of : (a b : ℕ) → nat_le a b ≡ false → b < a
not_le_of a b h = grind (arith, nat_tests)

-- what lies between two partition points
pub cut_out : (xs rest : List Both) (asn : ℕ) (p : IpPrefix) (start count : ℕ) → rest ≡ drop start xs → IsNonDecreasingBy (λ f. f.asn) xs
    → IsPartitionPoint (λ f. nat_lt f.asn asn ≡ true) (λ f. nat_lt f.asn asn ≡ false) xs start → IsPartitionPoint (λ f. nat_le f.asn asn ≡ true) (λ f. nat_le f.asn asn ≡ false) rest count
    → list_any (λ f. covers f.prefix p) (take count rest) ≡ list_any (λ f. (f.asn == asn) && covers f.prefix p) xs
cut_out xs rest asn p start count is up one two =
    let other : IsPartitionPoint (λ f. nat_le f.asn asn ≡ true) (λ f. nat_le f.asn asn ≡ false) (drop start xs) count =
    subst (λ ys. IsPartitionPoint (λ f. nat_le f.asn asn ≡ true) (λ f. nat_le f.asn asn ≡ false) ys count) is two in
    ap (λ ys. list_any (λ f. covers f.prefix p) (take count ys)) is
    ∙ side_by_side xs asn p start count up (λ k d h. lt_of _ _ (one.0 k d (omega arith) h)) (λ k d h j. not_lt_of _ _ (one.1 k d h j)) (λ k d h. le_of _ _ (other.0 k d (omega arith) h)) (λ k d h j. not_le_of _ _ (other.1 k d h j))
