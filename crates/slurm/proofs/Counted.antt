-- An object has members of some names and no others exactly where it has as many members as there are of these names.
use Rattle.std.proofs.Common.{◌≡◌, ℕ, suc, ◌+◌, ◌≤◌, ◌⊎◌, Bool, true, false, if◌then◌else◌, List, [], ◌∷◌, length, Option, Some, None, is_some, IsSome, Ordering, Less, Equal, Greater, nat_cmp, is_eq, bytes_eq, inl, inr, refl, sym, ap, ap₂, ◌∙◌, subst, arith}
use Rattle.std.specs.Prelude.{⊤}
use Rattle.std.specs.List.{AllByRecursion}
use Rattle.std.specs.Cmp.Lexicographic.{slice_cmp}
use Rattle.std.specs.Ordering.{match_ordering}
use Rattle.std.proofs.lemmas.Cmp.{nat_list_cmp_total, tied_itself}
use Rattle.std.proofs.lemmas.Map.Text.{is_eq-slice_cmp}
use Rattle.std.proofs.lemmas.Slice.Eq.{bytes_eq-Decides}
use Rattle.serde_json.specs.Data.{Data, object, Members, no_members, member}
use Rattle.serde_json.specs.Find.{get_member}
use Rattle.payload_lists.specs.PayloadList.{member_count}
use Rattle.slurm.specs.Relations.{Has, HasExactly, HasOnly, IsOneOf}
use Rattle.slurm.proofs.Ascending.{AreBehind, MembersAscend}

-- ---- one member

equal_names : (k l : List ℕ) → slice_cmp nat_cmp k l ≡ Equal → k ≡ l
equal_names k l is = (bytes_eq-Decides k l).0 (sym (is_eq-slice_cmp k l) ∙ ap is_eq is)

passed : (o : Ordering) (a b : Option Data) → (o ≡ Equal → ⊥) → match_ordering o a b a ≡ a
passed Less a b other = refl
passed Equal a b other = absurd (other refl)
passed Greater a b other = refl

passes : (q k : List ℕ) (d : Data) (ms : Members) → (q ≡ k → ⊥) → get_member q (member k d ms) ≡ get_member q ms
passes q k d ms other = passed (slice_cmp nat_cmp q k) (get_member q ms) (Some d) (λ is. other (equal_names q k is))

found_first : (k : List ℕ) (d : Data) (ms : Members) → get_member k (member k d ms) ≡ Some d
found_first k d ms = ap (λ o. match_ordering o (get_member k ms) (Some d) (get_member k ms)) (tied_itself nat_list_cmp_total k)

not_behind : (k : List ℕ) (ms : Members) → AreBehind k ms → get_member k ms ≡ None
not_behind k no_members h = refl
not_behind k (member l d ms) h = ap (λ o. match_ordering o (get_member k ms) (Some d) (get_member k ms)) h.0 ∙ not_behind k ms h.1

-- ---- names

-- No two of these are the same.
abbrev pub Apart : List (List ℕ) → Type 0
Apart [] = ⊤
Apart (n ∷ ns) = AllByRecursion (λ m. bytes_eq n m ≡ false) ns × Apart ns

none_of : (ns : List (List ℕ)) (k : List ℕ) → AllByRecursion (λ m. bytes_eq k m ≡ false) ns → IsOneOf ns k → ⊥
none_of [] k h is = is
none_of (n ∷ ns) k h (inl is) = let no : false ≡ true = sym h.0 ∙ (bytes_eq-Decides k n).1 is in cc
none_of (n ∷ ns) k h (inr is) = none_of ns k h.1 is

neither : (n k : List ℕ) (ns : List (List ℕ)) → (k ≡ n → ⊥) → (IsOneOf ns k → ⊥) → IsOneOf (n ∷ ns) k → ⊥
neither n k ns other none (inl is) = other is
neither n k ns other none (inr is) = none is

abbrev IsOrNot : List (List ℕ) → List ℕ → Type 0
IsOrNot ns k = IsOneOf ns k ⊎ (IsOneOf ns k → ⊥)

or_later : (n k : List ℕ) (ns : List (List ℕ)) → (k ≡ n → ⊥) → IsOrNot ns k → IsOrNot (n ∷ ns) k
or_later n k ns other (inl is) = inl (inr is)
or_later n k ns other (inr none) = inr (neither n k ns other none)

by_first : (b : Bool) (n k : List ℕ) (ns : List (List ℕ)) → bytes_eq k n ≡ b → IsOrNot ns k → IsOrNot (n ∷ ns) k
by_first true n k ns is rest = inl (inl ((bytes_eq-Decides k n).0 is))
by_first false n k ns is rest = or_later n k ns (λ e. let no : false ≡ true = sym is ∙ (bytes_eq-Decides k n).1 e in cc) rest

is_or_not : (ns : List (List ℕ)) (k : List ℕ) → IsOrNot ns k
is_or_not [] k = inr (λ h. h)
is_or_not (n ∷ ns) k = by_first (bytes_eq k n) n k ns refl (is_or_not ns k)

-- ---- how many of some names are there

abbrev plus : Option Data → ℕ → ℕ
plus o n = (if is_some o then 1 else 0) + n

abbrev pub count : List (List ℕ) → Members → ℕ
count [] ms = 0
count (n ∷ ns) ms = plus (get_member n ms) (count ns ms)

plus-suc : (o : Option Data) (n : ℕ) → plus o (suc n) ≡ suc (plus o n)
plus-suc None n = omega arith
plus-suc (Some d) n = omega arith

plus-some : (d : Data) (o : Option Data) (n : ℕ) → o ≡ None → plus (Some d) n ≡ suc (plus o n)
plus-some d None n h = omega arith
plus-some d (Some e) n h = absurd (cc)

uncounted : (ns : List (List ℕ)) (k : List ℕ) (d : Data) (ms : Members) → (IsOneOf ns k → ⊥) → count ns (member k d ms) ≡ count ns ms
uncounted [] k d ms none = refl
uncounted (n ∷ ns) k d ms none = ap₂ plus (passes n k d ms (λ is. none (inl (sym is)))) (uncounted ns k d ms (λ is. none (inr is)))

counted : (ns : List (List ℕ)) (k : List ℕ) (d : Data) (ms : Members) → Apart ns → get_member k ms ≡ None → IsOneOf ns k → count ns (member k d ms) ≡ suc (count ns ms)
counted [] k d ms apart new is = absurd is
counted (n ∷ ns) k d ms apart new (inl is) =
    let here : get_member n (member k d ms) ≡ Some d = ap (λ m. get_member m (member k d ms)) (sym is) ∙ found_first k d ms in
    let rest : count ns (member k d ms) ≡ count ns ms = uncounted ns k d ms (λ h. none_of ns n apart.0 (subst (IsOneOf ns) is h)) in
    ap₂ plus here rest ∙ plus-some d (get_member n ms) (count ns ms) (ap (λ m. get_member m ms) (sym is) ∙ new)
counted (n ∷ ns) k d ms apart new (inr is) =
    let other = λ (e : n ≡ k). none_of ns n apart.0 (subst (IsOneOf ns) (sym e) is) in
    ap₂ plus (passes n k d ms other) (counted ns k d ms apart.1 new is) ∙ plus-suc (get_member n ms) (count ns ms)

none_counted : (ns : List (List ℕ)) → count ns no_members ≡ 0
none_counted [] = refl
none_counted (n ∷ ns) = ap (plus None) (none_counted ns)

-- no more than there are members
at_most_by : (ns : List (List ℕ)) (k : List ℕ) (d : Data) (ms : Members) → Apart ns → AreBehind k ms → count ns ms ≤ member_count ms → IsOrNot ns k → count ns (member k d ms) ≤ suc (member_count ms)
at_most_by ns k d ms apart up rest (inl is) = omega (arith, rest, counted ns k d ms apart (not_behind k ms up) is)
at_most_by ns k d ms apart up rest (inr none) = omega (arith, rest, uncounted ns k d ms none)

at_most : (ns : List (List ℕ)) (ms : Members) → Apart ns → MembersAscend ms → count ns ms ≤ member_count ms
at_most ns no_members apart up = omega (arith, none_counted ns)
at_most ns (member k d ms) apart up = at_most_by ns k d ms apart up.0 (at_most ns ms apart up.2) (is_or_not ns k)

-- ---- exactly where there are as many, each member has one of the names

one_or_later : (o : Ordering) (ns : List (List ℕ)) (q k : List ℕ) (d : Data) (ms : Members) → slice_cmp nat_cmp q k ≡ o → IsOneOf ns k → (IsSome (get_member q ms) → IsOneOf ns q)
    → IsSome (match_ordering o (get_member q ms) (Some d) (get_member q ms)) → IsOneOf ns q
one_or_later Less ns q k d ms is one rest h = rest h
one_or_later Equal ns q k d ms is one rest h = subst (IsOneOf ns) (sym (equal_names q k is)) one
one_or_later Greater ns q k d ms is one rest h = rest h

abbrev AreOf : List (List ℕ) → Members → Type 0
AreOf ns ms = (q : List ℕ) → IsSome (get_member q ms) → IsOneOf ns q

are_of_by : (ns : List (List ℕ)) (k : List ℕ) (d : Data) (ms : Members) → Apart ns → MembersAscend (member k d ms) → suc (member_count ms) ≡ count ns (member k d ms)
    → (member_count ms ≡ count ns ms → AreOf ns ms) → IsOrNot ns k → AreOf ns (member k d ms)
are_of_by ns k d ms apart up as_many rest (inr none) q h = absurd (omega (arith, as_many, uncounted ns k d ms none, at_most ns ms apart up.2))
are_of_by ns k d ms apart up as_many rest (inl is) q h =
    let same : member_count ms ≡ count ns ms = omega (arith, as_many, counted ns k d ms apart (not_behind k ms up.0) is) in
    one_or_later (slice_cmp nat_cmp q k) ns q k d ms refl is (rest same q) h

are_of : (ns : List (List ℕ)) (ms : Members) → Apart ns → MembersAscend ms → member_count ms ≡ count ns ms → AreOf ns ms
are_of ns no_members apart up as_many q h = let no : false ≡ true = h in absurd (cc)
are_of ns (member k d ms) apart up as_many q h = are_of_by ns k d ms apart up as_many (are_of ns ms apart up.2) (is_or_not ns k) q h

still_there : (o : Ordering) (d : Data) (rest : Option Data) → IsSome rest → IsSome (match_ordering o rest (Some d) rest)
still_there Less d rest h = h
still_there Equal d rest h = refl
still_there Greater d rest h = h

as_many : (ns : List (List ℕ)) (ms : Members) → Apart ns → MembersAscend ms → AreOf ns ms → member_count ms ≡ count ns ms
as_many ns no_members apart up of = sym (none_counted ns)
as_many ns (member k d ms) apart up of =
    let rest = as_many ns ms apart up.2 (λ q h. of q (still_there (slice_cmp nat_cmp q k) d (get_member q ms) h)) in
    ap suc rest ∙ sym (counted ns k d ms apart (not_behind k ms up.0) (of k (ap is_some (found_first k d ms))))

-- ---- exactly where there are as many as names, each name is there

most : (o : Option Data) (n m : ℕ) → n ≤ m → plus o n ≤ suc m
most None n m h = omega (arith, h)
most (Some d) n m h = omega (arith, h)

at_most_names : (ns : List (List ℕ)) (ms : Members) → count ns ms ≤ length ns
at_most_names [] ms = omega arith
at_most_names (n ∷ ns) ms = most (get_member n ms) (count ns ms) (length ns) (at_most_names ns ms)

first_there : (o : Option Data) (n m : ℕ) → n ≤ m → plus o n ≡ suc m → IsSome o × (n ≡ m)
first_there None n m h e = absurd (omega (arith, h, e))
first_there (Some d) n m h e = (refl, omega (arith, e))

all_there : (ns : List (List ℕ)) (ms : Members) → count ns ms ≡ length ns → AllByRecursion (Has (object ms)) ns
all_there [] ms e = tt
all_there (n ∷ ns) ms e =
    let first = first_there (get_member n ms) (count ns ms) (length ns) (at_most_names ns ms) e in (first.0, all_there ns ms first.1)

plus-there : (o : Option Data) (n m : ℕ) → IsSome o → n ≡ m → plus o n ≡ suc m
plus-there None n m h e = let no : false ≡ true = h in absurd (cc)
plus-there (Some d) n m h e = omega (arith, e)

names_counted : (ns : List (List ℕ)) (ms : Members) → AllByRecursion (Has (object ms)) ns → count ns ms ≡ length ns
names_counted [] ms h = refl
names_counted (n ∷ ns) ms h = plus-there (get_member n ms) (count ns ms) (length ns) h.0 (names_counted ns ms h.1)

-- ---- both

pub only_by_count : (ns : List (List ℕ)) (ms : Members) → Apart ns → MembersAscend ms → member_count ms ≡ count ns ms → HasOnly ns (object ms)
only_by_count ns ms apart up e = record { is_object = refl; only = are_of ns ms apart up e }

pub count_by_only : (ns : List (List ℕ)) (ms : Members) → Apart ns → MembersAscend ms → HasOnly ns (object ms) → member_count ms ≡ count ns ms
count_by_only ns ms apart up h = as_many ns ms apart up h.only

pub exactly_by_count : (ns : List (List ℕ)) (ms : Members) → Apart ns → MembersAscend ms → member_count ms ≡ length ns → count ns ms ≡ length ns → HasExactly ns (object ms)
exactly_by_count ns ms apart up whole names = record { no_others = only_by_count ns ms apart up (whole ∙ sym names); all = all_there ns ms names }

pub count_by_exactly : (ns : List (List ℕ)) (ms : Members) → Apart ns → MembersAscend ms → HasExactly ns (object ms) → (member_count ms ≡ length ns) × (count ns ms ≡ length ns)
count_by_exactly ns ms apart up h =
    let names = names_counted ns ms h.all in (count_by_only ns ms apart up h.no_others ∙ names, names)
