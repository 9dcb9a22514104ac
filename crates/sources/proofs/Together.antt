-- What is made of several sets.
use Rattle.std.specs.Prelude.{◌≡◌, ◌≤◌, ◌<◌, ℕ, Bool, true, false, not, ◌&&◌, ◌||◌, List, [], ◌∷◌, ◌++◌, filter, Option, Some, None, Result, Ok, Err, refl, length}
use Rattle.std.proofs.Common.{arith, ap, subst, sym, ◌∙◌, IfOk, get_or}
use Rattle.std.proofs.Math.Bool.{or-true}
use Rattle.std.specs.List.{list_any}
use Rattle.der_lite.specs.Moments.{CivilMoment}
use Rattle.der_lite.specs.Seconds.{seconds_of}
use Rattle.prefixes.specs.Payload.{Payload}
use Rattle.points.specs.InUse.{Points, Lists}
use Rattle.vrps.specs.VrpSet.{VrpSet, empty, has, listing, set_of, size, union, without}
use Rattle.vrps.specs.declared.set.SetFault.{SetFault}
use Rattle.vrps.proofs.Listed.{size_of_listing}
use Rattle.vrps.proofs.SetLaws.{has-empty, has-listing, has-set_of, has-union, has-without, kept, same_set, same_vrp}
use Rattle.prefixes.specs.Orders.{vrp_exact}
use Rattle.vrps.proofs.Sizes.{size_le}
use Rattle.slurm.specs.Exceptions.{exceptions_of}
use Rattle.slurm.proofs.ExceptionLaws.{is_excepted}
use Rattle.sources.specs.Served.{Gives, HasServed, IsServed, LeavesOut, counting_at, excepted_by, has_length_0, is_asserted, is_left_out, is_listed, left_out_of, narrowed, with_lists}
use Rattle.sources.specs.declared.listed.Listed.{Listed}
use Rattle.sources.specs.declared.sources.ServedSet.{ServedSet}
use Rattle.sources.specs.declared.slurms.AppliedSlurms.{AppliedSlurms}

and_all : (b : Bool) → (b && not false) ≡ b
and_all true = refl
and_all false = refl

-- To announce to a set, and to withdraw nothing
pub announced : (s t : VrpSet) → union (without s empty) t ≡ union s t
announced s t = same_set _ _ (λ q.
    has-union (without s empty) t q
    ∙ ap (λ b. b || has t q) (has-without s empty q ∙ ap (λ b. has s q && not b) (has-empty q) ∙ and_all (has s q))
    ∙ sym (has-union s t q))

none_any : (q : Payload) (vs : List Payload) → length vs ≡ 0 → list_any (same_vrp q) vs ≡ false
none_any q [] e = refl
none_any q (v ∷ vs) e = absurd (omega (arith, e))

-- The members of no set and of another
pub from_nothing : (s t : VrpSet) → size s ≡ 0 → t ≡ union s t
from_nothing s t e = same_set _ _ (λ q.
    sym (has-union s t q ∙ ap (λ b. b || has t q) (has-listing s q ∙ none_any q (listing s) (size_of_listing s ∙ e))))

or_none : (b : Bool) → b ≡ (b || false)
or_none true = refl
or_none false = refl

or_both : (a b c : Bool) → ((a || b) || c) ≡ (a || (b || c))
or_both true b c = refl
or_both false b c = refl

-- the members of a set and of those of files
has-lists : (at : ℕ) (s : VrpSet) (ls : List Listed) (v : Payload) → has (with_lists at s ls) v ≡ (has s v || is_listed at ls v)
has-lists at s [] v = or_none (has s v)
has-lists at s (l ∷ ls) v =
    has-lists at (union s (counting_at at l)) ls v ∙ ap (λ b. b || is_listed at ls v) (has-union s (counting_at at l) v) ∙ or_both (has s v) (has (counting_at at l) v) (is_listed at ls v)

-- What files add makes a set no smaller.
grows : (at : ℕ) (s : VrpSet) (ls : List Listed) → size s ≤ size (with_lists at s ls)
grows at s ls = size_le s (with_lists at s ls) (λ q one. has-lists at s ls q ∙ ap (λ b. b || is_listed at ls q) one)

-- A set that is over the limit is over it still with what files add.
pub beyond : (at : ℕ) (s : VrpSet) (ls : List Listed) (t : VrpSet) → with_lists at s ls ≡ t → 16777215 < size s → 16777215 < size t
beyond at s ls t is over = subst (λ x. 16777215 < size x) is (let more = grows at s ls in omega (arith, more, over))

-- A fault that is handed on is the one that was told.
pub same_fault : {T S : Type 0} (r : Result T SetFault) (q : Result S SetFault) (x y t : SetFault) → r ≡ Err x → x ≡ y → q ≡ Err y → r ≡ Err t → q ≡ Err t
same_fault r q x y t a b d e = cc (a, b, d, e)

-- the members of files alone
has-all : (at : ℕ) (ls : List Listed) (v : Payload) → has (with_lists at empty ls) v ≡ is_listed at ls v
has-all at ls v = has-lists at empty ls v ∙ ap (λ b. b || is_listed at ls v) (has-empty v)

listed_both : (at : ℕ) (a b : List Listed) (v : Payload) → is_listed at (a ++ b) v ≡ (is_listed at a v || is_listed at b v)
listed_both at [] b v = refl
listed_both at (l ∷ a) b v = ap (λ x. has (counting_at at l) v || x) (listed_both at a b v) ∙ sym (or_both (has (counting_at at l) v) (is_listed at a v) (is_listed at b v))

-- A set and the payloads of files
pub with_all_lists : (at : ℕ) (s : VrpSet) (ls : List Listed) → union s (with_lists at empty ls) ≡ with_lists at s ls
with_all_lists at s ls = same_set _ _ (λ q. has-union s (with_lists at empty ls) q ∙ ap (λ b. has s q || b) (has-all at ls q) ∙ sym (has-lists at s ls q))

-- one file
pub one_list : (at : ℕ) (ls : List Listed) (x : Listed) → length ls ≡ 1 → counting_at at (get_or ls 0 x) ≡ with_lists at empty ls
one_list at [] x e = absurd (omega (arith, e))
one_list at (l ∷ []) x e = same_set (counting_at at l) (union empty (counting_at at l)) (λ q. sym (has-union empty (counting_at at l) q ∙ ap (λ b. b || has (counting_at at l) q) (has-empty q)))
one_list at (l ∷ m ∷ ls) x e = absurd (omega (arith, e))

-- files in two parts
pub both_parts : (at : ℕ) (ls a b : List Listed) → ls ≡ a ++ b → union (with_lists at empty a) (with_lists at empty b) ≡ with_lists at empty ls
both_parts at ls a b is = same_set _ _ (λ q.
    has-union (with_lists at empty a) (with_lists at empty b) q
    ∙ (λ i. has-all at a q i || has-all at b q i)
    ∙ sym (listed_both at a b q) ∙ ap (λ l. is_listed at l q) (sym is) ∙ sym (has-all at ls q))

-- A part that is over the limit takes the whole over it.
pub beyond_first : (at : ℕ) (ls a b : List Listed) → ls ≡ a ++ b → 16777215 < size (with_lists at empty a) → 16777215 < size (with_lists at empty ls)
beyond_first at ls a b is over =
    let more = size_le (with_lists at empty a) (with_lists at empty ls) (λ q one.
    has-all at ls q ∙ ap (λ l. is_listed at l q) is ∙ listed_both at a b q ∙ ap (λ x. x || is_listed at b q) (sym (has-all at a q) ∙ one)) in
    omega (arith, more, over)

pub beyond_second : (at : ℕ) (ls a b : List Listed) → ls ≡ a ++ b → 16777215 < size (with_lists at empty b) → 16777215 < size (with_lists at empty ls)
beyond_second at ls a b is over =
    let more = size_le (with_lists at empty b) (with_lists at empty ls) (λ q one.
    has-all at ls q ∙ ap (λ l. is_listed at l q) is ∙ listed_both at a b q ∙ ap (λ x. is_listed at a q || x) (sym (has-all at b q) ∙ one) ∙ or-true (is_listed at a q)) in
    omega (arith, more, over)

pub beyond_lists : (at : ℕ) (s : VrpSet) (ls : List Listed) → 16777215 < size (with_lists at empty ls) → 16777215 < size (with_lists at s ls)
beyond_lists at s ls over =
    let more = size_le (with_lists at empty ls) (with_lists at s ls) (λ q one.
    has-lists at s ls q ∙ ap (λ x. has s q || x) (sym (has-all at ls q) ∙ one) ∙ or-true (has s q)) in
    omega (arith, more, over)

not_excepted : (b : Bool) → b ≡ ((b && not false) || false)
not_excepted true = refl
not_excepted false = refl

-- the members of what local exceptions leave
has-left : (e : Option AppliedSlurms) (s : VrpSet) (v : Payload) → has (excepted_by e s) v ≡ ((has s v && not (is_left_out e v)) || is_asserted e v)
has-left None s v = not_excepted (has s v)
has-left (Some e) s v = is_excepted (exceptions_of e.slurm) s v

-- A member of a set is one of those that are left out if it is of length 0 and such are left out.
any_left_out : (leaves : Bool) (s : VrpSet) (v : Payload) → has (set_of (left_out_of leaves s)) v ≡ (leaves && (has s v && has_length_0 v))
any_left_out false s v = has-empty v
any_left_out true s v =
    has-set_of (filter has_length_0 (listing s)) v
    ∙ kept has_length_0 v (λ x tie. ap has_length_0 (sym (vrp_exact v x tie))) (listing s)
    ∙ ap (λ b. b && has_length_0 v) (sym (has-listing s v))

without_these : (h w l : Bool) → (h && not (l && (h && w))) ≡ (h && not (l && w))
without_these false w l = refl
without_these true w l = refl

has-narrowed : (leaves : Bool) (s : VrpSet) (v : Payload) → has (narrowed leaves s) v ≡ (has s v && not (leaves && has_length_0 v))
has-narrowed leaves s v =
    has-without s (set_of (left_out_of leaves s)) v ∙ ap (λ b. has s v && not b) (any_left_out leaves s v) ∙ without_these (has s v) (has_length_0 v) leaves

-- Nothing is left out.
pub whole : (leaves : Bool) (s : VrpSet) (vs : List Payload) → vs ≡ left_out_of leaves s → length vs ≡ 0 → s ≡ narrowed leaves s
whole leaves s vs is none = same_set s (narrowed leaves s) (λ v. sym (
    has-without s (set_of (left_out_of leaves s)) v
    ∙ ap (λ b. has s v && not b) (has-set_of (left_out_of leaves s) v ∙ none_any v (left_out_of leaves s) (sym (ap length is) ∙ none))
    ∙ and_all (has s v)))

-- To withdraw from a set, and to announce nothing
pub withdrawn : (s t : VrpSet) → union (without s t) empty ≡ without s t
withdrawn s t = same_set _ _ (λ v. has-union (without s t) empty v ∙ ap (λ b. has (without s t) v || b) (has-empty v) ∙ sym (or_none (has (without s t) v)))

-- What is left out of a set, and what is left, is no larger.
pub left_out_over : (leaves : Bool) (s : VrpSet) → 16777215 < size (set_of (left_out_of leaves s)) → 16777215 < size s
left_out_over leaves s over =
    let more = size_le (set_of (left_out_of leaves s)) s (λ v one. first_of leaves (has s v) (has_length_0 v) (sym (any_left_out leaves s v) ∙ one)) in omega (arith, more, over)
  where
    first_of : (l h w : Bool) → (l && (h && w)) ≡ true → h ≡ true
    first_of true true w e = refl
    first_of true false w e = absurd (let f : false ≡ true = e in cc)
    first_of false h w e = absurd (let f : false ≡ true = e in cc)

pub narrowed_over : (s t : VrpSet) → 16777215 < size (without s t) → 16777215 < size s
narrowed_over s t over =
    let more = size_le (without s t) s (λ v one. first_of (has s v) (not (has t v)) (sym (has-without s t v) ∙ one)) in omega (arith, more, over)
  where
    first_of : (h w : Bool) → (h && w) ≡ true → h ≡ true
    first_of true w e = refl
    first_of false w e = absurd (let f : false ≡ true = e in cc)

pub has_served : {points : Points} {lists : List Listed} {e : Option AppliedSlurms} {leaves : Bool} {now : CivilMoment} {t : VrpSet} → IsServed points lists e leaves now t → HasServed points lists e leaves now t
has_served {points} {lists} {e} {leaves} {now} {t} h = record {
  used = h.used;
  in_use = h.in_use;
  those = λ v.
      ap (λ x. has x v) h.is
      ∙ has-narrowed leaves (excepted_by e (with_lists (seconds_of now) (set_of h.used) lists)) v
      ∙ ap (λ b. b && not (leaves && has_length_0 v)) (
      has-left e (with_lists (seconds_of now) (set_of h.used) lists) v ∙ ap (λ b. (b && not (is_left_out e v)) || is_asserted e v) (has-lists (seconds_of now) (set_of h.used) lists v));
}

pub all_served : (points : Points) (lists : List Listed) (e : Option AppliedSlurms) (leaves : Bool) (now : CivilMoment) (r : Result ServedSet SetFault) → IfOk r (λ t. IsServed points lists e leaves now t.set) → IfOk r (λ t. HasServed points lists e leaves now t.set)
all_served points lists e leaves now (Ok t) h = has_served h
all_served points lists e leaves now (Err f) h = tt

-- What a call answers, said in other words
pub said_so : (r : Result VrpSet SetFault) (t u : VrpSet) → IfOk r (λ x. x ≡ t) → t ≡ u → IfOk r (λ x. x ≡ u)
said_so (Ok x) t u h e = h ∙ e
said_so (Err f) t u h e = tt

pub over_so : (t u : VrpSet) → t ≡ u → 16777215 < size t → 16777215 < size u
over_so t u e over = subst (λ s. 16777215 < size s) e over

-- What is made of what was left of all, and how much is left out of it
pub is_made : (points : Points) (lists : List Listed) (e : Option AppliedSlurms) (leaves : Bool) (now : CivilMoment) (used : List Payload) (left : VrpSet) (r : Result ServedSet SetFault) → Lists used points now
    → left ≡ excepted_by e (with_lists (seconds_of now) (set_of used) lists) → IfOk r (λ t. (t.set ≡ narrowed leaves left) × (t.left_out ≡ length (left_out_of leaves left)))
    → IfOk r (λ t. IsServed points lists e leaves now t.set)
is_made points lists e leaves now used left (Ok t) in_use is h = record { used = used; in_use = in_use; is = h.0 ∙ ap (narrowed leaves) is }
is_made points lists e leaves now used left (Err f) in_use is h = tt

pub is_counted : (points : Points) (lists : List Listed) (e : Option AppliedSlurms) (leaves : Bool) (now : CivilMoment) (used : List Payload) (left : VrpSet) (r : Result ServedSet SetFault) → Lists used points now
    → left ≡ excepted_by e (with_lists (seconds_of now) (set_of used) lists) → IfOk r (λ t. (t.set ≡ narrowed leaves left) × (t.left_out ≡ length (left_out_of leaves left)))
    → IfOk r (λ t. LeavesOut points lists e leaves now t.left_out)
is_counted points lists e leaves now used left (Ok t) in_use is h = record { used = used; in_use = in_use; is = h.1 ∙ ap (λ s. length (left_out_of leaves s)) is }
is_counted points lists e leaves now used left (Err f) in_use is h = tt

-- How many payloads all give together
pub is_given : (points : Points) (lists : List Listed) (now : CivilMoment) (used : List Payload) (given : ℕ) (r : Result ServedSet SetFault) → Lists used points now
    → given ≡ size (with_lists (seconds_of now) (set_of used) lists) → IfOk r (λ t. t.given ≡ given) → IfOk r (λ t. Gives points lists now t.given)
is_given points lists now used given (Ok t) in_use is h = record { used = used; in_use = in_use; is = h ∙ is }
is_given points lists now used given (Err f) in_use is h = tt

-- What a joining of sets gives, where it gives the same
pub same_joined : (r : Result VrpSet SetFault) (t u : VrpSet) → IfOk r (λ x. (x ≡ t) × (size x ≤ 16777215)) → t ≡ u → IfOk r (λ x. x ≡ u)
same_joined (Ok x) t u h e = h.0 ∙ e
same_joined (Err f) t u h e = tt
