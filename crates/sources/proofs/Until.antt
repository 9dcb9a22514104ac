-- What counts of a set that was taken until a moment.
use Rattle.std.proofs.Common.{◌≡◌, ℕ, IfOk, subst, ◌+◌, ◌-◌, ◌<◌, cond, Bool, true, false, nat_lt, List, [], ◌∷◌, length, replicate, Option, Some, None, refl, sym, ap, ◌∙◌, arith}
use Rattle.std.specs.Prelude.{nat_le, count_by, Result, Ok, Err}
use Rattle.std.specs.declared.alloc.AllocError.{AllocError}
use Rattle.std.proofs.lemmas.Bool.Decides.{nat_tests}
use Rattle.std.proofs.lemmas.List.{length-replicate}
use Rattle.std.specs.FinMap as map
use Rattle.prefixes.specs.Payload.{Payload, vrp_cmp}
use Rattle.vrps.specs.VrpSet.{VrpSet, empty, listing, set_of, size}
use Rattle.vrps.proofs.Listed.{size_of_listing}
use Rattle.vrps.proofs.SetLaws.{set_of-listing}
use Rattle.exports.specs.Lasting.{counting}
use Rattle.sources.specs.ByAnchor.{HasNoAnchors}
use Rattle.sources.specs.Served.{CountsUntil, IsNothing, counting_at, expired_of, none_ignored}
use Rattle.sources.specs.Ccrs.{last_of}
use Rattle.sources.specs.TakenLaws.{CcrsEnd, NothingCounts}
use Rattle.sources.specs.declared.listed.Listed.{Listed}
use Rattle.sources.proofs.Counts.{counted_all}

-- Of records with the same last second all count, or none.
alike : (at last : ℕ) (b : Bool) → nat_le at last ≡ b → (vs : List Payload) → counting at vs (replicate (length vs) last) ≡ cond b vs []
alike at last true is [] = refl
alike at last false is [] = refl
alike at last true is (v ∷ vs) = λ i. cond (is i) (v ∷ alike at last true is vs i) (alike at last true is vs i)
alike at last false is (v ∷ vs) = ap (λ b. cond b (v ∷ counting at vs (replicate (length vs) last)) (counting at vs (replicate (length vs) last))) is ∙ alike at last false is vs

-- a set whose records have the same last second
pub record HasOneEnd (s : VrpSet) (last : ℕ) (l : Listed) : Type 0 where
  pub set_is : l.set ≡ s
  pub lasts_are : l.lasts.items ≡ replicate (size s) last
  pub built_is : l.built ≡ None
  pub ignored_is : l.ignored ≡ none_ignored
  pub anchors_are : HasNoAnchors l.anchors

whole : (s : VrpSet) (b : Bool) → set_of (cond b (listing s) []) ≡ cond b s empty
whole s true = set_of-listing s
whole s false = refl

at_second : (at last : ℕ) (s : VrpSet) (l : Listed) → l.set ≡ s → l.lasts.items ≡ replicate (size s) last → counting_at at l ≡ cond (nat_le at last) s empty
at_second at last s l set_is lasts_are =
    (λ i. set_of (counting at (listing (set_is i)) (lasts_are i)))
    ∙ ap (λ n. set_of (counting at (listing s) (replicate n last))) (sym (size_of_listing s))
    ∙ ap set_of (alike at last (nat_le at last) refl (listing s))
    ∙ whole s (nat_le at last)

-- At each second a record counts or has expired, and at the first all count.
either_way : (at last : ℕ) (s : VrpSet) (l : Listed) → HasOneEnd s last l → size (counting_at at l) + expired_of at (Some l) ≡ size (counting_at 0 l)
either_way at last s l is =
    let first : nat_le 0 last ≡ true = grind (arith, nat_tests) in
    counted_all at l (ap length is.lasts_are ∙ length-replicate (size s) last ∙ ap (λ t. size t) (sym is.set_is))
    ∙ ap (λ t. size t) (is.set_is ∙ sym (at_second 0 last s l is.set_is is.lasts_are ∙ ap (λ b. cond b s empty) first))

-- No record has a last second.
pub no_lasts : (last : ℕ) → [] ≡ replicate (size empty) last
no_lasts last = sym (ap (λ n. replicate n last) (map.len-empty vrp_cmp (Unit {0})))

-- A canonical cache representation ends with its age.
pub ccrs_end : CcrsEnd
ccrs_end max_age bytes now expired l taken at later = by (nat_le now last) refl where
  last : ℕ
  last = last_of taken.made taken.age

  vrps : VrpSet
  vrps = set_of taken.vrps.0

  whole_list : counting_at at l ≡ cond (nat_le at last) l.set empty
  whole_list = at_second at last l.set l refl taken.lasts_are

  by : (counts : Bool) → nat_le now last ≡ counts → counting_at at l ≡ cond (nat_le at last) vrps empty
  by true is = whole_list ∙ ap (λ s. cond (nat_le at last) s empty) (taken.set_is ∙ ap (λ b. cond b vrps empty) is)
  by false is =
      let over : nat_le at last ≡ false = grind (arith, nat_tests) in
      whole_list ∙ ap (λ b. cond b l.set empty) over ∙ sym (ap (λ b. cond b vrps empty) over)

-- Without an end ..
pub without_end : (s : VrpSet) (l : Listed) → HasOneEnd s 18446744073709551615 l → CountsUntil s None l
without_end s l is = record {
  counts = λ at small. let all : nat_le at 18446744073709551615 ≡ true = grind (arith, nat_tests) in at_second at 18446744073709551615 s l is.set_is is.lasts_are ∙ ap (λ b. cond b s empty) all;
  expired = λ at small. either_way at 18446744073709551615 s l is;
  built_is = is.built_is;
  ignored_is = is.ignored_is;
  anchors_are = is.anchors_are;
}

one_before : (at end : ℕ) → 0 < end → (b : Bool) → nat_lt at end ≡ b → nat_le at (end - 1) ≡ b
one_before at end some true is = grind (arith, nat_tests)
one_before at end some false is = grind (arith, nat_tests)

-- .. with one after the first second ..
pub with_end : (s : VrpSet) (end : ℕ) (l : Listed) → 0 < end → HasOneEnd s (end - 1) l → CountsUntil s (Some end) l
with_end s end l some is = record {
  counts = λ at small. at_second at (end - 1) s l is.set_is is.lasts_are ∙ ap (λ b. cond b s empty) (one_before at end some (nat_lt at end) refl);
  expired = λ at small. either_way at (end - 1) s l is;
  built_is = is.built_is;
  ignored_is = is.ignored_is;
  anchors_are = is.anchors_are;
}

-- nothing counts of nothing
pub nothing_counts : NothingCounts
nothing_counts l is at = (
  (λ i. set_of (counting at (listing (is.set i)) (is.lasts i))) ∙ none (listing empty) (size_of_listing empty ∙ map.len-empty vrp_cmp (Unit {0})),
  ap (λ lasts. count_by (λ last. nat_lt last at) lasts) is.lasts,
)
  where
    none : (vs : List Payload) → length vs ≡ 0 → set_of (counting at vs []) ≡ empty
    none [] h = refl
    none (v ∷ vs) h = absurd (omega (arith, h))

-- .. and with one at the first.
pub over_at_once : (s : VrpSet) (end : ℕ) (l : Listed) → end ≡ 0 → IsNothing l → CountsUntil s (Some end) l
over_at_once s end l over is = record {
  counts = λ at small.
      let no : nat_lt at end ≡ false = grind (arith, nat_tests) in
      (nothing_counts l is at).0 ∙ sym (ap (λ b. cond b s empty) no);
  expired = λ at small.
      let same : counting_at at l ≡ counting_at 0 l = (nothing_counts l is at).0 ∙ sym (nothing_counts l is 0).0 in
      let both : size (counting_at at l) ≡ size (counting_at 0 l) = ap (λ t. size t) same in
      omega (arith, both, (nothing_counts l is at).1);
  built_is = is.built;
  ignored_is = is.ignored;
  anchors_are = is.anchors;
}

-- what was made for each of these
abbrev Made : VrpSet → ℕ → Result Listed AllocError → Type 0
Made s last r = IfOk r (λ l. (l.set ≡ s) × (l.built ≡ None) × (l.ignored ≡ none_ignored) × HasNoAnchors l.anchors) × IfOk r (λ l. l.lasts.items ≡ replicate (size s) last)

pub made_without_end : (s : VrpSet) (until : Option ℕ) (r : Result Listed AllocError) → until ≡ None → Made s 18446744073709551615 r → IfOk r (CountsUntil s until)
made_without_end s until (Ok l) is h = subst (λ u. CountsUntil s u l) (sym is) (without_end s l (record { set_is = h.0.0; lasts_are = h.1; built_is = h.0.1; ignored_is = h.0.2; anchors_are = h.0.3 }))
made_without_end s until (Err e) is h = tt

pub made_with_end : (s : VrpSet) (until : Option ℕ) (end : ℕ) (r : Result Listed AllocError) → until ≡ Some end → ¬ (end ≡ 0) → Made s (end - 1) r → IfOk r (CountsUntil s until)
made_with_end s until end (Ok l) is some h = subst (λ u. CountsUntil s u l) (sym is) (with_end s end l (omega (arith, some)) (record { set_is = h.0.0; lasts_are = h.1; built_is = h.0.1; ignored_is = h.0.2; anchors_are = h.0.3 }))
made_with_end s until end (Err e) is some h = tt
