-- Room for one version more.
use Rattle.rtr_world.proofs.Words.{◌≡◌, ℕ, ◌+◌, ◌-◌, ◌≤◌, ◌<◌, ◌^◌, ◌==◌, ◌&&◌, ◌||◌, Bool, true, false, nat_lt, List, [], ◌∷◌, length, Option, Some, None, IfSome, refl, option_map, sym, ap, ◌∙◌, subst, arith, inl, inr, zero, suc, and_parts, cases_Bool, cases_eq, length-append, Instance, versions, serial_at, Serial, session_in, Committed, eq_of, false_if_never, not_both}
use Rattle.std.specs.Prelude.{is_none}
use Rattle.rtr_world.specs.History.{Reached, all_have_room, is_near, room_for, room_since, side_at}
use Rattle.rtr_world.specs.VersionPlaces.{position_of}
use Rattle.rtr_world.specs.SideShown.{MadeAt, held_of}
use Rattle.rtr_world.specs.World.{World, Side, instances}
use Rattle.rtr_world.proofs.SideLaws.{inside}
use Rattle.rtr_world.proofs.Versions.{Present, TableAt, of_present, position_at}
use Rattle.rtr_world.proofs.WorldSteps.{GoodWorld, Known, history_known, good_world}
use Rattle.rtr_world.proofs.Routers.{low_of, each_at}

pub reached_good : (w : World) → Reached w → GoodWorld w
reached_good w r = good_world r.made r.history w r.leads

pub reached_known : (w : World) (r : ℕ) (s : Side) → Reached w → side_at r w.sides ≡ Some s → Known w s
reached_known w r s reached found = each_at (Known w) r w.sides s (history_known reached.made reached.history w reached.leads) found

-- What the test of two serials answers
abbrev pub Tests : Option Serial → ℕ → Bool → Type 0
Tests held next answer = (start position steps : ℕ) → steps ≤ 2 ^ 31 → IfSome held (λ s. s.0 ≡ serial_at start position) → next ≡ serial_at start (position + steps) → answer ≡ (is_none held || nat_lt steps (2 ^ 31))

tests_none : (held : Option Serial) (next : ℕ) (answer : Bool) → Tests held next answer → held ≡ None → (start position : ℕ) → next ≡ serial_at start position → answer ≡ true
tests_none held next answer tests none start position is =
    tests start position 0 (omega arith) (subst (λ h. IfSome h (λ s. s.0 ≡ serial_at start position)) (sym none) tt) (is ∙ ap (serial_at start) (let e : position ≡ position + 0 = omega arith in e)) ∙ ap (λ h. is_none h || nat_lt 0 (2 ^ 31)) none

tests_some : (held : Option Serial) (next : ℕ) (answer : Bool) → Tests held next answer → (serial start position total : ℕ) → option_map (λ s. s.0) held ≡ Some serial → serial ≡ serial_at start position → next ≡ serial_at start total → position ≤ total → total - position ≤ 2 ^ 31
    → answer ≡ nat_lt (total - position) (2 ^ 31)
tests_some None next answer tests serial start position total is at after behind near = absurd (let k : ◌≡◌ {A = Option ℕ} None (Some serial) = is in cc)
tests_some (Some s) next answer tests serial start position total is at after behind near =
    tests start position (total - position) near (inside is ∙ at) (after ∙ ap (serial_at start) (let e : total ≡ position + (total - position) = omega (arith, behind) in e))

no_serial : (held : Option Serial) → option_map (λ s. s.0) held ≡ None → held ≡ None
no_serial None h = refl
no_serial (Some s) h = absurd (let k : ◌≡◌ {A = Option ℕ} (Some s.0) None = h in cc)

-- of the version that a router holds
pub room_held : (w : World) (s : Side) (held : Option Serial) (next : ℕ) (answer : Bool) → Tests held next answer → Present (instances w) w.present → TableAt (instances w) s.router.version s.router.table
    → next ≡ serial_at w.present.start (length w.present.sets) → option_map (λ x. x.0) held ≡ held_of w.present s.router.version → answer ≡ room_for w.present s.router.version
room_held w s held next answer tests p table after is = by_version s.router.version table is
  where
    by_version : (version : Option Committed) → TableAt (instances w) version s.router.table → option_map (λ x. x.0) held ≡ held_of w.present version → answer ≡ room_for w.present version
    by_version None t h = tests_none held next answer tests (no_serial held h) w.present.start (length w.present.sets) after
    by_version (Some version) t h = elim (cases_Bool (session_in version.version w.present == version.session)) [
      | inl e ↦ (let mine : version.session ≡ session_in version.version w.present = sym (eq_of (session_in version.version w.present) version.session e) in
          let same : t.i ≡ w.present = of_present (instances w) w.present p version.version version.session version.serial s.router.table t mine in
          let place : position_of version.serial (versions w.present) ≡ Some (length t.older) = ap (λ x. position_of version.serial (versions x)) (sym same) ∙ position_at (instances w) version.version version.session version.serial s.router.table t in
          let sets : length w.present.sets ≡ length t.newer + length (s.router.table ∷ t.older) = ap (λ (x : Instance). length x.sets) (sym same) ∙ ap length t.sets ∙ length-append t.newer (s.router.table ∷ t.older) in
          let answers = tests_some held next answer tests version.serial w.present.start (length t.older) (length w.present.sets) (rw e at h) (t.serial_is ∙ ap (λ (x : Instance). serial_at x.start (length t.older)) same) after (omega (arith, sets)) (omega (arith, sets, t.young)) in
          rw e (answers ∙ ap (is_near w.present) (sym place)))
      | inr e ↦ rw e (tests_none held next answer tests (no_serial held (rw e at h)) w.present.start (length w.present.sets) after)
    ]

-- of the one that was current when the connection was made
pub room_made : (i : Instance) (home : Option Instance) (made : Option Serial) (next : ℕ) (answer : Bool) → Tests made next answer → MadeAt i home made → next ≡ serial_at i.start (length i.sets) → answer ≡ room_since i home
room_made i None made next answer tests none after = tests_none made next answer tests none i.start (length i.sets) after
room_made i (Some home) made next answer tests is after = elim (cases_Bool (i.session == home.session)) [
  | inl e ↦ let h = rw e at is in rw e (tests_some made next answer tests (serial_at i.start (length home.sets - 1)) i.start (length home.sets - 1) (length i.sets) (ap (option_map (λ x. x.0)) h.serial) refl after (omega (arith, h.behind)) h.near)
  | inr e ↦ rw e (tests_none made next answer tests (rw e at is) i.start (length i.sets) after)
]

-- The first sides have room.
abbrev pub has_room_at : World → Side → Bool
has_room_at w s = room_for w.present s.router.version && room_since w.present s.home

abbrev pub FirstHaveRoom : World → ℕ → Type 0
FirstHaveRoom w k = (r : ℕ) (s : Side) → r < k → side_at r w.sides ≡ Some s → has_room_at w s ≡ true

pub one_more : (w : World) (k : ℕ) (s : Side) → FirstHaveRoom w k → side_at k w.sides ≡ Some s → has_room_at w s ≡ true → FirstHaveRoom w (k + 1)
one_more w k s first is room r t low found = elim (cases_eq r k) [
  | inl same ↦ ap (has_room_at w) (inside (sym found ∙ ap (λ n. side_at n w.sides) same ∙ is)) ∙ room
  | inr other ↦ first r t (omega (arith, low, other)) found
]

all_room : (i : Instance) (sides : List Side) → ((r : ℕ) (s : Side) → side_at r sides ≡ Some s → (room_for i s.router.version && room_since i s.home) ≡ true) → all_have_room i sides ≡ true
all_room i [] h = refl
all_room i (s ∷ sides) h = (λ j. h zero s refl j && all_room i sides (λ r t is. h (suc r) t is) j)

pub all_first : (w : World) (k : ℕ) → FirstHaveRoom w k → length w.sides ≤ k → true ≡ all_have_room w.present w.sides
all_first w k first all = sym (all_room w.present w.sides (λ r s is. first r s (let low = low_of r w.sides s is in omega (arith, low, all)) is))

-- If all have room, each has.
pub each_room : (i : Instance) (sides : List Side) → all_have_room i sides ≡ true → (r : ℕ) (s : Side) → side_at r sides ≡ Some s → (room_for i s.router.version && room_since i s.home) ≡ true
each_room i [] h r s is = absurd (let k : ◌≡◌ {A = Option Side} None (Some s) = is in cc)
each_room i (t ∷ sides) h zero s is =
    ap (λ x. room_for i x.router.version && room_since i x.home) (sym (inside is)) ∙ (and_parts (room_for i t.router.version && room_since i t.home) (all_have_room i sides) h).0
each_room i (t ∷ sides) h (suc r) s is = each_room i sides (and_parts (room_for i t.router.version && room_since i t.home) (all_have_room i sides) h).1 r s is

pub is_far : (w : World) (r : ℕ) (s : Side) → side_at r w.sides ≡ Some s → has_room_at w s ≡ false → false ≡ all_have_room w.present w.sides
is_far w r s is far = sym (false_if_never (all_have_room w.present w.sides) (λ all. not_both (has_room_at w s) (each_room w.present w.sides all r s is) far))
