-- A set is published.
use Rattle.rtr_world.proofs.Words.{◌≡◌, ℕ, ◌+◌, ◌-◌, ◌%◌, ◌^◌, ◌<◌, ◌==◌, ◌||◌, Bool, true, false, List, [], ◌∷◌, length, find, Option, Some, None, is_some, Result, Ok, Err, if◌then◌else◌, refl, AllocError, and_parts, cases_Bool, IfSome_then, sym, ap, ◌∙◌, subst, subst₂, arith, inl, inr, Instance, NumberedSet, versions_from, serial_at, is_current, published, HoldsSteps, Publishes, VrpSet, IsVrpSet, Serial, Published, New, Unchanged, Version, V0, V1, Conn, ShowsCache}
use Rattle.vrps.specs.Store.{is_same}
use Rattle.vrps.specs.Stores.{newest}
use Rattle.rtr_world.specs.History.{Outcome, Done, Memory, TooManyVersions, MayEnd, Reached, after, all_have_room, is_used, refusal, room_for, room_since, side_at}
use Rattle.rtr_world.specs.Reached.{ShowsAt, ShowsWorld, StepsOnce}
use Rattle.rtr_world.specs.SideShown.{MadeAt, state_of}
use Rattle.rtr_world.specs.World.{World, Side, Publish, goes_through, instances, is_refused, settled}
use Rattle.rtr_world.specs.declared.event.WorldFault.TheVariants as faults
use Rattle.rtr_world.specs.declared.side.Side as values
use Rattle.rtr_world.specs.declared.world.World as code
use Rattle.rtr_world.proofs.Room.{each_room}
use Rattle.rtr_world.proofs.SideLaws.{inside}
use Rattle.rtr_world.proofs.Rests.{history_rests}
use Rattle.rtr_world.proofs.Showing.{unsettled}
use Rattle.rtr_world.proofs.Versions.{lt_of}

-- the current set
pub no_current : (sets : List VrpSet) (start : ℕ) (set : VrpSet) → None ≡ newest (versions_from start sets) → false ≡ is_current sets set
no_current [] start set h = refl
no_current (now ∷ older) start set h = absurd (let k : ◌≡◌ {A = Option NumberedSet} None (newest (versions_from start (now ∷ older))) = h in cc)

pub some_current : (sets : List VrpSet) (start : ℕ) (set : VrpSet) (v : NumberedSet) → Some v ≡ newest (versions_from start sets) → is_same v.set set ≡ is_current sets set
some_current [] start set v h = absurd (let k : ◌≡◌ {A = Option NumberedSet} (Some v) None = h in cc)
some_current (now ∷ older) start set v h = ap (λ (x : NumberedSet). is_same x.set set) (inside h)

-- the serial of the next version
pub first_next : (start : ℕ) (sets : List VrpSet) (serial : ℕ) → start ≡ serial → start < 2 ^ 32 → None ≡ newest (versions_from start sets) → serial ≡ serial_at start (length sets)
first_next start [] serial is fits h = grind (arith, is, fits)
first_next start (set ∷ older) serial is fits h = absurd (let k : ◌≡◌ {A = Option NumberedSet} None (newest (versions_from start (set ∷ older))) = h in cc)

pub later_next : (start : ℕ) (sets : List VrpSet) (v : NumberedSet) → Some v ≡ newest (versions_from start sets) → (v.serial + 1) % 2 ^ 32 ≡ serial_at start (length sets)
later_next start [] v h = absurd (let k : ◌≡◌ {A = Option NumberedSet} (Some v) None = h in cc)
later_next start (now ∷ older) v h =
    let e : v.serial ≡ serial_at start (length older) = ap (λ (x : NumberedSet). x.serial) (inside h) in
    ap (λ n. (n + 1) % 2 ^ 32) e ∙ (let k : ((start + length older) % 2 ^ 32 + 1) % 2 ^ 32 ≡ (start + (length older + 1)) % 2 ^ 32 = omega arith in k)
    ∙ ap (λ n. (start + n) % 2 ^ 32) (let k : length older + 1 ≡ length (now ∷ older) = omega arith in k)

-- What a Publish may end in goes by whether the set is current, or all have room.
may_publish : (w : World) (set : VrpSet) (b : Bool) → (is_current w.present.sets set || all_have_room w.present w.sides) ≡ b → (outcome : Outcome) → MayEnd (if b then None else Some TooManyVersions) w (Publish set) outcome → MayEnd (refusal w (Publish set)) w (Publish set) outcome
unfolding refusal
may_publish w set b e outcome may = subst (λ b. MayEnd (if b then None else Some TooManyVersions) w (Publish set) outcome) (sym e) may

pub refuses_more : (w : World) (v : code.World) (set : VrpSet) → ShowsWorld w v → IsVrpSet set → is_current w.present.sets set ≡ false → all_have_room w.present w.sides ≡ false → StepsOnce w (Publish set) (Err faults.TooManyVersions) v
refuses_more w v set h fits other none = record {
  outcome = TooManyVersions;
  fits = fits;
  may = may_publish w set false (λ j. other j || none j) TooManyVersions refl;
  answers = refl;
  shows = h;
}

-- The current set adds nothing.
abbrev pub with_set : World → VrpSet → World
with_set w set = record w { present = record w.present { sets = set ∷ w.present.sets } }

publish_sides : (w : World) (set : VrpSet) → Reached w → after (Publish set) (Done None) w ≡ record w { present = published set w.present }
unfolding settled goes_through
publish_sides w set was = ap (λ sides. record w { present = published set w.present; sides = sides }) (unsettled (published set w.present ∷ w.past) w.sides (history_rests was.made was.history w was.leads))

pub publishes_nothing : (w : World) (v : code.World) (set : VrpSet) → Reached w → ShowsWorld w v → IsVrpSet set → is_current w.present.sets set ≡ true → StepsOnce w (Publish set) (Ok tt) v
publishes_nothing w v set was h fits same =
    let is : after (Publish set) (Done None) w ≡ w = publish_sides w set was ∙ rw same refl in
    record {
      outcome = Done None;
      fits = fits;
      may = may_publish w set true (ap (λ b. b || all_have_room w.present w.sides) same) (Done None) tt;
      answers = refl;
      shows = subst (λ x. ShowsWorld x v) (sym is) h;
    }

or_room : (a b : Bool) → b ≡ true → (a || b) ≡ true
or_room true b h = refl
or_room false b h = h

pub publish_fails : (w : World) (v n : code.World) (set : VrpSet) → (h : ShowsWorld w v) → IsVrpSet set → all_have_room w.present w.sides ≡ true → n ≡ record v { cache = n.cache }
    → ShowsCache HoldsSteps (state_of w h.at) n.cache → StepsOnce w (Publish set) (Err faults.Memory) n
unfolding is_refused
publish_fails w v n set h fits room same served = record {
  outcome = Memory 0 None;
  fits = fits;
  may = may_publish w set true (or_room (is_current w.present.sets set) (all_have_room w.present w.sides) room) (Memory 0 None) (refl, tt, omega arith);
  answers = refl;
  shows = subst (ShowsWorld w) (sym same) (record {
    rest = record { keep = h.rest.keep; used = h.rest.used; sessions = h.rest.sessions; start = h.rest.start };
    at = h.at;
    parts = record { serves = served; each = h.parts.each; own = h.parts.own; all = h.parts.all };
  });
}

-- Each side is shown at one version more.
one_more_made : (i : Instance) (set : VrpSet) (home : Option Instance) (made : Option Serial) → room_since i home ≡ true → MadeAt i home made → MadeAt (record i { sets = set ∷ i.sets }) home made
one_more_made i set None made room h = h
one_more_made i set (Some home) made room h = elim (cases_Bool (i.session == home.session)) [
  | inl same ↦ (let k = rw same at h in
      let low : length i.sets - (length home.sets - 1) < 2 ^ 31 = lt_of _ _ (rw same at room) in
      rw same (record { serial = k.serial; behind = omega (arith, k.behind); near = omega (arith, low, k.behind) }))
  | inr other ↦ rw other (rw other at h)
]

some_either : (b : Bool) (x y : Instance) (o : Option Instance) → is_some (if b then Some x else o) ≡ is_some (if b then Some y else o)
some_either true x y o = refl
some_either false x y o = refl

used_still : (w : World) (set : VrpSet) (pv : Version) (session : ℕ) → is_used pv (instances w) session ≡ is_used pv (instances (with_set w set)) session
used_still w set V0 session = some_either (w.present.session0 == session) w.present (record w.present { sets = set ∷ w.present.sets }) (find (λ i. i.session0 == session) w.past)
used_still w set V1 session = some_either (w.present.session == session) w.present (record w.present { sets = set ∷ w.present.sets }) (find (λ i. i.session == session) w.past)

one_more_shown : (w : World) (set : VrpSet) (at : ℕ → Option Conn) (a : Option Side) (q : Option values.Side) → ((s : Side) → a ≡ Some s → room_since w.present s.home ≡ true) → ShowsAt w at a q → ShowsAt (with_set w set) at a q
one_more_shown w set at None None room h = tt
one_more_shown w set at (Some s) (Some v) room h = record { router = h.router; conn = h.conn; up = h.up; down = h.down; made = one_more_made w.present set s.home v.made (room s refl) h.made; made_to = IfSome_then s.home h.made_to (λ i k. sym (used_still w set V1 i.session) ∙ k) }
one_more_shown w set at _ _ room h = h

pub publishes_new : (w : World) (v n : code.World) (set : VrpSet) (result : Result Published AllocError) (published : Published) → Reached w → (h : ShowsWorld w v) → IsVrpSet set → is_current w.present.sets set ≡ false → all_have_room w.present w.sides ≡ true
    → n ≡ record v { cache = n.cache } → result ≡ Ok published → Publishes (λ i cache. ShowsCache HoldsSteps (record (state_of w h.at) { cache = i }) cache) result set w.present n.cache → StepsOnce w (Publish set) (Ok tt) n
publishes_new w v n set result published was h fits other room same went told =
    let is : after (Publish set) (Done None) w ≡ with_set w set = publish_sides w set was ∙ rw other refl in
    record {
      outcome = Done None;
      fits = fits;
      may = may_publish w set true (or_room (is_current w.present.sets set) (all_have_room w.present w.sides) room) (Done None) tt;
      answers = refl;
      shows = subst₂ ShowsWorld (sym is) (sym same) (record {
        rest = record { keep = h.rest.keep; used = λ session session0. h.rest.used session session0 ∙ (λ j. used_still w set V1 session j || used_still w set V0 session0 j); sessions = record { v1 = h.rest.sessions.v1; v0 = h.rest.sessions.v0 }; start = h.rest.start };
        at = h.at;
        parts = record {
          serves = by_answer published (subst (λ r. Publishes (λ i cache. ShowsCache HoldsSteps (record (state_of w h.at) { cache = i }) cache) r set w.present n.cache) went told);
          each = λ r. one_more_shown w set h.at (side_at r w.sides) _ (λ s is. (and_parts (room_for w.present s.router.version) (room_since w.present s.home) (each_room w.present w.sides room r s is)).1) (h.parts.each r);
          own = h.parts.own;
          all = h.parts.all;
        };
      });
    }
  where
    by_answer : (p : Published) → Publishes (λ i cache. ShowsCache HoldsSteps (record (state_of w h.at) { cache = i }) cache) (Ok p) set w.present n.cache → ShowsCache HoldsSteps (state_of (with_set w set) h.at) n.cache
    by_answer (New serial) t = rw other at t.0
    by_answer Unchanged t = absurd (let k : false ≡ true = sym other ∙ t.1 in cc)
