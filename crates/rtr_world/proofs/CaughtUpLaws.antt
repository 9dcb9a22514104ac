-- Catching up, connection by connection.
use Rattle.rtr_world.proofs.Words.{◌≡◌, ◌⊎◌, ℕ, ◌+◌, ◌≤◌, ◌<◌, true, false, List, [], ◌∷◌, ◌++◌, length, Option, Some, None, IsSome, is_some, option_and_then, option_map, Result, Ok, Err, is_err, refl, ⊤, sym, ap, ◌∙◌, subst, append_assoc, arith, inl, inr, append-nil, NumberedSet, versions, versions_from, VrpSet, Version, session_in, name_of, told_link, Link, Closed, Idle, Asked, AskReset, Committed, of_version, all_both, not_both}
use Rattle.vrps.specs.Stores.{newest}
use Rattle.rtr_ends.specs.declared.link.Link.{Link as Told}
use Rattle.rtr_ends.specs.declared.link.Link.TheVariants as links
use Rattle.rtr_world.specs.CatchUp.{AreMoves, HoldsNewest, IdleAfter, IdleSoon, IsFresh, IsMoveOf, Rests, RestsNext, RestsSo, RestsSoon, round}
use Rattle.rtr_world.specs.CaughtUp.{AllWent, AreDone, By, Caught, CatchesUp, ComesToRest, Concluded, GoesRound, HoldsThen, IdleOrDropped, IsCutOff, IsDone, IsIdle, KeepOpen, KeepsOpen, Lacks, Reconnected, Rounded, StaysOpen, all_bytes, connecting, connections}
use Rattle.rtr_world.specs.History.{Done, Entry, Made, Leads, side_at}
use Rattle.rtr_world.specs.Reached.{LeadsTo, ShowsWorld}
use Rattle.rtr_world.specs.World.{World, Side, Connect, Cut, Event, On, connects, instances, settle}
use Rattle.rtr_world.specs.declared.event.CatchFault.{CatchFault}
use Rattle.rtr_world.specs.declared.event.CatchFault.TheVariants as faults
use Rattle.rtr_world.specs.declared.event.WorldFault.{WorldFault}
use Rattle.rtr_world.specs.declared.world.World as code
use Rattle.rtr_world.proofs.SideLaws.{inside}
use Rattle.rtr_world.proofs.CatchUpSides.{idle_is_current}
use Rattle.rtr_world.proofs.CatchUpRounds.{catches_up, rounds_end}
use Rattle.rtr_world.proofs.CatchUpSteps.{OnlySides, round_same, rounded_sides, rounds_are_steps, stepped_sides}
use Rattle.rtr_world.proofs.Rounds.{Promises, Stepped, Went, cut_leaves, entry_of, failed, lacks_behind, parted, step_of, went}
use Rattle.rtr_world.proofs.Showing.{shown_length}
use Rattle.rtr_world.proofs.Routers.{each_at, routers_stay, side_in}

-- Connections are counted.
connections_more : (xs ys : List Entry) → connections (xs ++ ys) ≡ connections xs + connections ys
connections_more [] ys = omega arith
connections_more (x ∷ xs) ys = ap (λ n. connecting x.event + n) (connections_more xs ys) ∙ omega arith

connects_not : (r : ℕ) (event : Event) → IsMoveOf r event → KeepsOpen event → connecting event ≡ 0
connects_not r (On one Connect) is keeps = absurd keeps
connects_not r _ is keeps = refl

none_connect : (r : ℕ) (entries : List Entry) → AreMoves r entries → KeepOpen entries → connections entries ≡ 0
none_connect r [] moves keep = refl
none_connect r (x ∷ entries) moves keep = (λ i. connects_not r x.event moves.0 keep.0 i + none_connect r entries moves.1 keep.1 i)

-- Where a round leads to, stated of the world before the connection
goes_at : (r : ℕ) (w v n : World) (more : List Entry) (t : Side) → OnlySides w v → side_at r v.sides ≡ Some t → (g : GoesRound r v more n) → (side_at r n.sides ≡ Some (round w all_bytes g.at_cache g.at_router t)) × OnlySides w n
goes_at r w v n more t c found g = (
  ap (λ (x : World). side_at r x.sides) g.is ∙ (rounds_are_steps r v t found).round_is all_bytes g.at_cache g.at_router ∙ ap (λ x. Some (round x all_bytes g.at_cache g.at_router t)) c ∙ ap Some (round_same w v.sides all_bytes g.at_cache g.at_router t),
  g.is ∙ rounded_sides r all_bytes g.at_cache g.at_router v ∙ (λ i. record (c i) { sides = (sym g.is i).sides }),
)

-- the state of a link that was notified
asked_or_rests : (s : Side) → told_link s.router.link ≡ links.Asked → Rests s → ⊥
asked_or_rests s = by_link s.router.link
  where
    by_link : (l : Link) → told_link l ≡ links.Asked → RestsSo s l → ⊥
    by_link Closed e h = let k : links.Closed ≡ links.Asked = e in cc
    by_link Idle e h = let k : links.Idle ≡ links.Asked = e in cc
    by_link _ e h = h

module _ (made : Made) (history : List Entry) (r : ℕ) (v : code.World) (l : LeadsTo made history v) (s : Side) (found : side_at r l.world.sides ≡ Some s) where
  abbrev w : World
  w = l.world

  -- what a router asks for that connects
  abbrev asking : Side
  asking = settle (instances w) (connects w s)

  -- the side after a round of a connection, with memory running out at these PDUs
  abbrev after_one : Option ℕ → Option ℕ → Side
  after_one n m = round w all_bytes n m asking

  soon : (n m : Option ℕ) → Rests (after_one n m) ⊎ (((after_one n m).router.link ≡ Asked AskReset) × RestsNext w (after_one n m))
  soon n m = each_at (λ s. RestsSoon w (settle (instances w) (connects w s))) r w.sides s (rounds_end made history w l.leads) found all_bytes n m (omega arith)

  idle_soon : IdleAfter w s.router.version (after_one None None)
  idle_soon = each_at (λ s. IdleSoon w s.router.version (settle (instances w) (connects w s))) r w.sides s (catches_up made history w l.leads) found all_bytes (omega arith)

  -- what the call on one router promises
  module _ (mid : code.World) (step : Result ⊤ WorldFault) (on : Promises r Connect step v mid) where
    t : Stepped made history w r Connect step mid
    t = step_of made history v mid r Connect step l on

    -- No connection was made.
    pub not_connected : (fault last : WorldFault) → step ≡ Err fault → Reconnected 1 made history r s IdleOrDropped (Err last) mid
    not_connected fault last err = record {
      more = entry_of r Connect t.outcome ∷ [];
      moves = ((refl, tt), tt);
      few = omega arith;
      leads = t.leads;
      ends = failed made history w r Connect step mid t s found fault err;
    }

    module _ (ok : step ≡ Ok tt) where
      k : Went made history w r Connect step mid t
      k = went made history w r Connect step mid t ok

      abbrev connection : Entry
      connection = entry_of r Connect (Done k.wanting)

      abbrev since : List Entry
      since = history ++ connection ∷ []

      cache : OnlySides w k.leads.world
      cache = k.is ∙ stepped_sides r Connect k.wanting w ∙ (λ i. record w { sides = (sym k.is i).sides })

      found_asking : side_at r k.leads.world.sides ≡ Some asking
      found_asking = ap (λ (x : World). side_at r x.sides) k.is ∙ (rounds_are_steps r w s found).connected k.wanting

      -- It comes to rest after these moves, or one of them fails.
      abbrev AtRest : List Entry → World → Type 0
      AtRest more x = (t : Side) × (side_at r x.sides ≡ Some t) × Rests t × AreDone more × (AllWent more → IdleOrDropped s t)

      moves_on : (result : Result ⊤ WorldFault) (more : List Entry) (new : code.World) → AreMoves r more → KeepOpen more → (t : LeadsTo made (since ++ more) new) → By result (AtRest more t.world) (Lacks r more t.world) → Reconnected 1 made history r s IdleOrDropped result new
      moves_on result more new moves keep t ends =
          let none = none_connect r more moves keep in
          record {
            more = connection ∷ more;
            moves = ((refl, tt), moves);
            few = omega (arith, none);
            leads = record { world = t.world; leads = subst (λ h. Leads made h t.world) (append_assoc history (connection ∷ []) more) t.leads; shows = t.shows };
            ends = by_result result ends;
          }
        where
          by_result : (result : Result ⊤ WorldFault) → By result (AtRest more t.world) (Lacks r more t.world) → By result (ComesToRest r s IdleOrDropped (connection ∷ more) t.world) (Lacks r (connection ∷ more) t.world)
          by_result (Err last) lacks = lacks_behind r (connection ∷ []) more t.world lacks
          by_result (Ok done) rest = record {
            stays = record { before = []; wanting = k.wanting; later = more; are = refl; moves = moves; keep = keep; done = rest.3 };
            side = rest.0;
            found = rest.1;
            rests = rest.2;
            becomes = λ all. rest.4 all.1;
          }

      -- what the first round promises
      module _ (one : code.World) (round1 : Result ⊤ WorldFault) (goes : (h : List Entry) (x : LeadsTo made h mid) (y : Side) → side_at r x.world.sides ≡ Some y → Rounded made h r x.world round1 one) where
        pub first_failed : (fault last : WorldFault) → round1 ≡ Err fault → Reconnected 1 made history r s IdleOrDropped (Err last) one
        first_failed fault last err =
            let m = goes since k.leads asking found_asking in
            moves_on (Err last) m.more one m.moves m.keep m.leads (subst (λ x. By x (GoesRound r k.leads.world m.more m.leads.world) (Lacks r m.more m.leads.world)) err m.ends)

        module _ (ok1 : round1 ≡ Ok tt) (told : Told) (tells : (x : World) (y : Side) → ShowsWorld x one → side_at r x.sides ≡ Some y → told ≡ told_link y.router.link) where
          m : Rounded made since r k.leads.world (Ok tt) one
          m = subst (λ x. Rounded made since r k.leads.world x one) ok1 (goes since k.leads asking found_asking)

          abbrev there : Side
          there = after_one m.ends.at_cache m.ends.at_router

          place : (side_at r m.leads.world.sides ≡ Some there) × OnlySides w m.leads.world
          place = goes_at r w k.leads.world m.leads.world m.more asking cache found_asking m.ends

          is_told : told ≡ told_link there.router.link
          is_told = tells m.leads.world there m.leads.shows place.0

          at_none : AllWent m.more → IdleAfter w s.router.version there
          at_none all = let none = m.ends.none all in subst (λ t. IdleAfter w s.router.version t) (λ i. after_one (sym none.0 i) (sym none.1 i)) idle_soon

          -- One round was enough.
          pub rests_at_once : ¬ (told ≡ links.Asked) → Reconnected 1 made history r s IdleOrDropped (Ok tt) one
          rests_at_once other = moves_on (Ok tt) m.more one m.moves m.keep m.leads (
            there,
            place.0,
            elim (soon m.ends.at_cache m.ends.at_router) [ inl rests ↦ rests | inr asks ↦ absurd (other (is_told ∙ ap told_link asks.0)) ],
            m.ends.done,
            λ all. elim (at_none all) [
              | inl idle ↦ inl idle
              | inr more ↦ elim more [ inl asks ↦ absurd (other (is_told ∙ ap told_link asks.0)) | inr told ↦ inr (told.0, told.1, told.2) ]
            ],
          )

          -- The router asked for all, and a second round follows.
          module _ (asked : told ≡ links.Asked) (result : Result ⊤ WorldFault) (new : code.World) (again : (h : List Entry) (x : LeadsTo made h one) (y : Side) → side_at r x.world.sides ≡ Some y → Rounded made h r x.world result new) where
            n : Rounded made (since ++ m.more) r m.leads.world result new
            n = again (since ++ m.more) m.leads there place.0

            second : (result : Result ⊤ WorldFault) → By result (GoesRound r m.leads.world n.more n.leads.world) (Lacks r n.more n.leads.world) → By result (AtRest (m.more ++ n.more) n.leads.world) (Lacks r (m.more ++ n.more) n.leads.world)
            second (Err fault) lacks = lacks_behind r m.more n.more n.leads.world lacks
            second (Ok done) e = (
              round w all_bytes e.at_cache e.at_router there,
              (goes_at r w m.leads.world n.leads.world n.more there place.1 place.0 e).0,
              elim (soon m.ends.at_cache m.ends.at_router) [ inl rests ↦ absurd (asked_or_rests there (sym is_told ∙ asked) rests) | inr asks ↦ asks.1 all_bytes e.at_cache e.at_router (omega arith) ],
              all_both (λ y. IsDone y.outcome) m.more n.more m.ends.done e.done,
              λ all. let both = parted (λ y. y.outcome ≡ Done None) m.more n.more all in inl (elim (at_none both.0) [
                | inl idle ↦ absurd (let k : links.Idle ≡ links.Asked = sym (ap told_link idle) ∙ sym is_told ∙ asked in cc)
                | inr more ↦ elim more [
                  | inl asks ↦ let none = e.none both.1 in subst (λ (t : Side). t.router.link ≡ Idle) (λ i. round w all_bytes (sym none.0 i) (sym none.1 i) there) (asks.1 all_bytes (omega arith))
                  | inr told ↦ absurd (let k : links.Closed ≡ links.Asked = sym (ap told_link told.1) ∙ sym is_told ∙ asked in cc)
                ]
              ]),
            )

            pub rests_then : Reconnected 1 made history r s IdleOrDropped result new
            rests_then = moves_on result (m.more ++ n.more) new (all_both (λ e. IsMoveOf r e.event) m.more n.more m.moves n.moves) (all_both (λ e. KeepsOpen e.event) m.more n.more m.keep n.keep)
                (record { world = n.leads.world; leads = subst (λ h. Leads made h n.leads.world) (append_assoc since m.more n.more) n.leads.leads; shows = n.leads.shows }) (second result n.ends)

-- what stays so behind other entries
pub behind : (r : ℕ) (xs ys : List Entry) → StaysOpen r ys → StaysOpen r (xs ++ ys)
behind r xs ys s = record {
  before = xs ++ s.before;
  wanting = s.wanting;
  later = s.later;
  are = ap (λ l. xs ++ l) s.are ∙ sym (append_assoc xs s.before (entry_of r Connect (Done s.wanting) ∷ s.later));
  moves = s.moves;
  keep = s.keep;
  done = s.done;
}

rests_behind : (r : ℕ) (old was : Side) (P Q : Side → Side → Type 0) (xs ys : List Entry) (w : World) → (h : ComesToRest r was P ys w) → (P was h.side → Q old h.side) → ComesToRest r old Q (xs ++ ys) w
rests_behind r old was P Q xs ys w h goes = record {
  stays = behind r xs ys h.stays;
  side = h.side;
  found = h.found;
  rests = h.rests;
  becomes = λ all. goes (h.becomes (parted (λ e. e.outcome ≡ Done None) xs ys all).1);
}

module _ (made : Made) (history : List Entry) (r : ℕ) (s : Side) (mid : code.World) (first : Result ⊤ WorldFault) (once : Reconnected 1 made history r s IdleOrDropped first mid) where
  -- One connection is at most two, whatever it came to.
  as_twice : (result : Result ⊤ WorldFault) → (By first (ComesToRest r s IdleOrDropped once.more once.leads.world) (Lacks r once.more once.leads.world) → By result (ComesToRest r s IsIdle once.more once.leads.world) (Lacks r once.more once.leads.world)) → Reconnected 2 made history r s IsIdle result mid
  as_twice result goes = record { more = once.more; moves = once.moves; few = omega (arith, once.few); leads = once.leads; ends = goes once.ends }

  pub failed_once : (fault last : WorldFault) → first ≡ Err fault → Reconnected 2 made history r s IsIdle (Err last) mid
  failed_once fault last err = as_twice (Err last) (λ x. subst (λ y. By y (ComesToRest r s IdleOrDropped once.more once.leads.world) (Lacks r once.more once.leads.world)) err x)

  module _ (ok : first ≡ Ok tt) where
    rest : ComesToRest r s IdleOrDropped once.more once.leads.world
    rest = subst (λ y. By y (ComesToRest r s IdleOrDropped once.more once.leads.world) (Lacks r once.more once.leads.world)) ok once.ends

    -- It did not have to drop what it held.
    pub just_once : ((x : World) (y : Side) → ShowsWorld x mid → side_at r x.sides ≡ Some y → IsSome s.router.version → is_some y.router.version ≡ true) → Reconnected 2 made history r s IsIdle (Ok tt) mid
    just_once kept = as_twice (Ok tt) (λ x. rests_behind r s s IdleOrDropped IsIdle [] once.more once.leads.world rest (λ told. elim told [
      | inl idle ↦ idle
      | inr gone ↦ absurd (let k : true ≡ false = sym (kept once.leads.world rest.side once.leads.shows rest.found gone.0) ∙ ap is_some gone.2 in cc)
    ]))

    -- A second connection of a router that holds no session ends in an idle link.
    pub and_again : ((x : World) (y : Side) → ShowsWorld x mid → side_at r x.sides ≡ Some y → is_some y.router.version ≡ false) → (result : Result ⊤ WorldFault) (new : code.World)
        → ((h : List Entry) (x : LeadsTo made h mid) (y : Side) → side_at r x.world.sides ≡ Some y → Reconnected 1 made h r y IdleOrDropped result new) → Reconnected 2 made history r s IsIdle result new
    and_again none result new again =
        let b = again (history ++ once.more) once.leads rest.side rest.found in
        record {
          more = once.more ++ b.more;
          moves = all_both (λ e. IsMoveOf r e.event) once.more b.more once.moves b.moves;
          few = omega (arith, connections_more once.more b.more, once.few, b.few);
          leads = record { world = b.leads.world; leads = subst (λ h. Leads made h b.leads.world) (append_assoc history once.more b.more) b.leads.leads; shows = b.leads.shows };
          ends = by_result result b.more b.leads.world b.ends;
        }
      where
        by_result : (result : Result ⊤ WorldFault) (more : List Entry) (w : World) → By result (ComesToRest r rest.side IdleOrDropped more w) (Lacks r more w) → By result (ComesToRest r s IsIdle (once.more ++ more) w) (Lacks r (once.more ++ more) w)
        by_result (Err fault) more w h = lacks_behind r once.more more w h
        by_result (Ok done) more w h = rests_behind r s rest.side IdleOrDropped IsIdle once.more more w h (λ told. elim told [
          | inl idle ↦ idle
          | inr gone ↦ absurd (not_both (is_some rest.side.router.version) gone.0 (none once.leads.world rest.side once.leads.shows rest.found))
        ])

-- what the name that a router gives says of its version
pub is_named : (r : ℕ) (w : World) (s : Side) → side_at r w.sides ≡ Some s → {A : Type 0} (f : A → Version × ℕ × ℕ) (told : Option A) → option_map f told ≡ option_and_then (λ (s : Side). name_of s.router.version) (side_at r w.sides) → is_some s.router.version ≡ is_some told
is_named r w s found {A = A} f told e = by_name told s.router.version (e ∙ ap (λ o. option_and_then (λ (s : Side). name_of s.router.version) o) found)
  where
    by_name : (o : Option A) (version : Option Committed) → option_map f o ≡ name_of version → is_some version ≡ is_some o
    by_name None None h = refl
    by_name (Some name) (Some version) h = refl
    by_name None (Some version) h = absurd (let k : None ≡ Some _ = h in cc)
    by_name (Some name) None h = absurd (let k : Some _ ≡ None = h in cc)

-- What an idle link holds then
pub told_idle : (l : Link) → told_link l ≡ links.Idle → l ≡ Idle
told_idle Idle h = refl
told_idle l h = absurd (let k : told_link l ≡ links.Idle = h in cc)

pub idle_holds : (made : Made) (history : List Entry) (v : code.World) (r : ℕ) (l : LeadsTo made history v) → StaysOpen r history → (s : Side) → side_at r l.world.sides ≡ Some s → s.router.link ≡ Idle
    → (s.router.spoken ≡ s.router.speaks) × HoldsNewest s.router.spoken (session_in s.router.spoken l.world.present) (versions l.world.present) s.router.version s.router.table
idle_holds made history v r l o s found idle =
    let fresh = idle_is_current made o.before o.later r o.wanting l.world s (subst (λ h. Leads made h l.world) o.are l.leads) o.moves found in
    let k = subst (IsFresh l.world.present s.home s.router) idle fresh in
    (k.0, k.2)

holds_now : (pv : Version) (session : ℕ) (vs : List NumberedSet) (version : Option Committed) (table : VrpSet) (now : NumberedSet) → newest vs ≡ Some now → HoldsNewest pv session vs version table → (name_of version ≡ Some (pv, session, now.serial)) × (table ≡ now.set)
holds_now pv session [] version table now is h = absurd (let k : ◌≡◌ {A = Option NumberedSet} None (Some now) = is in cc)
holds_now pv session (v ∷ older) None table now is h = absurd h
holds_now pv session (v ∷ older) (Some version) table now is h =
    ((λ i. Some (h.0 i, h.1 i, (h.2 ∙ ap (λ (x : NumberedSet). x.serial) (inside is)) i)), h.3 ∙ ap (λ (x : NumberedSet). x.set) (inside is))

none_newest : (start : ℕ) (sets : List VrpSet) → newest (versions_from start sets) ≡ None → sets ≡ []
none_newest start [] h = refl
none_newest start (set ∷ older) h = absurd (let k : ◌≡◌ {A = Option NumberedSet} (newest (versions_from start (set ∷ older))) None = h in cc)

module _ (made : Made) (history : List Entry) (v : code.World) (r : ℕ) (l : LeadsTo made history v) (o : StaysOpen r history) (s : Side) (found : side_at r l.world.sides ≡ Some s) (rests : Rests s) where
  -- Nothing more was done.
  at_once : (result : Result ⊤ CatchFault) → HoldsThen result r s l.world [] → Concluded made history r s result v
  at_once result holds = record {
    more = [];
    moves = tt;
    none = refl;
    leads = record { world = l.world; leads = subst (λ h. Leads made h l.world) (sym (append-nil history)) l.leads; shows = l.shows };
    holds = holds;
  }

  pub is_current_now : s.router.link ≡ Idle → (now : NumberedSet) → newest (versions l.world.present) ≡ Some now → Concluded made history r s (Ok tt) v
  is_current_now idle now is =
      let k = idle_holds made history v r l o s found idle in
      let held = holds_now s.router.spoken (session_in s.router.spoken l.world.present) (versions l.world.present) s.router.version s.router.table now is k.1 in
      let name : name_of s.router.version ≡ Some (s.router.speaks, session_in s.router.speaks l.world.present, now.serial) = held.0 ∙ ap (λ v. Some (v, session_in v l.world.present, now.serial)) k.0 in
      at_once (Ok tt) (record { side = s; found = found; idle = idle; quiet = subst (RestsSo s) idle rests; now = now; newest_is = is; spoken = k.0; name = name; table = held.1 }, refl)

  pub has_nothing : s.router.link ≡ Idle → newest (versions l.world.present) ≡ None → Concluded made history r s (Err faults.NoData) v
  has_nothing idle is =
      let none = none_newest l.world.present.start l.world.present.sets is in
      let k = idle_holds made history v r l o s found idle in
      let held = subst (λ sets. HoldsNewest s.router.spoken (session_in s.router.spoken l.world.present) (versions_from l.world.present.start sets) s.router.version s.router.table) none k.1 in
      at_once (Err faults.NoData) (record { side = s; found = found; idle = idle; quiet = subst (RestsSo s) idle rests; none = none; spoken = k.0; version = subst (λ v. of_version v s.router.version ≡ None) k.0 held.0 }, refl)

  pub cut_at_last : ¬ (told_link s.router.link ≡ links.Idle) → (step : Result ⊤ WorldFault) (new : code.World) → Stepped made history l.world r (Cut 0) step new → Concluded made history r s (Err faults.Memory) new
  cut_at_last other step new t = record {
    more = entry_of r (Cut 0) t.outcome ∷ [];
    moves = ((refl, tt), tt);
    none = refl;
    leads = t.leads;
    holds = (λ idle. other (ap told_link idle), subst (IsCutOff r) (sym t.is) (cut_leaves r l.world s found t.outcome t.may));
  }

-- what is so of a call that failed
by_err : (result : Result ⊤ WorldFault) (P Q : Type 0) → is_err result ≡ true → By result P Q → Q
by_err (Ok done) P Q failed h = absurd (let k : false ≡ true = failed in cc)
by_err (Err fault) P Q failed h = h

-- The whole
pub no_router : (made : Made) (history : List Entry) (r : ℕ) (v : code.World) → (l : LeadsTo made history v) → length l.world.sides ≤ r → CatchesUp made history r (Err faults.NoSuchRouter) v
no_router made history r v l high = record {
  more = [];
  moves = tt;
  twice = omega arith;
  leads = record { world = l.world; leads = subst (λ h. Leads made h l.world) (sym (append-nil history)) l.leads; shows = l.shows };
  caught = (high, refl);
}

module _ (made : Made) (history : List Entry) (r : ℕ) (v : code.World) (l : LeadsTo made history v) (mid : code.World) (step : Result ⊤ WorldFault) (on : Promises r (Cut 0) step v mid) (low : r < length v.sides.items) where
  s : Stepped made history l.world r (Cut 0) step mid
  s = step_of made history v mid r (Cut 0) step l on

  abbrev first_cut : Entry
  first_cut = entry_of r (Cut 0) s.outcome

  abbrev after_cut : List Entry
  after_cut = history ++ first_cut ∷ []

  found_cut : (t : Side) × (side_at r s.leads.world.sides ≡ Some t)
  found_cut = side_in r s.leads.world.sides (
      let len = shown_length l.world l.shows.at v.cache v.sides.items l.shows.parts in
      let before = routers_stay made history l.world l.leads in
      let after = routers_stay made after_cut s.leads.world s.leads.leads in
      omega (arith, len, before, after, low))

  -- what connecting promises then
  module _ (two : code.World) (told : Result ⊤ WorldFault) (again : (h : List Entry) (x : LeadsTo made h mid) (y : Side) → side_at r x.world.sides ≡ Some y → Reconnected 2 made h r y IsIdle told two) where
    pub fails_so : is_err told ≡ true → CatchesUp made history r (Err faults.Memory) two
    fails_so failed =
        let a = again after_cut s.leads found_cut.0 found_cut.1 in
        record {
          more = first_cut ∷ a.more;
          moves = ((refl, tt), a.moves);
          twice = omega (arith, a.few);
          leads = record { world = a.leads.world; leads = subst (λ h. Leads made h a.leads.world) (append_assoc history (first_cut ∷ []) a.more) a.leads.leads; shows = a.leads.shows };
          caught = lacks_behind r (first_cut ∷ []) a.more a.leads.world (by_err told _ _ failed a.ends);
        }

    pub ends_so : (new : code.World) (result : Result ⊤ CatchFault) → told ≡ Ok tt
        → ((h : List Entry) (x : LeadsTo made h two) (y : Side) → StaysOpen r h → side_at r x.world.sides ≡ Some y → Rests y → Concluded made h r y result new) → CatchesUp made history r result new
    ends_so new result ok concludes =
        let b = subst (λ x. Reconnected 2 made after_cut r found_cut.0 IsIdle x two) ok (again after_cut s.leads found_cut.0 found_cut.1) in
        let k = concludes (after_cut ++ b.more) b.leads b.ends.side (behind r after_cut b.more b.ends.stays) b.ends.found b.ends.rests in
        let count = connections_more b.more k.more in
        record {
          more = first_cut ∷ (b.more ++ k.more);
          moves = ((refl, tt), all_both (λ e. IsMoveOf r e.event) b.more k.more b.moves k.moves);
          twice = omega (arith, b.few, k.none, count);
          leads = record { world = k.leads.world; leads = subst (λ h. Leads made h k.leads.world) (append_assoc after_cut b.more k.more ∙ append_assoc history (first_cut ∷ []) (b.more ++ k.more)) k.leads.leads; shows = k.leads.shows };
          caught = by_result result b.more k.more k.leads.world b.ends.stays b.ends.side b.ends.becomes k.holds;
        }
      where
        opens : (xs ys : List Entry) → StaysOpen r xs → ys ≡ [] → StaysOpen r (first_cut ∷ (xs ++ ys))
        opens xs ys o is = subst (StaysOpen r) (ap (λ l. first_cut ∷ l) (sym (append-nil xs) ∙ ap (λ l. xs ++ l) (sym is))) (behind r (first_cut ∷ []) xs o)

        by_result : (result : Result ⊤ CatchFault) (xs ys : List Entry) (x : World) → StaysOpen r xs → (t : Side) → (AllWent xs → t.router.link ≡ Idle) → HoldsThen result r t x ys → Caught result r x (first_cut ∷ (xs ++ ys))
        by_result (Err faults.Memory) xs ys x o t idle h = record { wanting = λ all. h.0 (idle (parted (λ e. e.outcome ≡ Done None) xs ys all.1).0); off = h.1 }
        by_result (Err faults.NoSuchRouter) xs ys x o t idle h = absurd h
        by_result _ xs ys x o t idle h = (h.0, opens xs ys o h.1)

pub no_error : (r : Result ⊤ WorldFault) → is_err r ≡ false → r ≡ Ok tt
no_error (Ok done) h = refl
no_error (Err fault) h = absurd (let k : true ≡ false = h in cc)
