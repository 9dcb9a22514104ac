-- What happens at one side.
use Rattle.rtr_world.proofs.Words.{◌≡◌, ℕ, List, ◌∷◌, Option, None, Result, Ok, Err, is_err, false, true, refl, ⊤, sym, subst, AllocError, Steps, Version, Conn, Noted, IsShown, Item, Refused, Cache}
use Rattle.rtr_ends.specs.declared.router.Router as routers
use Rattle.rtr_world.specs.Events.{side_event_of}
use Rattle.rtr_world.specs.SideShown.{AloneAt, BeginsEvent, Goes, Happens, Moves, Passes, ShowsSide}
use Rattle.rtr_world.specs.World as model
use Rattle.rtr_world.specs.World.{World, Side, cut, instances, noted, settle, side_part, side_refused, side_step}
use Rattle.rtr_world.specs.declared.event.SideEvent.{SideEvent}
use Rattle.rtr_world.specs.declared.side.Side as values
use Rattle.rtr_world.proofs.Moving.{and_then}

module _ (w : World) (at : ℕ → Option Conn) where
  -- the event of a case
  pub of_case : (e f : SideEvent) (s : Side) (Now : Side → Type 0) (result : Result ⊤ AllocError) → e ≡ f → BeginsEvent w at (side_event_of f) s Now result → BeginsEvent w at (side_event_of e) s Now result
  of_case e f s Now result is h = subst (λ x. BeginsEvent w at (side_event_of x) s Now result) (sym is) h

  pub passes : (e : model.SideEvent) (s : Side) (Now : Side → Type 0) → Now (side_step w e None s) → Passes w at e s Now
  passes e s Now h = record { wanting = None; wanted = tt; now = h }

  pub begins_as : (e : model.SideEvent) (s : Side) (P Q : Side → Type 0) (result : Result ⊤ AllocError) → ((t : Side) → P t → Q t) → BeginsEvent w at e s P result → BeginsEvent w at e s Q result
  begins_as e s P Q (Ok done) f h = record { wanting = h.wanting; wanted = h.wanted; now = f _ h.now }
  begins_as e s P Q (Err error) f h = record { bytes = h.bytes; fewer = h.fewer; may = h.may; part = h.part; cut_is = h.cut_is; now = f _ h.now }

  -- a call on the router alone
  pub noted_shows : (s : Side) (v : values.Side) (n : Noted) (router : routers.Router) → ShowsSide w at s v → IsShown n.router router → AloneAt w at (noted (instances w) n s) v (record v { router = router })
  noted_shows s v n router h shown = record { shows = record { router = shown; conn = h.conn; up = h.up; down = h.down; made = h.made; made_to = h.made_to }; conn = refl }

  -- what the router is to speak
  pub speaks_shown : (s : Side) (v : values.Side) (version : Version) (router : routers.Router) → ShowsSide w at s v → IsShown (record s.router { speaks = version }) router → AloneAt w at (record s { router = record s.router { speaks = version } }) v (record v { router = router })
  speaks_shown s v version router h shown = record { shows = record { router = shown; conn = h.conn; up = h.up; down = h.down; made = h.made; made_to = h.made_to }; conn = refl }

  -- an item of the transcript is nothing that is shown
  refused_shows : (s : Side) (cache : Cache Steps) (old : values.Side) (v : values.Side) (items : List Item) → Moves w at old.conn s cache v → Moves w at old.conn (record s { items = items }) cache v
  refused_shows s cache old v items m = record {
    now = m.now;
    shows = record { serves = m.shows.serves; side = record { router = m.shows.side.router; conn = m.shows.side.conn; up = m.shows.side.up; down = m.shows.side.down; made = m.shows.side.made; made_to = m.shows.side.made_to } };
    others = m.others;
    own = m.own;
    only = m.only;
  }

  -- with the cut if memory runs out, and the clean-up
  pub happens : (e : model.SideEvent) (s : Side) (old v mid n : values.Side) (cache between later : Cache Steps) (result : Result ⊤ AllocError) → BeginsEvent w at e s (λ t. Moves w at old.conn t cache v) result
      → (is_err result ≡ true → Goes (λ w s. cut 0 s) cache v between mid) → (is_err result ≡ false → (between ≡ cache) × (mid ≡ v)) → Goes (λ w s. settle (instances w) s) between mid later n → Happens w at e s (λ t. Moves w at old.conn t later n) result
  unfolding side_refused
  happens e s old v mid n cache between later (Ok done) b cuts stays settles =
      let same = stays refl in
      let m : Moves w at old.conn (side_step w e b.wanting s) between mid = subst (λ c. Moves w at old.conn (side_step w e b.wanting s) c mid) (sym same.0) (subst (λ x. Moves w at old.conn (side_step w e b.wanting s) cache x) (sym same.1) b.now) in
      record { wanting = b.wanting; wanted = b.wanted; now = and_then w at old.conn (side_step w e b.wanting s) _ between later mid n m (settles w m.now (side_step w e b.wanting s) m.shows) }
  happens e s old v mid n cache between later (Err error) b cuts stays settles =
      let c = cuts refl w b.now.now b.part b.now.shows in
      let m = and_then w at old.conn b.part (cut 0 b.part) cache between v mid b.now c in
      let k = subst (λ t. Moves w at old.conn t between mid) b.cut_is m in
      let r = refused_shows (cut 0 (side_part w e b.bytes None s)) between old mid (Refused ∷ (cut 0 (side_part w e b.bytes None s)).items) k in
      record { bytes = b.bytes; fewer = b.fewer; may = b.may; now = and_then w at old.conn (side_refused w e b.bytes None s) _ between later mid n r (settles w r.now (side_refused w e b.bytes None s) r.shows) }
