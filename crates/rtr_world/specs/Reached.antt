-- What a world of the program shows, and what leads to it.
use Rattle.std.specs.Prelude.{◌≡◌, ℕ, ◌==◌, ◌||◌, List, [], ◌∷◌, ◌++◌, map, Option, Some, None, IsSome, Result, slice_get, ⊤}
use Rattle.std.specs.List.{AllByRecursion, list_any}
use Rattle.vrps.specs.Steps.{HoldsSteps, Steps as Log}
use Rattle.rtr_pdu.specs.declared.version.Version.TheVariants.{V0, V1}
use Rattle.rtr_ends.specs.Cache.{Conn}
use Rattle.rtr_ends.specs.CacheState.{ShowsCache}
use Rattle.rtr_ends.specs.declared.cache.Cache.{Cache}
use Rattle.rtr_world.specs.World as model
use Rattle.rtr_world.specs.World.{World, Side, instances, settle}
use Rattle.rtr_world.specs.History.{Outcome, Entry, IsEvent, Leads, Made, MayEnd, after, is_used, refusal, side_at}
use Rattle.rtr_world.specs.Events.{AnswersOutcome, outcome_fault, refused}
use Rattle.rtr_world.specs.SideShown.{Has, HasSessions, ShowsSide, state_of}
use Rattle.rtr_world.specs.declared.event.WorldFault.{WorldFault}
use Rattle.rtr_world.specs.declared.side.Side as values
use Rattle.rtr_world.specs.declared.world.World as code

abbrev pub ShowsAt : World → (ℕ → Option Conn) → Option Side → Option values.Side → Type 0
ShowsAt w at None None = ⊤
ShowsAt w at (Some s) (Some v) = ShowsSide w at s v
ShowsAt w at None (Some v) = ⊥
ShowsAt w at (Some s) None = ⊥

abbrev pub HasAt : Option values.Side → ℕ → Type 0
HasAt None n = ⊥
HasAt (Some v) n = Has v.conn n

-- No two sides have one connection.
abbrev pub AreOwn : List values.Side → Type 0
AreOwn sides = (r d n : ℕ) → HasAt (slice_get sides r) n → HasAt (slice_get sides d) n → r ≡ d

-- What is open at the cache is some side's.
abbrev pub AllOwned : (ℕ → Option Conn) → List values.Side → Type 0
AllOwned at sides = (n : ℕ) → IsSome (at n) → (r : ℕ) × HasAt (slice_get sides r) n

-- the cache and the sides, with these connections
pub record ShowsParts (w : World) (at : ℕ → Option Conn) (cache : Cache Log) (sides : List values.Side) : Type 0 where
  pub serves : ShowsCache HoldsSteps (state_of w at) cache
  pub each : (r : ℕ) → ShowsAt w at (side_at r w.sides) (slice_get sides r)
  pub own : AreOwn sides
  pub all : AllOwned at sides

-- what the calls on one side leave alone
pub record ShowsRest (w : World) (v : code.World) : Type 0 where
  pub keep : v.keep ≡ w.keep
  pub used : (session session0 : ℕ) → list_any (λ y. y.v1 == session || y.v0 == session0) v.sessions.items ≡ (is_used V1 (instances w) session || is_used V0 (instances w) session0)
  pub sessions : HasSessions w.present v.present
  pub start : w.present.start ≡ v.start

-- The model's world is this value.
pub record ShowsWorld (w : World) (v : code.World) : Type 0 where
  pub rest : ShowsRest w v
  pub at : ℕ → Option Conn
  pub parts : ShowsParts w at v.cache v.sides.items

-- A connection is lost at a cache that is gone.
pub record Lost (old new : values.Side) : Type 0 where
  pub router : new.router ≡ old.router
  pub conn : new.conn ≡ None
  pub up : new.up ≡ []
  pub down : new.down ≡ old.down
  pub made : new.made ≡ None

abbrev pub LostAt : Option values.Side → Option values.Side → Type 0
LostAt None None = ⊤
LostAt (Some old) (Some new) = Lost old new
LostAt None (Some new) = ⊥
LostAt (Some old) None = ⊥

abbrev pub LoseAll : List values.Side → List values.Side → Type 0
LoseAll old new = (r : ℕ) → LostAt (slice_get old r) (slice_get new r)

-- The clean-up is done at each side.
pub record SettledAll (w : World) (cache : Cache Log) (sides : List values.Side) : Type 0 where
  pub at : ℕ → Option Conn
  pub parts : ShowsParts (record w { sides = map (settle (instances w)) w.sides }) at cache sides

-- One event: an outcome that it may have, and what is shown afterwards
pub record StepsOnce (w : World) (event : model.Event) (result : Result ⊤ WorldFault) (new : code.World) : Type 0 where
  pub outcome : Outcome
  pub fits : IsEvent event
  pub may : MayEnd (refusal w event) w event outcome
  pub answers : AnswersOutcome (outcome_fault outcome) result
  pub shows : ShowsWorld (after event outcome w) new

-- The value shows the world to which this history leads.
pub record LeadsTo (made : Made) (history : List Entry) (v : code.World) : Type 0 where
  pub world : World
  pub leads : Leads made history world
  pub shows : ShowsWorld world v

-- One event more, with an outcome that the answer of the call is
pub record StepsTo (made : Made) (history : List Entry) (event : model.Event) (result : Result ⊤ WorldFault) (new : code.World) : Type 0 where
  pub outcome : Outcome
  pub answers : AnswersOutcome (outcome_fault outcome) result
  pub leads : LeadsTo made (history ++ record { event = event; outcome = outcome } ∷ []) new

-- More events, one outcome for each, and this many refusals
pub record RunsTo (made : Made) (history : List Entry) (events : List model.Event) (count : ℕ) (new : code.World) : Type 0 where
  pub more : List Entry
  pub events_are : map (λ e. e.event) more ≡ events
  pub count_is : count ≡ refused more
  pub leads : LeadsTo made (history ++ more) new

-- They lead on so, and this holds of each router of the world to which they lead. What `table`, `committed` and `route_state` answer
-- is of the routers of this world.
pub record RunsSo (made : Made) (history : List Entry) (events : List model.Event) (count : ℕ) (new : code.World) (Holds : World → Side → Type 0) : Type 0 where
  pub runs : RunsTo made history events count new
  pub each : AllByRecursion (Holds runs.leads.world) runs.leads.world.sides
