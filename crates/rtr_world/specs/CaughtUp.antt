-- What catching up does to a world of the program.
use Rattle.std.specs.Prelude.{◌≡◌, ◌⊎◌, ℕ, ◌+◌, ◌-◌, ◌≤◌, ◌^◌, List, [], ◌∷◌, ◌++◌, length, Option, Some, None, IsSome, Result, Ok, Err, ⊤}
use Rattle.std.specs.List.{AllByRecursion}
use Rattle.vrps.specs.Instance.{NumberedSet, versions}
use Rattle.vrps.specs.Stores.{newest}
use Rattle.rtr_ends.specs.Answer.{session_in}
use Rattle.rtr_ends.specs.RouterLink.{name_of}
use Rattle.rtr_ends.specs.RouterLink.{Closed, Idle}
use Rattle.rtr_ends.specs.Transcript.{of_version}
use Rattle.rtr_world.specs.CatchUp.{AreMoves, IsQuiet, Rests, rounded}
use Rattle.rtr_world.specs.History.{Outcome, Done, Memory, Entry, Made, after, side_at}
use Rattle.rtr_world.specs.Reached.{LeadsTo}
use Rattle.rtr_world.specs.World.{World, Side, SideEvent, Connect, Cut, Event, On}
use Rattle.rtr_world.specs.declared.event.CatchFault.{CatchFault}
use Rattle.rtr_world.specs.declared.event.CatchFault.TheVariants as faults
use Rattle.rtr_world.specs.declared.event.WorldFault.{WorldFault}
use Rattle.rtr_world.specs.declared.world.World as code

-- how many of these connect
abbrev pub connecting : Event → ℕ
connecting (On r Connect) = 1
connecting event = 0

abbrev pub connections : List Entry → ℕ
connections [] = 0
connections (entry ∷ entries) = connecting entry.event + connections entries

-- it neither connects nor cuts
abbrev pub KeepsOpen : Event → Type 0
KeepsOpen (On r Connect) = ⊥
KeepsOpen (On r (Cut left)) = ⊥
KeepsOpen event = ⊤

abbrev pub KeepOpen : List Entry → Type 0
KeepOpen entries = AllByRecursion (λ e. KeepsOpen e.event) entries

-- It went through, whether or not memory ran out at a PDU of it.
abbrev pub IsDone : Outcome → Type 0
IsDone (Done wanting) = ⊤
IsDone outcome = ⊥

abbrev pub AreDone : List Entry → Type 0
AreDone entries = AllByRecursion (λ e. IsDone e.outcome) entries

-- All went through, and memory ran out at none.
abbrev pub AllWent : List Entry → Type 0
AllWent entries = AllByRecursion (λ e. e.outcome ≡ Done None) entries

-- The router connected, and after that there were only moves of its bytes, all of which went through.
pub record StaysOpen (r : ℕ) (entries : List Entry) : Type 0 where
  pub before : List Entry
  pub wanting : Option ℕ
  pub later : List Entry
  pub are : entries ≡ before ++ record { event = On r Connect; outcome = Done wanting } ∷ later
  pub moves : AreMoves r later
  pub keep : KeepOpen later
  pub done : AreDone later

-- The connection is cut, and nothing is to arrive.
pub record IsOff (s : Side) : Type 0 where
  pub link : s.router.link ≡ Closed
  pub conn : s.conn ≡ None
  pub up : s.up ≡ []
  pub down : s.down ≡ []

pub record IsCutOff (r : ℕ) (w : World) : Type 0 where
  pub side : Side
  pub found : side_at r w.sides ≡ Some side
  pub off : IsOff side

-- After an event that was refused because memory ran out the connection of that event is cut, and nothing is to arrive.
abbrev pub RefusedCuts : Type 0
RefusedCuts = (r : ℕ) (event : SideEvent) (bytes : ℕ) (wanting : Option ℕ) (w : World) (s : Side) → side_at r w.sides ≡ Some s → IsCutOff r (after (On r event) (Memory bytes wanting) w)

-- Memory ran out at one of these, and the connection is cut.
pub record Lacks (r : ℕ) (more : List Entry) (w : World) : Type 0 where
  pub wanting : AllWent more → ⊥
  pub off : IsCutOff r w

abbrev pub By : Result ⊤ WorldFault → Type 0 → Type 0 → Type 0
By (Ok done) P Q = P
By (Err fault) P Q = Q

-- A round of all bytes went through, with memory running out at these PDUs, if at any.
abbrev pub all_bytes : ℕ
all_bytes = 2 ^ 64 - 1

pub record GoesRound (r : ℕ) (old : World) (more : List Entry) (new : World) : Type 0 where
  pub done : AreDone more
  pub at_cache : Option ℕ
  pub at_router : Option ℕ
  pub is : new ≡ rounded r all_bytes at_cache at_router old
  pub none : AllWent more → (at_cache ≡ None) × (at_router ≡ None)

pub record Rounded (made : Made) (history : List Entry) (r : ℕ) (old : World) (result : Result ⊤ WorldFault) (new : code.World) : Type 0 where
  pub more : List Entry
  pub moves : AreMoves r more
  pub keep : KeepOpen more
  pub leads : LeadsTo made (history ++ more) new
  pub ends : By result (GoesRound r old more leads.world) (Lacks r more leads.world)

-- The last connection stays open, and nothing moves; if memory did not run out, the side that was so is so.
pub record ComesToRest (r : ℕ) (old : Side) (Becomes : Side → Side → Type 0) (more : List Entry) (w : World) : Type 0 where
  pub stays : StaysOpen r more
  pub side : Side
  pub found : side_at r w.sides ≡ Some side
  pub rests : Rests side
  pub becomes : AllWent more → Becomes old side

-- at most this many connections
pub record Reconnected (most : ℕ) (made : Made) (history : List Entry) (r : ℕ) (old : Side) (Becomes : Side → Side → Type 0) (result : Result ⊤ WorldFault) (new : code.World) : Type 0 where
  pub more : List Entry
  pub moves : AreMoves r more
  pub few : connections more ≤ most
  pub leads : LeadsTo made (history ++ more) new
  pub ends : By result (ComesToRest r old Becomes more leads.world) (Lacks r more leads.world)

-- It is idle, or it had to drop the session that it held, and is closed.
abbrev pub IdleOrDropped : Side → Side → Type 0
IdleOrDropped old s = (s.router.link ≡ Idle) ⊎ (IsSome old.router.version × (s.router.link ≡ Closed) × (s.router.version ≡ None))

abbrev pub IsIdle : Side → Side → Type 0
IsIdle old s = s.router.link ≡ Idle

-- The router holds the present instance's newest version, on an open connection of the version that it speaks, on which nothing is on
-- its way.
pub record HoldsNow (r : ℕ) (w : World) : Type 0 where
  pub side : Side
  pub found : side_at r w.sides ≡ Some side
  pub idle : side.router.link ≡ Idle
  pub quiet : IsQuiet side
  pub now : NumberedSet
  pub newest_is : newest (versions w.present) ≡ Some now
  pub spoken : side.router.spoken ≡ side.router.speaks
  pub name : name_of side.router.version ≡ Some (side.router.speaks, session_in side.router.speaks w.present, now.serial)
  pub table : side.router.table ≡ now.set

-- Nothing is published, and the router holds no session of the version that it speaks, on such a connection.
pub record HoldsNothing (r : ℕ) (w : World) : Type 0 where
  pub side : Side
  pub found : side_at r w.sides ≡ Some side
  pub idle : side.router.link ≡ Idle
  pub quiet : IsQuiet side
  pub none : w.present.sets ≡ []
  pub spoken : side.router.spoken ≡ side.router.speaks
  pub version : of_version side.router.speaks side.router.version ≡ None

-- what became of it
abbrev pub Caught : Result ⊤ CatchFault → ℕ → World → List Entry → Type 0
Caught (Ok done) r w more = HoldsNow r w × StaysOpen r more
Caught (Err faults.NoData) r w more = HoldsNothing r w × StaysOpen r more
Caught (Err faults.NoSuchRouter) r w more = (length w.sides ≤ r) × (more ≡ [])
Caught (Err faults.Memory) r w more = Lacks r more w

-- Moves of this router, with at most two connections, lead on to what is shown then.
pub record CatchesUp (made : Made) (history : List Entry) (r : ℕ) (result : Result ⊤ CatchFault) (new : code.World) : Type 0 where
  pub more : List Entry
  pub moves : AreMoves r more
  pub twice : connections more ≤ 2
  pub leads : LeadsTo made (history ++ more) new
  pub caught : Caught result r leads.world more

abbrev pub HoldsThen : Result ⊤ CatchFault → ℕ → Side → World → List Entry → Type 0
HoldsThen (Ok done) r old w more = HoldsNow r w × (more ≡ [])
HoldsThen (Err faults.NoData) r old w more = HoldsNothing r w × (more ≡ [])
HoldsThen (Err faults.Memory) r old w more = (old.router.link ≡ Idle → ⊥) × IsCutOff r w
HoldsThen (Err faults.NoSuchRouter) r old w more = ⊥

-- after the last connection
pub record Concluded (made : Made) (history : List Entry) (r : ℕ) (old : Side) (result : Result ⊤ CatchFault) (new : code.World) : Type 0 where
  pub more : List Entry
  pub moves : AreMoves r more
  pub none : connections more ≡ 0
  pub leads : LeadsTo made (history ++ more) new
  pub holds : HoldsThen result r old leads.world more
