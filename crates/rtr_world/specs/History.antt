-- What is refused, and what a list of events with its outcomes leads to.
use Rattle.std.specs.Prelude.{◌≡◌, ℕ, zero, suc, ◌-◌, ◌^◌, ◌<◌, ◌≤◌, Bool, true, false, not, ◌||◌, ◌&&◌, ◌==◌, nat_lt, List, [], ◌∷◌, ◌++◌, length, take, find, Option, Some, None, is_some, IfSome, slice_get, if◌then◌else◌, ⊤}
use Rattle.std.specs.List.{flat_map}
use Rattle.vrps.specs.Instance.{Instance, versions}
use Rattle.vrps.specs.Store.{is_current}
use Rattle.vrps.specs.VrpSet.{IsVrpSet}
use Rattle.rtr_pdu.specs.declared.unit.Unit.{Unit}
use Rattle.rtr_pdu.specs.declared.version.Version.{Version}
use Rattle.rtr_pdu.specs.declared.version.Version.TheVariants.{V0, V1}
use Rattle.rtr_ends.specs.Answer.{session_in}
use Rattle.rtr_ends.specs.Cache.{Conn, conn_takes}
use Rattle.rtr_ends.specs.Connection.{ConnMoment, Read, takes_memory}
use Rattle.rtr_ends.specs.LinkRules.{Router, may_lack, on_unit}
use Rattle.rtr_ends.specs.Router.{clocked, receives}
use Rattle.rtr_ends.specs.RouterLink.{is_closed}
use Rattle.rtr_ends.specs.Transcript.{Committed, Item, Reads}
use Rattle.rtr_world.specs.VersionPlaces.{position_of}
use Rattle.rtr_world.specs.World.{Side, World, instances, SideEvent, RouterRestart, Connect, RouterSends, CacheGets, CacheSends, RouterGets, Event, Publish, Restart, On, cache_gets, router_gets, goes_through, settled, is_refused, new_world, timing}

-- How an event ended: it went through, and at this PDU of it an end ran out of memory, if at any. Or it was refused: the session is used
-- already, too many versions, no such router, or out of memory, after this many bytes.
pub data Outcome : Type 0 where
  Done : (wanting : Option ℕ) → Outcome
  SessionUsed : Outcome
  TooManyVersions : Outcome
  NoSuchRouter : Outcome
  Memory : (bytes : ℕ) → (wanting : Option ℕ) → Outcome

-- A new version is fewer than 2^31 after the one that a router committed under this session,
abbrev pub is_near : Instance → Option ℕ → Bool
is_near i None = true
is_near i (Some position) = nat_lt (length i.sets - position) (2 ^ 31)

abbrev pub room_for : Instance → Option Committed → Bool
room_for i None = true
room_for i (Some held) = if session_in held.version i == held.session then is_near i (position_of held.serial (versions i)) else true

-- and after the one that was current when a connection of this instance was made, or the first if there was none.
abbrev pub room_since : Instance → Option Instance → Bool
room_since i None = true
room_since i (Some home) = if i.session == home.session then is_near i (Some (length home.sets - 1)) else true

abbrev pub all_have_room : Instance → List Side → Bool
all_have_room i [] = true
all_have_room i (s ∷ sides) = (room_for i s.router.version && room_since i s.home) && all_have_room i sides

-- An instance has this session in a version of the protocol.
abbrev pub is_used : Version → List Instance → ℕ → Bool
is_used version all session = is_some (find (λ i. session_in version i == session) all)

-- the refusal for another cause than memory
unfoldable pub refusal : World → Event → Option Outcome
refusal w (Publish set) = if is_current w.present.sets set || all_have_room w.present w.sides then None else Some TooManyVersions
refusal w (Restart session session0 start) = if is_used V1 (instances w) session || is_used V0 (instances w) session0 then Some SessionUsed else None
refusal w (On r event) = if nat_lt r (length w.sides) then None else Some NoSuchRouter

abbrev pub side_at : ℕ → List Side → Option Side
side_at r [] = None
side_at zero (s ∷ sides) = Some s
side_at (suc r) (s ∷ sides) = side_at r sides

-- A router has a connection until it gets the call `closed`, and while one is open at the cache.
abbrev pub has_connection : Side → Bool
has_connection s = not (is_closed s.router.link) || is_some s.conn

-- the events that may be refused because memory ran out
abbrev pub may_refuse_at : SideEvent → Option Side → Bool
may_refuse_at event None = false
may_refuse_at RouterRestart (Some s) = true
may_refuse_at Connect (Some s) = true
may_refuse_at (RouterSends most) (Some s) = has_connection s
may_refuse_at (CacheGets most) (Some s) = has_connection s
may_refuse_at (CacheSends most) (Some s) = has_connection s
may_refuse_at (RouterGets most) (Some s) = has_connection s
may_refuse_at event (Some s) = false

abbrev pub may_refuse : World → Event → Bool
may_refuse w (Publish set) = true
may_refuse w (Restart session session0 start) = true
may_refuse w (On r event) = may_refuse_at event (side_at r w.sides)

-- the bytes that are due at the cache's side
abbrev pub conn_due : Option Conn → List ℕ
conn_due None = []
conn_due (Some o) = o.state.due

-- how many bytes an event moves with memory
abbrev pub moved_at : World → SideEvent → Option ℕ → Option Side → ℕ
moved_at w event wanting None = 0
moved_at w (RouterSends most) wanting (Some s) = length (take most s.router.out)
moved_at w (CacheSends most) wanting (Some s) = length (take most (conn_due s.conn))
moved_at w (CacheGets most) wanting (Some s) = length s.up - length (cache_gets w most wanting s).up
moved_at w (RouterGets most) wanting (Some s) = length s.down - length (router_gets w most wanting s).down
moved_at w event wanting (Some s) = 0

abbrev pub moved : World → Event → Option ℕ → ℕ
moved w (On r event) wanting = moved_at w event wanting (side_at r w.sides)
moved w event wanting = 0

-- the bytes that an event may move
abbrev pub most_of : SideEvent → ℕ
most_of (RouterSends most) = most
most_of (CacheGets most) = most
most_of (CacheSends most) = most
most_of (RouterGets most) = most
most_of event = 0

abbrev pub most_moved : Event → ℕ
most_moved (On r event) = most_of event
most_moved event = 0

-- whether the cache's answer to a PDU allocates memory, if one is read
abbrev pub conn_reading : ConnMoment → List Bool
conn_reading (Read version cache unit bytes) = takes_memory version cache unit ∷ []
conn_reading m = []

abbrev pub conn_readings : World → List ℕ → Option Conn → List Bool
conn_readings w piece None = []
conn_readings w piece (Some o) = flat_map conn_reading (conn_takes w.keep timing w.present None piece o).machine.moments

-- the PDUs that a router read, the first one first
abbrev pub units_read : List Item → List Unit
units_read [] = []
units_read (Reads unit ∷ items) = units_read items ++ unit ∷ []
units_read (item ∷ items) = units_read items

-- whether each PDU that a router reads allocates memory there: it stages a record, or commits
abbrev pub router_readings : Router → List Unit → List Bool
router_readings r [] = []
router_readings r (unit ∷ units) = may_lack r.link unit r ∷ router_readings (on_unit r.link unit r) units

-- the PDUs that an event reads of this many bytes, in their order, each with whether its handling allocates memory
abbrev pub readings_at : World → SideEvent → ℕ → Option Side → List Bool
readings_at w event bytes None = []
readings_at w (CacheGets most) bytes (Some s) = conn_readings w (take bytes s.up) s.conn
readings_at w (RouterGets most) bytes (Some s) =
    router_readings (clocked s.router.now s.router) (units_read (receives s.router.now None (take bytes s.down) s.router).machine.items)
readings_at w event bytes (Some s) = []

abbrev pub readings : World → Event → ℕ → List Bool
readings w (On r event) bytes = readings_at w event bytes (side_at r w.sides)
readings w event bytes = []

-- A PDU at which memory runs out, counted from 0, is read, and its handling allocates memory.
abbrev pub IsWanted : World → Event → ℕ → Option ℕ → Type 0
IsWanted w event bytes wanting = IfSome wanting (λ unit. slice_get (readings w event bytes) unit ≡ Some true)

-- the outcomes that an event may have
abbrev pub MayEnd : Option Outcome → World → Event → Outcome → Type 0
MayEnd (Some refused) w event outcome = outcome ≡ refused
MayEnd None w event (Done wanting) = IsWanted w event (most_moved event) wanting
MayEnd None w event (Memory bytes wanting) = (may_refuse w event ≡ true) × IsWanted w event bytes wanting × (bytes ≤ moved w event wanting)
MayEnd None w event outcome = ⊥

-- after SessionUsed, TooManyVersions and NoSuchRouter nothing has changed
abbrev pub after : Event → Outcome → World → World
after event (Done wanting) w = settled (goes_through event wanting w)
after event (Memory bytes wanting) w = is_refused event bytes wanting w
after event outcome w = w

-- the events that can be: what is published is a set within the limit, and a session and a serial have their bits
abbrev pub IsEvent : Event → Type 0
IsEvent (Publish set) = IsVrpSet set
IsEvent (Restart session session0 start) = (session < 2 ^ 16) × (session0 < 2 ^ 16) × (start < 2 ^ 32)
IsEvent (On r event) = ⊤

-- One step of the world
abbrev pub WorldStep : World → Event → Outcome → World → Type 0
WorldStep old event outcome new = IsEvent event × MayEnd (refusal old event) old event outcome × (new ≡ after event outcome old)

pub record Entry : Type 0 where
  pub event : Event
  pub outcome : Outcome

-- What a history leads to, the oldest event first
abbrev pub LeadsFrom : World → List Entry → World → Type 0
LeadsFrom old [] new = new ≡ old
LeadsFrom old (entry ∷ history) new = (next : World) × WorldStep old entry.event entry.outcome next × LeadsFrom next history new

-- what a world is made with
pub record Made : Type 0 where
  pub routers : ℕ
  pub session : ℕ
  pub session0 : ℕ
  pub start : ℕ
  pub keep : ℕ

pub record IsMade (made : Made) : Type 0 where
  pub session : made.session < 2 ^ 16
  pub session0 : made.session0 < 2 ^ 16
  pub start : made.start < 2 ^ 32

abbrev pub Leads : Made → List Entry → World → Type 0
Leads made history w = IsMade made × LeadsFrom (new_world made.routers made.session made.session0 made.start made.keep) history w

-- a world to which some history leads: only so do its serials name its versions
pub record Reached (w : World) : Type 0 where
  pub made : Made
  pub history : List Entry
  pub leads : Leads made history w
