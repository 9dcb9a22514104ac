-- One cache, its routers, and for each connection two wires of bytes (RFC 8210 sections 5 to 8).
use Rattle.std.specs.Prelude.{ℕ, zero, suc, Bool, true, false, List, [], ◌∷◌, ◌++◌, map, take, drop, Option, Some, None, if◌then◌else◌}
use Rattle.std.specs.List.{list_any}
use Rattle.vrps.specs.Instance.{Instance}
use Rattle.vrps.specs.Store.{published}
use Rattle.vrps.specs.VrpSet.{VrpSet}
use Rattle.rtr_pdu.specs.declared.version.Version.{Version}
use Rattle.rtr_ends.specs.declared.link.End.{End}
use Rattle.rtr_ends.specs.Cache.{Conn, Taking, new_conn, conn_takes, conn_notified, conn_pulled}
use Rattle.rtr_ends.specs.Connection.{ConnMoment, Read, Wanting}
use Rattle.rtr_ends.specs.Feeding.{FedPiece}
use Rattle.rtr_ends.specs.LinkRules.{Router, new_router}
use Rattle.rtr_ends.specs.Router.{Noted, Receiving, of_received, receives, router_pulled, connects_at, closed_at, ticks_at, asks}
use Rattle.rtr_ends.specs.RouterLink.{Link, Closed, Ended, is_closed}
use Rattle.rtr_ends.specs.Timing.{Intervals, default_intervals}
use Rattle.rtr_ends.specs.Transcript.{Question, Item, Refused, Restarts, kept, is_commit, outstanding, spoken}
use Rattle.rtr_world.specs.VersionPlaces.{VersionPlace, version_place_of}

-- how a link ended: which question was outstanding, and the version and the instance of the connection
pub record Ending : Type 0 where
  pub end : End
  pub question : Option Question
  pub version : Version
  pub home : Option Instance

-- A router and its connection: the cache's side of it, none if it is closed there, and the bytes on the way to the cache and to the router.
-- The instance as it was when the connection was made, none when the router was notified that it is closed. No event looks at what follows.
-- The cache as it was when it last read a PDU on the connection, none before it did. And, the last first, the transcript, the ends of
-- links, and the places of the versions that were committed, as they were then.
pub record Side : Type 0 where
  pub router : Router
  pub conn : Option Conn
  pub up : List ℕ
  pub down : List ℕ
  pub home : Option Instance
  pub read_at : Option Instance
  pub items : List Item
  pub endings : List Ending
  pub places : List (Option VersionPlace)

-- the instances of the cache, those of the past with the newest first, and the routers, which are numbered from 0
pub record World : Type 0 where
  pub keep : ℕ
  pub past : List Instance
  pub present : Instance
  pub sides : List Side

abbrev pub instances : World → List Instance
instances w = w.present ∷ w.past

abbrev pub timing : Intervals
timing = default_intervals

abbrev pub new_side : Side
new_side = record { router = new_router; conn = None; up = []; down = []; home = None; read_at = None; items = []; endings = []; places = [] }

abbrev pub new_sides : ℕ → List Side
new_sides zero = []
new_sides (suc routers) = new_side ∷ new_sides routers

abbrev pub new_world : ℕ → ℕ → ℕ → ℕ → ℕ → World
new_world routers session session0 start keep = record {
  keep = keep;
  past = [];
  present = record { session = session; session0 = session0; start = start; sets = [] };
  sides = new_sides routers;
}

-- What happens at one router, and what happens at all
pub data SideEvent : Type 0 where
  RouterRestart : SideEvent
  Speak : (version : Version) → SideEvent
  Connect : SideEvent
  RouterSends : (most : ℕ) → SideEvent
  CacheGets : (most : ℕ) → SideEvent
  CacheSends : (most : ℕ) → SideEvent
  RouterGets : (most : ℕ) → SideEvent
  Cut : (left : ℕ) → SideEvent
  NotifyRouter : SideEvent
  Ask : SideEvent
  Tick : (now : ℕ) → SideEvent

pub data Event : Type 0 where
  Publish : (set : VrpSet) → Event
  Restart : (session : ℕ) → (session0 : ℕ) → (start : ℕ) → Event
  On : (router : ℕ) → SideEvent → Event

-- What the transcript gains, with the end of a link, and the places of commits

-- how a link ended that had not ended before
abbrev pub newly_ended : Link → Link → Option End
newly_ended (Ended end) after = None
newly_ended before (Ended end) = Some end
newly_ended before after = None

-- the question that was outstanding before the last item
abbrev pub outstanding_before_last : List Item → Option Question
outstanding_before_last [] = None
outstanding_before_last (last ∷ items) = outstanding items

-- A link ends at the last item of its transcript.
abbrev pub ending_at : Side → End → List Item → Ending
ending_at s end items = record { end = end; question = outstanding_before_last items; version = spoken items; home = s.home }

-- The last end of a link, if any, comes first.
abbrev pub with_end : Option End → Side → List Item → List Ending
with_end None s items = s.endings
with_end (Some end) s items = ending_at s end items ∷ s.endings

-- Each item is judged as a commit by what the transcript keeps of it and of those before it.
abbrev pub places_of : List Instance → List Item → List Item → List (Option VersionPlace)
places_of all [] before = []
places_of all (item ∷ items) before =
    (if is_commit (item ∷ (items ++ before)) then version_place_of all (kept (item ∷ (items ++ before))).version ∷ [] else [])
    ++ places_of all items before

abbrev pub noted : List Instance → Noted → Side → Side
noted all n s = record s {
  router = n.router;
  items = n.items ++ s.items;
  endings = with_end (newly_ended s.router.link n.router.link) s (n.items ++ s.items);
  places = places_of all n.items s.items ++ s.places;
}

-- The events of one router

-- an old connection is cut with nothing to arrive, and a new one is made
unfoldable pub connects : World → Side → Side
connects w s = record (noted (instances w) (connects_at s.router.now s.router) s) {
  conn = Some (new_conn w.present);
  up = [];
  down = [];
  home = Some w.present;
  read_at = None;
}

unfoldable pub router_restarts : Side → Side
router_restarts s = record s { router = new_router; conn = None; up = []; down = []; home = None; read_at = None; items = Restarts ∷ s.items }

-- The next connection of the router is of this version.
unfoldable pub speaks : Version → Side → Side
speaks version s = record s { router = record s.router { speaks = version } }

unfoldable pub router_sends : ℕ → Side → Side
router_sends most s = record s { router = router_pulled most s.router; up = s.up ++ take most s.router.out }

abbrev pub sends_from : ℕ → ℕ → Side → Option Conn → Side
sends_from keep most s None = s
sends_from keep most s (Some o) = record s { conn = Some (conn_pulled keep timing most o); down = s.down ++ take most o.state.due }

unfoldable pub cache_sends : World → ℕ → Side → Side
cache_sends w most s = sends_from w.keep most s s.conn

-- A PDU was read at one of these moments.
abbrev pub is_read : ConnMoment → Bool
is_read (Read version cache unit bytes) = true
is_read (Wanting version cache unit bytes) = true
is_read m = false

abbrev pub read_by : Instance → List ConnMoment → Option Instance → Option Instance
read_by present moments before = if list_any is_read moments then Some present else before

abbrev pub gets_at : World → ℕ → Option ℕ → Side → Option Conn → Side
gets_at w most wanting s None = s
gets_at w most wanting s (Some o) =
    let f : FedPiece Taking = conn_takes w.keep timing w.present wanting (take most s.up) o in
    record s { conn = Some f.machine.conn; up = f.rest ++ drop most s.up; read_at = read_by w.present f.machine.moments s.read_at }

unfoldable pub cache_gets : World → ℕ → Option ℕ → Side → Side
cache_gets w most wanting s = gets_at w most wanting s s.conn

unfoldable pub router_gets : World → ℕ → Option ℕ → Side → Side
router_gets w most wanting s =
    let f : FedPiece Receiving = receives s.router.now wanting (take most s.down) s.router in
    record (noted (instances w) (of_received f) s) { down = f.rest ++ drop most s.down }

-- The cache's side is closed; what is left of the bytes towards the router still comes.
unfoldable pub cut : ℕ → Side → Side
cut left s = record s { conn = None; up = []; down = take left s.down }

abbrev pub notifies_at : World → Side → Option Conn → Side
notifies_at w s None = s
notifies_at w s (Some o) = record s { conn = Some (conn_notified w.keep timing w.present o) }

-- An event that is not refused. At a PDU of it an end may run out of memory.
unfoldable pub side_step : World → SideEvent → Option ℕ → Side → Side
side_step w RouterRestart wanting s = router_restarts s
side_step w (Speak version) wanting s = speaks version s
side_step w Connect wanting s = connects w s
side_step w (RouterSends most) wanting s = router_sends most s
side_step w (CacheGets most) wanting s = cache_gets w most wanting s
side_step w (CacheSends most) wanting s = cache_sends w most s
side_step w (RouterGets most) wanting s = router_gets w most wanting s
side_step w (Cut left) wanting s = cut left s
side_step w NotifyRouter wanting s = notifies_at w s s.conn
side_step w Ask wanting s = noted (instances w) (asks s.router) s
side_step w (Tick now) wanting s = noted (instances w) (ticks_at now s.router) s

-- An event that is refused because memory ran out after some bytes: these still moved, and the connection is cut with nothing to arrive.
abbrev pub side_part : World → SideEvent → ℕ → Option ℕ → Side → Side
side_part w (RouterSends most) bytes wanting s = router_sends bytes s
side_part w (CacheGets most) bytes wanting s = cache_gets w bytes wanting s
side_part w (CacheSends most) bytes wanting s = cache_sends w bytes s
side_part w (RouterGets most) bytes wanting s = router_gets w bytes wanting s
side_part w event bytes wanting s = s

unfoldable pub side_refused : World → SideEvent → ℕ → Option ℕ → Side → Side
side_refused w event bytes wanting s =
    let part : Side = cut 0 (side_part w event bytes wanting s) in record part { items = Refused ∷ part.items }

-- After each event

-- the router gets the call `closed`
abbrev pub tell_closed : List Instance → Side → Side
tell_closed all s = if is_closed s.router.link then record s { home = None; read_at = None } else record (noted all (closed_at s.router.now s.router) s) { home = None; read_at = None }

-- A cache connection that ended, with nothing left to pull, is closed at the cache.
abbrev pub close_ended : Side → Bool → List ℕ → Side
close_ended s true [] = record s { conn = None }
close_ended s ended due = s

abbrev pub settle_conn : Side → Option Conn → Side
settle_conn s None = s
settle_conn s (Some o) = close_ended s o.state.ended o.state.due

abbrev pub is_ended : Link → Bool
is_ended (Ended end) = true
is_ended link = false

-- A router whose link ended, with nothing left to pull, is notified.
abbrev pub settle_link : List Instance → Side → Link → List ℕ → Side
settle_link all s (Ended end) [] = tell_closed all s
settle_link all s link out = s

-- Bytes towards a closed link are gone, and the cache's side is closed when the wire towards it is empty.
abbrev pub settle_rest : Side → Link → List ℕ → Side
settle_rest s Closed [] = record s { conn = None; down = [] }
settle_rest s Closed up = record s { down = [] }
settle_rest s link up = s

-- A router whose connection is closed at the cache, and whose wire is empty, is notified. Then there is no connection.
abbrev pub settle_wire : List Instance → Side → Option Conn → List ℕ → Side
settle_wire all s None [] = record (tell_closed all s) { up = [] }
settle_wire all s conn down = s

unfoldable pub settle : List Instance → Side → Side
settle all s =
    let a : Side = settle_conn s s.conn in
    let b : Side = settle_link all a a.router.link a.router.out in
    let c : Side = settle_rest b b.router.link b.up in
    settle_wire all c c.conn c.down

-- The events of all

-- all connections end at the cache, bytes towards it are gone
abbrev pub cache_gone : Side → Side
cache_gone s = record s { conn = None; up = [] }

abbrev pub on_side : ℕ → (Side → Side) → List Side → List Side
on_side r f [] = []
on_side zero f (s ∷ sides) = f s ∷ sides
on_side (suc r) f (s ∷ sides) = s ∷ on_side r f sides

unfoldable pub goes_through : Event → Option ℕ → World → World
goes_through (Publish set) wanting w = record w { present = published set w.present }
goes_through (Restart session session0 start) wanting w = record w {
  past = w.present ∷ w.past;
  present = record { session = session; session0 = session0; start = start; sets = [] };
  sides = map cache_gone w.sides;
}
goes_through (On r event) wanting w = record w { sides = on_side r (side_step w event wanting) w.sides }

unfoldable pub settled : World → World
settled w = record w { sides = map (settle (instances w)) w.sides }

-- A Publish or a Restart that is refused changes nothing.
unfoldable pub is_refused : Event → ℕ → Option ℕ → World → World
is_refused (Publish set) bytes wanting w = w
is_refused (Restart session session0 start) bytes wanting w = w
is_refused (On r event) bytes wanting w = settled (record w { sides = on_side r (side_refused w event bytes wanting) w.sides })
