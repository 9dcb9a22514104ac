-- One cache and many clients.
use Rattle.std.specs.Prelude.{◌≡◌, ℕ, zero, suc, ◌<◌, ◌≤◌, ◌==◌, Bool, true, false, not, ◌&&◌, List, [], ◌∷◌, ◌++◌, Box, Option, Some, None, Result, Ok, Err, is_some, length, option_map, slice_get, if◌then◌else◌, ⊤}
use Rattle.std.specs.declared.alloc.AllocError.{AllocError}
use Rattle.std.specs.List.{AllByRecursion, count_by}
use Rattle.std.specs.Option.{option_or}
use Rattle.vrps.specs.Instance.{Instance, IsInstance}
use Rattle.vrps.specs.Serial.{serial_at}
use Rattle.vrps.specs.Store.{is_current, published}
use Rattle.vrps.specs.VrpSet.{VrpSet}
use Rattle.vrps.specs.declared.store.Published.{Published}
use Rattle.vrps.specs.declared.store.Published.TheVariants.{New, Unchanged}
use Rattle.rtr_ends.specs.Cache.{IsServed}
use Rattle.rtr_ends.specs.CacheState.{CacheCall, CacheState, Close, IsCacheCall, IsLeastFree, Life, Notify, Open, Publish, Pull, Receive, ShowsCache, can_notify_at, joined, life, notified, ran, version_at, with_conn, without_conns}
use Rattle.rtr_ends.specs.Timing.{Intervals}
use Rattle.rtr_pdu.specs.declared.version.Version.{Version}
use Rattle.rtr_ends.specs.declared.cache.Cache.{Cache}
use Rattle.rtr_server.specs.Counting.{counted, has_query}
use Rattle.rtr_server.specs.Turns.{AnswersTurn, Anyhow, EndsSo, Flow, GoesFrom, HasRoom, client_of}
use Rattle.rtr_server.specs.declared.server.AdmitFault.{AdmitFault}
use Rattle.rtr_server.specs.declared.server.AdmitFault.TheVariants.{Memory, TooManyClients}
use Rattle.rtr_server.specs.declared.server.Client.{Client}
use Rattle.rtr_server.specs.declared.server.Server.{Server}
use Rattle.rtr_server.specs.declared.stream.Call.{Call}
use Rattle.rtr_server.specs.declared.turn.Parted.{Parted}
use Rattle.rtr_server.specs.declared.turn.Slot.{Slot}
use Rattle.rtr_server.specs.declared.turn.Turn.{Turn}
use Rattle.rtr_server.specs.declared.turn.Turn.TheVariants.{Gone}

abbrev pub admit_fault_number : AdmitFault → ℕ
admit_fault_number TooManyClients = 1
admit_fault_number Memory = 2

-- the client under a number of the list of clients
abbrev pub slot_value : {T A : Type 0} → Option (Box (Slot T) A) → Option (Slot T)
slot_value None = None
slot_value (Some b) = Some b.value

abbrev pub slot_at : {T A : Type 0} → List (Option (Box (Slot T) A)) → ℕ → Option (Slot T)
slot_at slots c = slot_value (joined (slice_get slots c))

-- how many clients there are
abbrev pub clients_in : {T A : Type 0} → List (Option (Box (Slot T) A)) → ℕ
clients_in slots = count_by is_some slots

-- The count is theirs.
abbrev pub IsCounted : {S T : Type 0} → Server S T → Type 0
IsCounted server = server.count ≡ clients_in server.slots.items

-- All other clients are as they were.
abbrev pub KeepsOthers : {T A : Type 0} → ℕ → List (Option (Box (Slot T) A)) → List (Option (Box (Slot T) A)) → Type 0
KeepsOthers c old new = (d : ℕ) → ¬ (d ≡ c) → slot_at new d ≡ slot_at old d

-- All clients are as they were.
abbrev pub KeepsAll : {T A : Type 0} → List (Option (Box (Slot T) A)) → List (Option (Box (Slot T) A)) → Type 0
KeepsAll old new = (d : ℕ) → slot_at new d ≡ slot_at old d

-- A client had a turn of at most this many calls of its stream, which ended so.
pub record Turned {S T : Type 0} (holds : ℕ → Instance → S → Type 0) (remaining contents : T → Option (List ℕ)) (answers : T → Option (List Call)) (budget : ℕ) (old : Slot T) (cache : Cache S) (turn : Turn) (new : Slot T) (after : Cache S) : Type 0 where
  pub conn : new.conn ≡ old.conn
  pub goes : GoesFrom holds remaining contents Anyhow old cache new after (EndsSo turn (remaining new.stream))
  pub told : AnswersTurn budget turn (answers old.stream) (answers new.stream)

-- A turn of the client under a number, if there is one. Otherwise there is no turn, and nothing changes.
abbrev pub TakesTurn : {S T : Type 0} → (ℕ → Instance → S → Type 0) → (T → Option (List ℕ)) → (T → Option (List ℕ)) → (T → Option (List Call)) → ℕ → Option (Slot T) → Cache S → Option Turn → Option (Slot T) → Cache S → Type 0
TakesTurn holds remaining contents answers budget (Some old) cache (Some turn) (Some new) after = Turned holds remaining contents answers budget old cache turn new after
TakesTurn holds remaining contents answers budget None cache None new after = (new ≡ None) × (after ≡ cache)
TakesTurn holds remaining contents answers budget client cache turn new after = ⊥

-- what is counted of a client that speaks in this version
abbrev pub parted_of : {T : Type 0} → Option Version → Slot T → Parted
parted_of version slot = record { carried = slot.traffic.carried; received = slot.traffic.received.pdus; sent = slot.traffic.sent.pdus; received_report = slot.traffic.received.report; sent_report = option_map (λ said. said.code) slot.traffic.sent.report; version = version; asked = slot.traffic.asked }

-- What was counted of the client that left last: of this one, if one was there, otherwise as before
abbrev pub parted_last : {T : Type 0} → Option Version → Option (Slot T) → Option Parted → Option Parted
parted_last version client before = option_or (option_map (parted_of version) client) before

-- A client had a turn that ended so, then it was removed, and its connection was closed: all other connections are as they were. What was
-- counted of it to its end is kept.
pub record Leaves {S T : Type 0} (holds : ℕ → Instance → S → Type 0) (remaining contents : T → Option (List ℕ)) (answers : T → Option (List Call)) (budget c : ℕ) (old : Slot T) (cache : Cache S) (turn : Turn) (new : Option (Slot T)) (after : Cache S) (parted : Option Parted) : Type 0 where
  pub last : Slot T
  pub between : Cache S
  pub turned : Turned holds remaining contents answers budget old cache turn last between
  pub gone : new ≡ None
  pub closed : (m : CacheState) → ShowsCache holds m between → ShowsCache holds (with_conn c None m) after
  pub counted : (m : CacheState) → ShowsCache holds m between → parted ≡ Some (parted_of (version_at (m.at c)) last)

-- What became of a client by a turn: it stays, or it is gone.
abbrev pub Becomes : {S T : Type 0} → (ℕ → Instance → S → Type 0) → (T → Option (List ℕ)) → (T → Option (List ℕ)) → (T → Option (List Call)) → ℕ → ℕ → Slot T → Cache S → Turn → Option (Slot T) → Cache S → Option Parted → Type 0
Becomes holds remaining contents answers budget c old cache (Gone how) new after parted = Leaves holds remaining contents answers budget c old cache (Gone how) new after parted
Becomes holds remaining contents answers budget c old cache turn None after parted = ⊥
Becomes holds remaining contents answers budget c old cache turn (Some new) after parted = Turned holds remaining contents answers budget old cache turn new after

-- What became of the client under a number: nothing, if there is none.
abbrev pub Serves : {S T : Type 0} → (ℕ → Instance → S → Type 0) → (T → Option (List ℕ)) → (T → Option (List ℕ)) → (T → Option (List Call)) → ℕ → ℕ → Option (Slot T) → Cache S → Option Turn → Option (Slot T) → Cache S → Option Parted → Type 0
Serves holds remaining contents answers budget c (Some old) cache (Some turn) new after parted = Becomes holds remaining contents answers budget c old cache turn new after parted
Serves holds remaining contents answers budget c None cache None new after parted = (new ≡ None) × (after ≡ cache)
Serves holds remaining contents answers budget c client cache turn new after parted = ⊥

-- Whether a client has asked: a whole query is counted of what came from it (RFC 8210 section 7).
abbrev pub has_asked : {T : Type 0} → Option (Slot T) → Bool
has_asked None = false
has_asked (Some slot) = has_query slot.traffic.received.pdus

-- a client that has asked
abbrev pub asking : {T : Type 0} → Option (Slot T) → Option (Slot T)
asking client = if has_asked client then client else None

-- the router of a client is notified, if there is one
abbrev pub notified_one : {T : Type 0} → Option (Slot T) → CacheState → CacheState
notified_one None m = m
notified_one (Some slot) m = notified slot.conn.0 m

-- the routers of the clients below a number that have asked, one after the other
abbrev pub notified_below : {T A : Type 0} → List (Option (Box (Slot T) A)) → ℕ → CacheState → CacheState
notified_below slots zero m = m
notified_below slots (suc n) m = notified_one (asking (slot_at slots n)) (notified_below slots n m)

-- For a client that has asked, a notify is pending exactly if it is not notified. For one that has not asked none is pending, as its first
-- answer is current. It is otherwise as it was.
abbrev pub OwesSo : {T : Type 0} → Option (Slot T) → Bool → Option (Slot T) → Type 0
OwesSo (Some old) told (Some new) = new ≡ record old { is_owed = has_asked (Some old) && not told }
OwesSo None told None = ⊤
OwesSo old told new = ⊥

-- whether a client can be sent a notify
abbrev pub can_be_sent : {T : Type 0} → Option (Slot T) → CacheState → Bool
can_be_sent None m = false
can_be_sent (Some slot) m = can_notify_at m.cache (m.at slot.conn.0)

abbrev pub NotifiesAt : {S T : Type 0} → (ℕ → Instance → S → Type 0) → Option (Slot T) → CacheState → Option (Slot T) → Cache S → Type 0
NotifiesAt holds old m new after = OwesSo old (can_be_sent old m) new × ShowsCache holds (notified_one (asking old) m) after

-- Each client below a number that has asked was notified, or a notify to it is pending; the others are as they were.
pub record NotifiesBelow {S T A : Type 0} (holds : ℕ → Instance → S → Type 0) (start : List (Option (Box (Slot T) A))) (first : Cache S) (n : ℕ) (slots : List (Option (Box (Slot T) A))) (cache : Cache S) : Type 0 where
  pub shows : (m : CacheState) → ShowsCache holds m first → ShowsCache holds (notified_below start n m) cache
  pub owed : (m : CacheState) → ShowsCache holds m first → (c : ℕ) → c < n → OwesSo (slot_at start c) (can_be_sent (slot_at start c) (notified_below start c m)) (slot_at slots c)
  pub left : (c : ℕ) → ¬ (c < n) → slot_at slots c ≡ slot_at start c

-- Each client that has asked is notified of what is published, or that notify is pending; without a new version no client is touched.
abbrev pub PublishesSo : {S T A : Type 0} → (ℕ → Instance → S → Type 0) → CacheState → VrpSet → List (Option (Box (Slot T) A)) → Result Published AllocError → List (Option (Box (Slot T) A)) → Cache S → Type 0
PublishesSo holds m set old (Ok (New serial)) new after =
    let now : CacheState = record m { cache = published set m.cache } in
    (is_current m.cache.sets set ≡ false) × (serial.0 ≡ serial_at m.cache.start (length m.cache.sets)) × ShowsCache holds (notified_below old (length old) now) after
    × ((c : ℕ) → OwesSo (slot_at old c) (can_be_sent (slot_at old c) (notified_below old c now)) (slot_at new c))
PublishesSo holds m set old (Ok Unchanged) new after = (is_current m.cache.sets set ≡ true) × ShowsCache holds m after × (new ≡ old)
PublishesSo holds m set old (Err error) new after = ShowsCache holds m after × (new ≡ old)

-- Whether a router has asked: a whole query is among the bytes that its connection consumed, and not its header alone.
abbrev pub router_asked : Option Life → Bool
router_asked None = false
router_asked (Some l) = has_query (counted l.serving.came).pdus

-- Whether a router awaits a notify: a new version was published since it asked, and no notify went into its connection since.
abbrev pub awaits : List CacheCall → CacheState → ℕ → Bool
awaits [] m c = false
awaits (Publish set ∷ calls) m c = if is_current (ran calls m).cache.sets set then awaits calls m c else router_asked (life calls m c)
awaits (Open d ∷ calls) m c = if c == d then false else awaits calls m c
awaits (Close d ∷ calls) m c = if c == d then false else awaits calls m c
awaits (Notify d ∷ calls) m c = if c == d then awaits calls m c && not (can_notify_at (ran calls m).cache ((ran calls m).at d)) else awaits calls m c
awaits (call ∷ calls) m c = awaits calls m c

-- No router is notified before it asked.
abbrev pub NoneBeforeQuery : List CacheCall → CacheState → Type 0
NoneBeforeQuery [] m = ⊤
NoneBeforeQuery (Notify c ∷ calls) m = (router_asked (life calls m c) ≡ true) × NoneBeforeQuery calls m
NoneBeforeQuery (call ∷ calls) m = NoneBeforeQuery calls m

-- What was left of a stream, and what was written to it, when it came
pub record Begun : Type 0 where
  pub before : Option (List ℕ)
  pub had : Option (List ℕ)

-- What happened to a server: how its cache was made, how many clients may be there at most, and what was called on the cache since, the
-- last first. And by their numbers how the stream of each client came.
pub record Past : Type 0 where
  pub keep : ℕ
  pub timing : Intervals
  pub first : Instance
  pub most : ℕ
  pub calls : List CacheCall
  pub begun : ℕ → Begun

abbrev pub made : Past → CacheState
made p = without_conns p.keep p.timing p.first

-- the cache as it is
abbrev pub present : Past → CacheState
present p = ran p.calls (made p)

-- A client is kept under the number of its connection. What went over its stream since it came is what went over that. A notify to it is
-- pending if and only if its router awaits one, and its two buffers have room.
abbrev pub ShowsClient : {T : Type 0} → (T → Option (List ℕ)) → (T → Option (List ℕ)) → Begun → ℕ → Option Life → Bool → Option (Slot T) → Type 0
ShowsClient remaining contents b c (Some l) waits (Some slot) =
    (slot.conn.0 ≡ c) × Flow b.before (remaining slot.stream) b.had (contents slot.stream) (client_of l.serving slot) × (slot.is_owed ≡ waits) × HasRoom (client_of l.serving slot)
ShowsClient remaining contents b c None waits None = ⊤
ShowsClient remaining contents b c l waits client = ⊥

-- This past led to this server.
pub record ShowsServer {S T : Type 0} (holds : ℕ → Instance → S → Type 0) (remaining contents : T → Option (List ℕ)) (p : Past) (server : Server S T) : Type 0 where
  pub first : IsInstance p.first
  pub lawful : AllByRecursion IsCacheCall p.calls
  pub asked : NoneBeforeQuery p.calls (made p)
  pub shows : ShowsCache holds (present p) server.cache
  pub each : (c : ℕ) → ShowsClient remaining contents (p.begun c) c (life p.calls (made p) c) (awaits p.calls (made p) c) (slot_at server.slots.items c)
  pub most : server.most ≡ p.most
  pub count : server.count ≡ clients_in server.slots.items

-- A client's bytes are its own: what was read of its stream made its connection's history, by which what was written is a beginning of the
-- replies to that. A notify to it is pending exactly if its router awaits one. It holds no more than its two buffers.
pub record ClientIsServed {T : Type 0} (remaining contents : T → Option (List ℕ)) (p : Past) (c : ℕ) (slot : Slot T) : Type 0 where
  pub own : Life
  pub own_is : life p.calls (made p) c ≡ Some own
  pub served : IsServed (present p).keep (present p).timing own.opened own.serving
  pub flow : Flow (p.begun c).before (remaining slot.stream) (p.begun c).had (contents slot.stream) (client_of own.serving slot)
  pub owed : slot.is_owed ≡ awaits p.calls (made p) c
  pub room : HasRoom (client_of own.serving slot)

abbrev pub EachClientIsServed : {S T : Type 0} → (ℕ → Instance → S → Type 0) → (T → Option (List ℕ)) → (T → Option (List ℕ)) → Server S T → Type 0
EachClientIsServed {T = T} holds remaining contents server =
    (p : Past) (c : ℕ) (slot : Slot T) → ShowsServer holds remaining contents p server → slot_at server.slots.items c ≡ Some slot → ClientIsServed remaining contents p c slot

-- a call on the connection under this number
abbrev pub IsOn : ℕ → CacheCall → Type 0
IsOn c (Receive d wanting piece) = d ≡ c
IsOn c (Pull d most) = d ≡ c
IsOn c (Notify d) = d ≡ c
IsOn c call = ⊥

-- after these calls more, the last first
abbrev pub and_calls : List CacheCall → Past → Past
and_calls more p = record p { calls = more ++ p.calls }

-- What happens to a server by a turn of a client: calls on its connection alone, and its closing if it is gone
abbrev pub GoesOnAfter : {S T : Type 0} → (ℕ → Instance → S → Type 0) → (T → Option (List ℕ)) → (T → Option (List ℕ)) → Past → ℕ → Option Turn → Server S T → Type 0
GoesOnAfter holds remaining contents p c None new = ShowsServer holds remaining contents p new
GoesOnAfter holds remaining contents p c (Some (Gone how)) new =
    (own : List CacheCall) × AllByRecursion (IsOn c) own × ShowsServer holds remaining contents (and_calls (Close c ∷ own) p) new
GoesOnAfter holds remaining contents p c (Some turn) new =
    (own : List CacheCall) × AllByRecursion (IsOn c) own × ShowsServer holds remaining contents (and_calls own p) new

abbrev pub is_gone : Option Turn → Bool
is_gone None = false
is_gone (Some (Gone how)) = true
is_gone (Some turn) = false

-- A stream of which this is left to be read, and to which this was written, came as a client, if fewer are there than may be. Its number is
-- the least that no connection has, and all others are as they were.
pub record Admits {S T : Type 0} (holds : ℕ → Instance → S → Type 0) (remaining contents : T → Option (List ℕ)) (p : Past) (stream : T) (c : ℕ) (old new : Server S T) : Type 0 where
  pub room : clients_in old.slots.items < p.most
  pub least : IsLeastFree (present p).at c
  pub shows : ShowsServer holds remaining contents (record p { calls = Open c ∷ p.calls; begun = λ d. if d == c then record { before = remaining stream; had = contents stream } else p.begun d }) new
  pub others : KeepsOthers c old.slots.items new.slots.items

-- Or it did not: as many are there as may be, and then nothing is changed; or memory ran out, and no client is.
abbrev pub AdmitsTo : {S T : Type 0} → (ℕ → Instance → S → Type 0) → (T → Option (List ℕ)) → (T → Option (List ℕ)) → Past → T → Result Client AdmitFault → Server S T → Server S T → Type 0
AdmitsTo holds remaining contents p stream (Ok client) old new = Admits holds remaining contents p stream client.0.0 old new
AdmitsTo holds remaining contents p stream (Err TooManyClients) old new = (p.most ≤ clients_in old.slots.items) × (new ≡ old)
AdmitsTo holds remaining contents p stream (Err Memory) old new =
    (clients_in old.slots.items < p.most) × ShowsServer holds remaining contents p new × KeepsAll old.slots.items new.slots.items

abbrev pub IsNotice : CacheCall → Type 0
IsNotice (Notify c) = ⊤
IsNotice call = ⊥

-- whether the router under a number can be notified of a set as soon as it is published
abbrev pub can_be_told_of : VrpSet → Past → ℕ → Bool
can_be_told_of set p c = can_notify_at (published set (present p).cache) ((present p).at c)

-- A new version was published, and routers were notified; for each client that has asked and could not be notified, a notify is pending. It
-- is otherwise as it was.
pub record PublishesNew {S T : Type 0} (holds : ℕ → Instance → S → Type 0) (remaining contents : T → Option (List ℕ)) (p : Past) (set : VrpSet) (serial : ℕ) (old new : Server S T) : Type 0 where
  pub differs : is_current (present p).cache.sets set ≡ false
  pub serial_is : serial ≡ serial_at (present p).cache.start (length (present p).cache.sets)
  pub notices : List CacheCall
  pub are : AllByRecursion IsNotice notices
  pub shows : ShowsServer holds remaining contents (record p { calls = notices ++ Publish set ∷ p.calls }) new
  pub owed : (c : ℕ) → OwesSo (slot_at old.slots.items c) (can_be_told_of set p c) (slot_at new.slots.items c)

-- Without a new version no client is touched.
abbrev pub PublishesTo : {S T : Type 0} → (ℕ → Instance → S → Type 0) → (T → Option (List ℕ)) → (T → Option (List ℕ)) → Past → VrpSet → Result Published AllocError → Server S T → Server S T → Type 0
PublishesTo holds remaining contents p set (Ok (New serial)) old new = PublishesNew holds remaining contents p set serial.0 old new
PublishesTo holds remaining contents p set (Ok Unchanged) old new =
    (is_current (present p).cache.sets set ≡ true) × ShowsServer holds remaining contents p new × (new.slots.items ≡ old.slots.items)
PublishesTo holds remaining contents p set (Err error) old new = ShowsServer holds remaining contents p new × (new.slots.items ≡ old.slots.items)
