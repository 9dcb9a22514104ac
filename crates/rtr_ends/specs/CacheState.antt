-- A cache with many connections, as a machine.
use Rattle.std.specs.Prelude.{◌≡◌, ℕ, ◌-◌, ◌<◌, ◌==◌, Bool, true, false, not, List, [], ◌∷◌, length, Box, Option, Some, None, IsSome, IfSome, Result, Ok, Err, is_some, map, slice_get, option_map, if◌then◌else◌, ⊤}
use Rattle.std.specs.declared.alloc.AllocError.{AllocError}
use Rattle.std.specs.List.{AllByRecursion}
use Rattle.vrps.specs.Instance.{Instance, IsInstance, NumberedSet, versions}
use Rattle.vrps.specs.Store.{published}
use Rattle.vrps.specs.Stores.{newest}
use Rattle.vrps.specs.VrpSet.{IsVrpSet, VrpSet}
use Rattle.rtr_pdu.specs.Payloads.{AreBytes}
use Rattle.rtr_pdu.specs.Version.{header_version}
use Rattle.rtr_pdu.specs.declared.version.Version.{Version}
use Rattle.rtr_ends.specs.Cache.{ConnCall, Conn, Gives, IsServed, Notifies, Publishes, Serving, Takes, can_notify, conn_notified, conn_pulled, conn_takes, is_none, new_conn, serve, serving}
use Rattle.rtr_ends.specs.Numbers.{AreFree}
use Rattle.rtr_ends.specs.Peer.{HasBufferRoom, ShowsPeer, held_by_peer, is_wanted_by_peer}
use Rattle.rtr_ends.specs.Sender as sends
use Rattle.rtr_ends.specs.Sender.{numbered_of}
use Rattle.rtr_ends.specs.Timing.{Intervals}
use Rattle.rtr_ends.specs.declared.cache.Cache.{Cache}
use Rattle.rtr_ends.specs.declared.cache.Conn.{Conn as Number}
use Rattle.rtr_ends.specs.declared.peer.Peer.{Peer}
use Rattle.rtr_ends.specs.declared.sender.Share.{Share}

-- How many versions before the current one are kept, the intervals that are sent, and the instance that is published. And by their numbers
-- the connections that are open or have yet to be closed.
pub record CacheState : Type 0 where
  pub keep : ℕ
  pub timing : Intervals
  pub cache : Instance
  pub at : ℕ → Option Conn

-- a cache without a connection
abbrev pub without_conns : ℕ → Intervals → Instance → CacheState
without_conns keep t i = record { keep = keep; timing = t; cache = i; at = λ c. None }

-- another connection, or none, under this number
abbrev pub with_conn : ℕ → Option Conn → CacheState → CacheState
with_conn c o m = record m { at = λ d. if d == c then o else m.at d }

-- A piece is received on a connection; memory runs out at this PDU of it, if at any.
abbrev pub taken : Option ℕ → List ℕ → ℕ → CacheState → CacheState
taken wanting piece c m = with_conn c (option_map (λ o. (conn_takes m.keep m.timing m.cache wanting piece o).machine.conn) (m.at c)) m

-- this many bytes of it are consumed
abbrev pub conn_consumed : Option ℕ → List ℕ → CacheState → Option Conn → ℕ
conn_consumed wanting piece m None = 0
conn_consumed wanting piece m (Some o) = length piece - length (conn_takes m.keep m.timing m.cache wanting piece o).rest

-- At most this many of the bytes due on a connection are pulled.
abbrev pub given : ℕ → ℕ → CacheState → CacheState
given most c m = with_conn c (option_map (conn_pulled m.keep m.timing most) (m.at c)) m

abbrev pub due_at : Option Conn → List ℕ
due_at None = []
due_at (Some o) = o.state.due

-- the router of a connection is notified
abbrev pub notified : ℕ → CacheState → CacheState
notified c m = with_conn c (option_map (conn_notified m.keep m.timing m.cache) (m.at c)) m

abbrev pub can_notify_at : Instance → Option Conn → Bool
can_notify_at i None = false
can_notify_at i (Some o) = can_notify i o

abbrev pub is_open_at : Option Conn → Bool
is_open_at None = false
is_open_at (Some o) = not o.state.ended

abbrev pub has_bytes_at : Option Conn → Bool
has_bytes_at None = false
has_bytes_at (Some o) = not (is_none o.state.due)

-- the version of the first header of a connection, once it came whole
abbrev pub version_at : Option Conn → Option Version
version_at None = None
version_at (Some o) = header_version o.state.version o.held

-- the least number that no connection has
pub record IsLeastFree (at : ℕ → Option Conn) (n : ℕ) : Type 0 where
  pub free : at n ≡ None
  pub least : (k : ℕ) → k < n → IsSome (at k)

-- the connection under a number of a list
abbrev pub joined : {X : Type 0} → Option (Option X) → Option X
joined None = None
joined (Some x) = x

-- nothing is shown by nothing
abbrev pub ShowsSlot : Intervals → Instance → Option Conn → Option Peer → Type 0
ShowsSlot t i None None = ⊤
ShowsSlot t i (Some o) (Some p) = ShowsPeer t i o p
ShowsSlot t i None (Some p) = ⊥
ShowsSlot t i (Some o) None = ⊥

abbrev pub unboxed : {A : Type 0} → Option (Box Peer A) → Option Peer
unboxed None = None
unboxed (Some b) = Some b.value

abbrev pub peer_at : {A : Type 0} → List (Option (Box Peer A)) → ℕ → Option Peer
peer_at peers c = unboxed (joined (slice_get peers c))

-- which numbers of a list have a connection
abbrev pub taken_numbers : {A : Type 0} → List (Option (Box Peer A)) → List Bool
taken_numbers peers = map is_some peers

-- The machine's state is shown by this cache, over a store of which this holds.
pub record ShowsCache {S : Type 0} (holds : ℕ → Instance → S → Type 0) (m : CacheState) (cache : Cache S) : Type 0 where
  pub timing : cache.timing ≡ m.timing
  pub session0 : cache.session0 ≡ m.cache.session0
  pub store : holds m.keep m.cache cache.store
  pub slots : (c : ℕ) → ShowsSlot m.timing m.cache (m.at c) (peer_at cache.peers.items c)
  pub numbers : AreFree (taken_numbers cache.peers.items) cache.free

-- Memory runs out at this PDU of a piece: it is read, and its answer allocates memory.
abbrev pub is_wanted_at : List ℕ → CacheState → Option Conn → ℕ → Bool
is_wanted_at piece m None unit = false
is_wanted_at piece m (Some o) unit = is_wanted_by_peer m.keep m.timing m.cache o piece unit

-- No connection holds more than 4,096 bytes that were received, nor more than 4,096 that are ready to be pulled.
abbrev pub AllHaveRoom : {S : Type 0} → Cache S → Type 0
AllHaveRoom cache = (c : ℕ) → IfSome (peer_at cache.peers.items c) (λ p. HasBufferRoom (held_by_peer p))

-- what is answered to a piece
pub record TakesPiece {S : Type 0} (holds : ℕ → Instance → S → Type 0) (m : CacheState) (c : ℕ) (piece : List ℕ) (result : ℕ) (new : Cache S) : Type 0 where
  pub wanting : Option ℕ
  pub wanted : IfSome wanting (λ unit. is_wanted_at piece m (m.at c) unit ≡ true)
  pub shows : ShowsCache holds (taken wanting piece c m) new
  pub result_is : result ≡ conn_consumed wanting piece m (m.at c)

-- and if bytes are pulled
pub record GivesBytes {S : Type 0} (holds : ℕ → Instance → S → Type 0) (m : CacheState) (c : ℕ) (out : List ℕ) (result : ℕ) (now : List ℕ) (new : Cache S) : Type 0 where
  pub gives : sends.PullsBytes (due_at (m.at c)) out result now (due_at ((given (length out) c m).at c))
  pub shows : ShowsCache holds (given (length out) c m) new

-- A connection is opened, or memory runs out and nothing is changed.
abbrev pub Opens : {S : Type 0} → (ℕ → Instance → S → Type 0) → CacheState → Result Number AllocError → Cache S → Type 0
Opens holds m (Ok conn) new = IsLeastFree m.at conn.0 × ShowsCache holds (with_conn conn.0 (Some (new_conn m.cache)) m) new
Opens holds m (Err error) new = ShowsCache holds m new

-- What a connection shows at one instance it shows at another of the same sessions, at which this is the newest version.
abbrev pub Brings : NumberedSet → Option Peer → Option Peer → Type 0
Brings v old new =
    (t : Intervals) (i j : Instance) (a : Option Conn) → i.session ≡ j.session → i.session0 ≡ j.session0 → Some v ≡ newest (versions j) → ShowsSlot t i a old →
    ShowsSlot t j a new

-- One connection has a share of a newer version; no number is allocated or freed.
pub record OffersAt {A : Type 0} (old : List (Option (Box Peer A))) (c : ℕ) (share : Share) (new : List (Option (Box Peer A))) : Type 0 where
  pub len : length new ≡ length old
  pub taken : taken_numbers new ≡ taken_numbers old
  pub here : Brings (numbered_of share) (peer_at old c) (peer_at new c)
  pub others : (d : ℕ) → ¬ (d ≡ c) → peer_at new d ≡ peer_at old d

-- Each connection has a share of a newer version of this serial, if all these sets are its set; no number is allocated or freed.
abbrev pub HandsOut : {A : Type 0} → List (Option (Box Peer A)) → ℕ → List VrpSet → List (Option (Box Peer A)) → Type 0
HandsOut old serial sets new =
    (taken_numbers new ≡ taken_numbers old)
    × ((set : VrpSet) → AllByRecursion (λ s. s ≡ set) sets → (c : ℕ) → Brings (record { serial = serial; set = set }) (peer_at old c) (peer_at new c))

-- What is called on a cache. A set is published, a connection is opened under a number or closed, a piece is received, bytes are pulled, or
-- a router is notified.
pub data CacheCall : Type 0 where
  Publish : (set : VrpSet) → CacheCall
  Open : (c : ℕ) → CacheCall
  Close : (c : ℕ) → CacheCall
  Receive : (c : ℕ) → (wanting : Option ℕ) → (piece : List ℕ) → CacheCall
  Pull : (c : ℕ) → (most : ℕ) → CacheCall
  Notify : (c : ℕ) → CacheCall

abbrev pub cache_called : CacheCall → CacheState → CacheState
cache_called (Publish set) m = record m { cache = published set m.cache }
cache_called (Open c) m = with_conn c (Some (new_conn m.cache)) m
cache_called (Close c) m = with_conn c None m
cache_called (Receive c wanting piece) m = taken wanting piece c m
cache_called (Pull c most) m = given most c m
cache_called (Notify c) m = notified c m

-- after these calls, the last first
abbrev pub ran : List CacheCall → CacheState → CacheState
ran [] m = m
ran (call ∷ calls) m = cache_called call (ran calls m)

-- a connection since it was opened, at an instance
pub record Life : Type 0 where
  pub opened : Instance
  pub serving : Serving

abbrev pub serves : ℕ → Intervals → ConnCall → Life → Life
serves keep t call l = record l { serving = serve keep t call l.serving }

-- what a call is to the connection of a number, by the instance before it
abbrev pub life_after : CacheCall → CacheState → ℕ → Option Life → Option Life
life_after (Publish set) m c l = option_map (serves m.keep m.timing (Publishes set)) l
life_after (Open d) m c l = if c == d then Some (record { opened = m.cache; serving = serving m.keep m.timing m.cache [] }) else l
life_after (Close d) m c l = if c == d then None else l
life_after (Receive d wanting piece) m c l = if c == d then option_map (serves m.keep m.timing (Takes wanting piece)) l else l
life_after (Pull d most) m c l = if c == d then option_map (serves m.keep m.timing (Gives most)) l else l
life_after (Notify d) m c l = if c == d then option_map (serves m.keep m.timing Notifies) l else l

-- the connection under a number, since it was opened last and as long as it is not closed
abbrev pub life : List CacheCall → CacheState → ℕ → Option Life
life [] m c = None
life (call ∷ calls) m c = life_after call (ran calls m) c (life calls m c)

abbrev pub IsCacheCall : CacheCall → Type 0
IsCacheCall (Publish set) = IsVrpSet set
IsCacheCall (Receive c wanting piece) = AreBytes piece
IsCacheCall call = ⊤

-- After any calls on a new cache, each connection is as its own calls leave it, and they made its history. What came was consumed, what was
-- pulled is the beginning of its replies, and what is due is the rest of them.
pub record IsLife (keep : ℕ) (t : Intervals) (i : Instance) (a : Option Conn) (l : Option Life) : Type 0 where
  pub same : a ≡ option_map (λ (x : Life). x.serving.conn) l
  pub now : IfSome l (λ x. x.serving.cache ≡ i)
  pub served : IfSome l (λ x. IsServed keep t x.opened x.serving)

abbrev pub EachIsServed : Type 0
EachIsServed =
    (keep : ℕ) (t : Intervals) (i : Instance) (calls : List CacheCall) → IsInstance i → AllByRecursion IsCacheCall calls → (c : ℕ) →
    let m : CacheState = ran calls (without_conns keep t i) in IsLife m.keep m.timing m.cache (m.at c) (life calls (without_conns keep t i) c)

-- These calls, the last first, lead to the value, from a new cache that keeps this many versions, with these intervals and this instance.
-- What the contract of a call says of a state, it says of the one after these calls, and the next is the state after one call more.
abbrev pub CacheCallsLead : {S : Type 0} → (ℕ → Instance → S → Type 0) → ℕ → Intervals → Instance → List CacheCall → Cache S → Type 0
CacheCallsLead holds keep t i calls cache = ShowsCache holds (ran calls (without_conns keep t i)) cache

-- Under a number the value holds a connection as its own calls leave it, and they made its history; or none is open there.
pub record SlotIsServed {S : Type 0} (m : CacheState) (c : ℕ) (l : Option Life) (cache : Cache S) : Type 0 where
  pub shown : ShowsSlot m.timing m.cache (m.at c) (peer_at cache.peers.items c)
  pub served : IsLife m.keep m.timing m.cache (m.at c) l

abbrev pub CacheIsServed : {S : Type 0} → (ℕ → Instance → S → Type 0) → Cache S → Type 0
CacheIsServed holds cache =
    (keep : ℕ) (t : Intervals) (i : Instance) (calls : List CacheCall) → CacheCallsLead holds keep t i calls cache → IsInstance i → AllByRecursion IsCacheCall calls →
    (c : ℕ) → SlotIsServed (ran calls (without_conns keep t i)) c (life calls (without_conns keep t i) c) cache
