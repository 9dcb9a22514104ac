-- The calls of a cache's handle.
use Rattle.std.specs.Prelude.{◌≡◌, ◌⊎◌, ℕ, ◌≤◌, ◌^◌, ℤ, true, List, [], length, Option, Some, None, IfSome, option_map, slice_get}
use Rattle.std.specs.Int.{from_bool}
use Rattle.vrps.specs.Instance.{NumberedSet}
use Rattle.vrps.specs.Steps.{HoldsSteps}
use Rattle.vrps.specs.Store.{is_current, published}
use Rattle.vrps.specs.VrpSet.{set_of, size}
use Rattle.prefixes.specs.Payload.{Payload}
use Rattle.rtr_ends.specs.Cache.{Conn, new_conn}
use Rattle.rtr_ends.specs.CacheState.{CacheState, IsLeastFree, ShowsCache, conn_consumed, due_at, given, is_wanted_at, joined, taken, with_conn, without_conns}
use Rattle.rtr_ends.specs.Sender.{PullsBytes}
use Rattle.rtr_ends.specs.Timing.{InRange, Intervals, IsTiming, OutlastsOthers, intervals, timing_fault_number}
use Rattle.rtr_ends.specs.declared.cache.Conn.{Conn as Number}
use Rattle.rtr_ends.specs.declared.timing.TimingFault.TheVariants as timing
use Rattle.rpkirtr_c.specs.Answers.{number}
use Rattle.rpkirtr_c.specs.Indexes.{AreRecords, IsFaultOf, bad_of, fault_status}
use Rattle.rpkirtr_c.specs.declared.index.IndexFault.{IndexFault}
use Rattle.rpkirtr_c.specs.declared.served_cache.CacheFault.{CacheFault}
use Rattle.rpkirtr_c.specs.declared.served_cache.CacheFault.TheVariants.{Keep, Memory}
use Rattle.rpkirtr_c.specs.declared.served_cache.CacheFault.TheVariants.{Timing as BadIntervals}
use Rattle.rpkirtr_c.specs.declared.served_cache.ServedCache.{ServedCache}
use Rattle.rpkirtr_c.specs.declared.served_cache.Settings.{Settings}
use Rattle.rpkirtr_c.specs.declared.call_status.CallStatus.{CallStatus}
use Rattle.rpkirtr_c.specs.declared.call_status.CallStatus.TheVariants.{Done, Live, NoMemory, OutOfRange, BadTiming, BadKeep, NoConnection, NoData}
use Rattle.rpkirtr_c.specs.declared.values.CRecord.{CRecord}

-- the connection of a number in a table, by the number that the cache gave it
abbrev pub number_at : List (Option Number) → ℕ → Option ℕ
number_at slots c = option_map (λ (n : Number). n.0) (joined (slice_get slots c))

-- The value shows a cache in this state, and its table has the numbers that have a connection.
pub record IsServing (m : CacheState) (s : ServedCache) : Type 0 where
  pub cache : ShowsCache HoldsSteps m s.cache
  pub table : (c : ℕ) → number_at s.conns.slots.items c ≡ option_map (λ _. c) (m.at c)

-- This is so of whatever state the value shows.
abbrev pub Serves : ServedCache → (CacheState → Type 0) → Type 0
Serves s P = (m : CacheState) → IsServing m s → P m

-- A call on the connection of a number does this. If no connection has the number, the answer says so, and this stays.
abbrev pub AtConn : Option Conn → ℤ → Type 0 → Type 0 → Type 0
AtConn None answer Does Stays = (answer ≡ number NoConnection) × Stays
AtConn (Some o) answer Does Stays = (answer ≡ number Done) × Does

-- A piece is received on a connection, and this many bytes of it are consumed.
pub record Takes (m : CacheState) (c : ℕ) (piece : List ℕ) (count : ℕ) (t : ServedCache) : Type 0 where
  pub wanting : Option ℕ
  pub wanted : IfSome wanting (λ unit. is_wanted_at piece m (m.at c) unit ≡ true)
  pub count_is : count ≡ conn_consumed wanting piece m (m.at c)
  pub serving : IsServing (taken wanting piece c m) t

-- Bytes that are due on a connection fill the room, as far as it fits.
abbrev pub Gives : CacheState → ℕ → List ℕ → ℕ → List ℕ → ServedCache → Type 0
Gives m c old count new t = PullsBytes (due_at (m.at c)) old count new (due_at ((given (length old) c m).at c)) × IsServing (given (length old) c m) t

-- A connection is opened under the least number that none has. If there is no memory, or if that number has more than 32 bits, nothing
-- changes, and the answer says so.
abbrev pub Opens : CacheState → ℤ → ℕ → ServedCache → Type 0
Opens m answer c t =
    ((answer ≡ number Done) × IsLeastFree m.at c × IsServing (with_conn c (Some (new_conn m.cache)) m) t)
    ⊎ (((answer ≡ number NoMemory) × (c ≡ 0) × IsServing m t)
    ⊎ ((answer ≡ number OutOfRange) × (c ≡ 0) × IsServing m t × (n : ℕ) × IsLeastFree m.at n × (2 ^ 32 ≤ n)))

-- A connection is open under the least number that none had, and is not in the table yet.
pub record IsOpening (m : CacheState) (c : ℕ) (s : ServedCache) : Type 0 where
  pub least : IsLeastFree m.at c
  pub cache : ShowsCache HoldsSteps (with_conn c (Some (new_conn m.cache)) m) s.cache
  pub table : (d : ℕ) → number_at s.conns.slots.items d ≡ option_map (λ _. d) (m.at d)

-- The set of these records is published. `unchanged` is 1 if it is the current one, and 0 if it is not.
abbrev pub IsPublished : CacheState → List CRecord → ℕ → ServedCache → Type 0
IsPublished m records unchanged t =
    (vs : List Payload) × AreRecords vs records × (unchanged ≡ from_bool (is_current m.cache.sets (set_of vs))) × IsServing (record m { cache = published (set_of vs) m.cache }) t

-- Records are published, or nothing is for a fault, which is written.
abbrev pub Publishes : CacheState → List CRecord → ℤ → ℕ → ℕ → ServedCache → Type 0
Publishes m records answer bad unchanged t =
    ((answer ≡ number Done) × (bad ≡ 0) × IsPublished m records unchanged t)
    ⊎ ((fault : IndexFault) × IsFaultOf records fault × (answer ≡ number (fault_status fault)) × (bad ≡ bad_of fault) × (unchanged ≡ 0) × IsServing m t)

-- the current version: its serial, and how many records it has
abbrev pub IsCurrent : Option NumberedSet → ℤ → ℕ → ℕ → Type 0
IsCurrent None answer serial count = (answer ≡ number NoData) × (serial ≡ 0) × (count ≡ 0)
IsCurrent (Some v) answer serial count = (answer ≡ number Done) × (serial ≡ v.serial) × (count ≡ size v.set)

-- the intervals that a cache sends
abbrev pub intervals_in : Settings → Intervals
intervals_in c = intervals c.refresh c.retry c.expire

-- a cache of these settings, which has published nothing and has no connection
abbrev pub new_cache : Settings → CacheState
new_cache c = without_conns c.keep (intervals_in c) (record { session = c.session; session0 = c.session0; start = c.start; sets = [] })

-- how many versions before the current one can be kept
pub record IsKeep (keep : ℕ) : Type 0 where
  pub some : 1 ≤ keep
  pub limit : keep ≤ 65536

-- why there is no cache of these settings: the intervals are judged first
abbrev pub IsCacheFault : Settings → CacheFault → Type 0
IsCacheFault c (BadIntervals timing.OutOfRange) = ¬ (InRange (intervals_in c))
IsCacheFault c (BadIntervals timing.ExpireTooSmall) = InRange (intervals_in c) × ¬ (OutlastsOthers (intervals_in c))
IsCacheFault c Keep = IsTiming (intervals_in c) × ¬ (IsKeep c.keep)
IsCacheFault c Memory = IsTiming (intervals_in c) × IsKeep c.keep

-- A cache of these settings, which are valid
abbrev pub IsNew : Settings → ServedCache → Type 0
IsNew c s = IsTiming (intervals_in c) × IsKeep c.keep × IsServing (new_cache c) s

abbrev pub cache_status : CacheFault → CallStatus
cache_status (BadIntervals fault) = BadTiming
cache_status Keep = BadKeep
cache_status Memory = NoMemory

-- the number of what is at fault in the intervals, and 0 if they are not at fault
abbrev pub timing_number : CacheFault → ℕ
timing_number (BadIntervals fault) = timing_fault_number fault
timing_number Keep = 0
timing_number Memory = 0

-- A cache is made in an empty handle, or it stays empty for a fault, which is written. A live handle stays as it is.
abbrev pub NewCache : Settings → Option ServedCache → Option ServedCache → ℤ → ℕ → Type 0
NewCache c None (Some t) answer told = (answer ≡ number Done) × IsNew c t × (told ≡ 0)
NewCache c None None answer told = (fault : CacheFault) × IsCacheFault c fault × (answer ≡ number (cache_status fault)) × (told ≡ timing_number fault)
NewCache c (Some s) (Some t) answer told = (answer ≡ number Live) × (t ≡ s) × (told ≡ 0)
NewCache c (Some s) None answer told = ⊥
