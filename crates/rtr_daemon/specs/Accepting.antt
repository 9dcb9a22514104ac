-- Which listeners are asked for connections, and how often. Times are milliseconds of the monotonic clock.
use Rattle.std.specs.Prelude.{◌≡◌, ◌⊎◌, ◌≤◌, ℕ, zero, suc, nat_le, ◌&&◌, All, Bool, true, false, List, map, length, slice_get, slice_set, Option, None, Some, unwrap_or, if◌then◌else◌}
use Rattle.rtr_daemon.specs.SocketCalls.{AcceptOutcome, Fails, NonePending, SocketCalls}
use Rattle.rtr_daemon.specs.Times.{later_by}
use Rattle.rtr_daemon.specs.declared.accepting.Listener.{Listener}
use Rattle.rtr_daemon.specs.declared.environment.Ready.{Ready}
use Rattle.rtr_daemon.specs.declared.environment.Ready.TheVariants as what

-- A listener is asked at a time if a connection may be pending there, and it is not paused.
abbrev pub can_accept : Listener → ℕ → Bool
can_accept l now = l.pending && nat_le (unwrap_or l.paused_until 0) now

-- There is such a time, and it is not later than this one.
abbrev pub IsBy : Option ℕ → ℕ → Type 0
IsBy None at = ⊥
IsBy (Some time) at = time ≤ at

-- If a connection may be pending at a listener, it is tried at this time at the latest, or when its pause ends if that is later.
abbrev pub IsTriedBy : Option ℕ → Listener → Type 0
IsTriedBy time l = l.pending ≡ true → IsBy time (unwrap_or l.paused_until 0)

abbrev pub AreTriedBy : Option ℕ → List Listener → Type 0
AreTriedBy time listeners = All (IsTriedBy time) listeners

abbrev pub is_asked : Option Listener → ℕ → Bool
is_asked None now = false
is_asked (Some l) now = can_accept l now

-- listeners of which the one of an index is changed, if there is one
abbrev pub changed : List Listener → ℕ → (Listener → Listener) → Option Listener → List Listener
changed listeners i change None = listeners
changed listeners i change (Some l) = slice_set listeners i (change l)

abbrev pub changed_at : List Listener → ℕ → (Listener → Listener) → List Listener
changed_at listeners i change = changed listeners i change (slice_get listeners i)

-- A connection may be pending at a listener, or not.
abbrev pub with_pending : Bool → Listener → Listener
with_pending pending l = record l { pending = pending }

-- It is paused until a time.
abbrev pub with_pause : ℕ → Listener → Listener
with_pause until l = record l { paused_until = Some until }

-- After what was ready: a connection may be pending at each listener that was.
abbrev pub noted : Ready → List Listener → List Listener
noted (what.Listener i) listeners = changed_at listeners i (with_pending true)
noted (what.Connection token) listeners = listeners

-- a listener that is not paused
abbrev pub resume : Listener → Listener
resume l = record l { paused_until = None }

-- No listener is paused any longer if a client was closed: there may be room again.
abbrev pub resumed : Bool → List Listener → List Listener
resumed has_closed listeners = if has_closed then map resume listeners else listeners

-- An accept of a listener came to this.
abbrev pub HadAccepted : {W : Type 0} → SocketCalls W → ℕ → AcceptOutcome → Type 0
HadAccepted {W} calls i came = (before : W) × (after : W) × calls.accepts before i came after

-- A listener after an accept: it is paused for a second if that failed, and nothing is pending if none was.
abbrev pub IsAfter : (ℕ → Type 0) → AcceptOutcome → Listener → Listener → Type 0
IsAfter ticks Fails l new = (millis : ℕ) × ticks millis × (new ≡ with_pause (later_by 1000 millis) l)
IsAfter ticks NonePending l new = new ≡ with_pending false l
IsAfter ticks came l new = new ≡ l

-- A listener was asked as long as it can accept, but at most this number of times.
abbrev pub AsksUntil : {W : Type 0} → SocketCalls W → (ℕ → Type 0) → ℕ → ℕ → Listener → Listener → Type 0
AsksUntil calls ticks i zero l new = new ≡ l
AsksUntil calls ticks i (suc n) l new =
    (now : ℕ) × ticks now
    × (((can_accept l now ≡ false) × (new ≡ l))
    ⊎ ((can_accept l now ≡ true) × (came : AcceptOutcome) × HadAccepted calls i came × (next : Listener) × IsAfter ticks came l next × AsksUntil calls ticks i n next new))

-- The listener of an index was asked once. All others are unchanged.
abbrev pub AcceptsOnce : {W : Type 0} → SocketCalls W → (ℕ → Type 0) → ℕ → List Listener → List Listener → Type 0
AcceptsOnce calls ticks i old new = (l : Listener) → slice_get old i ≡ Some l → (came : AcceptOutcome) × HadAccepted calls i came × (next : Listener) × IsAfter ticks came l next × (new ≡ slice_set old i next)

-- It is paused for a second from a time that the clock answered.
abbrev pub PausesOne : (ℕ → Type 0) → ℕ → List Listener → List Listener → Type 0
PausesOne ticks i old new = (millis : ℕ) × ticks millis × (new ≡ changed_at old i (with_pause (later_by 1000 millis)))

-- It was asked at most 1,024 times. All others are unchanged.
abbrev pub AsksOne : {W : Type 0} → SocketCalls W → (ℕ → Type 0) → ℕ → List Listener → List Listener → Type 0
AsksOne calls ticks i old new = (l : Listener) → slice_get old i ≡ Some l → (last : Listener) × (new ≡ slice_set old i last) × AsksUntil calls ticks i 1024 l last

-- Each listener was asked so.
pub record AsksEach {W : Type 0} (calls : SocketCalls W) (ticks : ℕ → Type 0) (old new : List Listener) : Type 0 where
  pub many : length new ≡ length old
  pub asks : (i : ℕ) (l : Listener) → slice_get old i ≡ Some l → (last : Listener) × (slice_get new i ≡ Some last) × AsksUntil calls ticks i 1024 l last
