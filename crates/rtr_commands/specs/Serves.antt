-- A cache whose one connection is handed bytes.
use Rattle.std.specs.Prelude.{◌≡◌, ℕ, ◌==◌, Bool, true, false, List, [], ◌++◌, Option, Some, ⊤}
use Rattle.std.specs.List.{AllByRecursion}
use Rattle.vrps.specs.Instance.{Instance, IsInstance}
use Rattle.vrps.specs.Steps.{HoldsSteps, Steps}
use Rattle.rtr_pdu.specs.declared.version.Version.{Version}
use Rattle.rtr_pdu.specs.Code.{INTERNAL_ERROR}
use Rattle.rtr_pdu.specs.Stream.{Splits}
use Rattle.rtr_pdu.specs.declared.unit.Unit.{Unit}
use Rattle.rtr_pdu.specs.declared.unit.Unit.TheVariants.{ErrorReport}
use Rattle.rtr_pdu.specs.declared.unit.UnitFault.{UnitFault}
use Rattle.rtr_ends.specs.Cache.{ConnCall, IsConnCall, Serving, serving}
use Rattle.rtr_ends.specs.CacheState.{CacheState, ShowsCache, due_at, is_open_at, without_conns}
use Rattle.rtr_ends.specs.Connection.{ConnMoment, Read, Wanting, Fault, Notify, Pull}
use Rattle.rtr_ends.specs.Timing.{default_intervals}
use Rattle.rtr_ends.specs.declared.cache.Cache.{Cache}
use Rattle.rtr_commands.specs.Lines.{lines_of}

-- This cache keeps one version, sends the default intervals, and has no connection.
pub record Starts (i : Instance) (cache : Cache Steps) : Type 0 where
  pub is : IsInstance i
  pub shows : ShowsCache HoldsSteps (without_conns 1 default_intervals i) cache

-- What happens is of this instance, and no notify.
abbrev pub IsOwn : Instance → ConnMoment → Type 0
IsOwn i (Read version cache unit bytes) = cache ≡ i
IsOwn i (Wanting version cache unit bytes) = cache ≡ i
IsOwn i (Fault version fault bytes) = ⊤
IsOwn i (Notify version cache held) = ⊥
IsOwn i (Pull count) = ⊤

-- the connection after these calls
abbrev pub by_calls : Instance → List ConnCall → Serving
by_calls i calls = serving 1 default_intervals i calls

-- On the connection of this number these bytes came, and these were pulled.
pub record ServesOn (i : Instance) (c : ℕ) (came given : List ℕ) (cache : Cache Steps) : Type 0 where
  pub is : IsInstance i
  pub state : CacheState
  pub shows : ShowsCache HoldsSteps state cache
  pub keep_is : state.keep ≡ 1
  pub timing_is : state.timing ≡ default_intervals
  pub cache_is : state.cache ≡ i
  pub calls : List ConnCall
  pub each : AllByRecursion IsConnCall calls
  pub at : state.at c ≡ Some (by_calls i calls).conn
  pub cache_now : (by_calls i calls).cache ≡ i
  pub own : AllByRecursion (IsOwn i) (by_calls i calls).moments
  pub came_is : (by_calls i calls).came ≡ came
  pub given_is : (by_calls i calls).given ≡ given

-- So it is, and nothing is due.
pub record HasServed (i : Instance) (c : ℕ) (came given : List ℕ) (cache : Cache Steps) : Type 0 where
  pub serves : ServesOn i c came given cache
  pub none : due_at (serves.state.at c) ≡ []

-- And of these bytes all came, or the connection has ended.
pub record HasExchanged (i : Instance) (c : ℕ) (bytes given : List ℕ) (cache : Cache Steps) : Type 0 where
  pub came : List ℕ
  pub rest : List ℕ
  pub whole : bytes ≡ came ++ rest
  pub served : HasServed i c came given cache
  pub all : is_open_at (served.serves.state.at c) ≡ true → rest ≡ []

-- an Error Report of code 1, Internal Error
abbrev pub is_internal_error : Unit → Bool
is_internal_error (ErrorReport r) = r.code == INTERNAL_ERROR
is_internal_error u = false

-- The lines of the PDUs of a version by which the bytes are split, none of which is an Internal Error.
pub record HasLines (version : Version) (bytes : List ℕ) (lines : List ℕ) : Type 0 where
  pub units : List Unit
  pub rest : List ℕ
  pub fault : Option UnitFault
  pub splits : Splits version false bytes units rest fault
  pub sound : AllByRecursion (λ u. is_internal_error u ≡ false) units
  pub lines_are : lines ≡ lines_of version units
