-- The plan of a daemon, from its settings.
use Rattle.std.specs.Prelude.{◌≡◌, ◌⊎◌, ℕ, false, bytes_eq, flat_map, if◌then◌else◌, length, List, [], ◌∷◌, ◌++◌, Option, None, Some, Result, Err}
use Rattle.std.specs.List.{list_any}
use Rattle.std.specs.declared.io.Error.{Error}
use Rattle.rpkirtrd_cli.specs.Derived.{address_line, millis_of, sources_text}
use Rattle.rpkirtrd_cli.specs.declared.settings.Settings.{Settings}
use Rattle.rtr_daemon.specs.DiskAnswers.{DiskAnswers}
use Rattle.rtr_daemon.specs.Origins.{SourcesComeFrom}
use Rattle.rtr_daemon.specs.Running.{IsClockUnset, IsRun, clients_within, exit_status}
use Rattle.rtr_daemon.specs.Serving.{LeadsToService, kept_versions, past_of}
use Rattle.rtr_daemon.specs.SocketCalls.{SocketCalls}
use Rattle.rtr_daemon.specs.Starting.{Begins, ReadsAll, Watches, texts}
use Rattle.rtr_server.specs.Clients.{Begun}
use Rattle.rtr_server.specs.declared.stream.Call.{Call}
use Rattle.session_names.specs.Choices.{HostAnswers, IsChosen}
use Rattle.session_names.specs.declared.choice.GivenIds.{GivenIds}
use Rattle.session_names.specs.declared.choice.SessionChoice.{SessionChoice}
use Rattle.session_names.specs.declared.names.SessionIds.{SessionIds}
use Rattle.vrps.specs.Steps.{HoldsSteps, Steps}
use Rattle.rtr_daemon.specs.declared.cache_settings.CacheSettings.{CacheSettings}
use Rattle.rtr_daemon.specs.declared.daemon.Daemon.{Daemon}
use Rattle.rtr_daemon.specs.declared.daemon.Paths.{Paths}
use Rattle.rtr_daemon.specs.declared.daemon.Plan.{Plan}
use Rattle.rtr_daemon.specs.declared.daemon.StopReason.{StopReason}
use Rattle.rtr_daemon.specs.declared.shrink_guard.ShrinkGuard.{ShrinkGuard}

-- a guard of this time, if there is a percentage
abbrev pub guard_of : ℕ → Option ℕ → Option ShrinkGuard
guard_of hold None = None
guard_of hold (Some percent) = Some (record { percent = percent; hold = hold })

-- the guard of these settings against exports that shrink
abbrev pub shrink_of : Settings → Option ShrinkGuard
shrink_of s = guard_of s.shrink_hold s.max_shrink

-- What the cache is made with, for at most this number of clients
abbrev pub cache_of : Settings → ℕ → CacheSettings
cache_of s clients = record { keep = s.keep; timing = s.timing; clients = clients }

-- A cache of these settings keeps this number of versions, sends these intervals, and has this limit of clients.
abbrev pub IsMadeAs : CacheSettings → CacheSettings → Type 0
IsMadeAs made wanted = (kept_versions made.keep ≡ kept_versions wanted.keep) × (made.timing ≡ wanted.timing) × (made.clients ≡ wanted.clients)

-- The plan of these settings
abbrev pub plan_of : Settings → Plan
plan_of s =
    record {
      check = millis_of s.check;
      stall = millis_of s.stall;
      slow = millis_of s.slow;
      clients_per_address = s.clients_per_address;
      leaves_out_length_0 = s.leave_out_length_0;
      max_age = s.max_age;
      stops_when_old = s.stop_when_old;
      shrink = shrink_of s;
      max_size = s.max_size;
      once = s.once;
      listeners = length s.listen.items;
    }

-- these paths, and then each of the others that did not occur before
abbrev pub and_others : List (List ℕ) → List (List ℕ) → List (List ℕ)
and_others kept [] = kept
and_others kept (path ∷ paths) = and_others (if list_any (λ other. bytes_eq other path) kept then kept else kept ++ path ∷ []) paths

-- each path once, in the order of their first occurrences
abbrev pub each_once : List (List ℕ) → List (List ℕ)
each_once paths = and_others [] paths

-- The sources of these settings, in their order. A path that is given twice for an option is a source once.
pub record AreSources (s : Settings) (paths : Paths) : Type 0 where
  pub exports : texts paths.files.items ≡ each_once (texts s.vrps.items)
  pub slurms : texts paths.slurms.items ≡ each_once (texts s.slurm.items)
  pub points : texts paths.points.items ≡ each_once (texts s.points.items)

-- what is given of the sessions and the first serial
abbrev pub given_of : Settings → GivenIds
given_of s = record { session = s.session; session0 = s.session0; serial = s.start }

-- the sessions and the first serial of a run of these settings, at a second of the clock
abbrev pub IsNamed : HostAnswers → (ℕ → Type 0) → Settings → SessionIds → Type 0
IsNamed host clock s ids = (start : ℕ) × clock start × (choice : SessionChoice) × IsChosen host (given_of s) (flat_map address_line s.listen.items) (sources_text s) start choice × (ids ≡ choice.ids)

-- A daemon of these settings has begun: with these files read, these sessions, and nothing published yet.
pub record HasBegun {T W : Type 0} (answers : DiskAnswers W) (host : HostAnswers) (clock ticks : ℕ → Type 0) (remaining contents : T → Option (List ℕ)) (s : Settings) (clients : ℕ) (d : Daemon Steps T) : Type 0 where
  pub begins : Begins clock ticks (plan_of s) d
  pub planned : d.plan ≡ plan_of s
  pub paths : Paths
  pub are : AreSources s paths
  pub watches : Watches paths d
  pub reads : ReadsAll answers (plan_of s) d
  pub comes : SourcesComeFrom answers clock d
  pub named : IsNamed host clock s d.session_ids
  pub leads : (begun : ℕ → Begun) → LeadsToService clock HoldsSteps remaining contents (past_of (cache_of s clients) d.session_ids begun) d.service
  pub closed : d.is_ready ≡ false

-- A daemon has begun, and a run of it has ended.
pub record HasServed {T W A : Type 0} (answers : DiskAnswers W) (calls : SocketCalls W) (host : HostAnswers) (reads : W → ℕ → W → Type 0) (clock ticks : ℕ → Type 0) (remaining contents : T → Option (List ℕ)) (stream : T → Option (List Call))
    (sees : A → Daemon Steps T → A → Type 0) (s : Settings) (clients : ℕ) (start end : A) (status : ℕ) : Type 0 where
  pub first : Daemon Steps T
  pub last : Daemon Steps T
  pub result : Result StopReason Error
  pub begun : HasBegun answers host clock ticks remaining contents s clients first
  pub runs : IsRun answers calls reads clock ticks HoldsSteps remaining contents stream sees result first start last end
  pub status_is : status ≡ exit_status result

-- The run of a daemon has ended so, with as many clients as the descriptors allow. Or no daemon has begun: a wait failed before the clock was set.
abbrev pub Serves : {T W A : Type 0} → DiskAnswers W → SocketCalls W → HostAnswers → (W → ℕ → W → Type 0) → (ℕ → Type 0) → (ℕ → Type 0) → (T → Option (List ℕ)) → (T → Option (List ℕ)) → (T → Option (List Call)) → (A → Daemon Steps T → A → Type 0) → Settings → ℕ → ℕ → A → A → ℕ → Type 0
Serves {T} {W} answers calls host reads clock ticks remaining contents stream sees s descriptors http start end status =
    HasServed answers calls host reads clock ticks remaining contents stream sees s (clients_within s.clients descriptors http) start end status ⊎ (IsClockUnset clock × (error : Error) × (status ≡ exit_status (Err error)))
