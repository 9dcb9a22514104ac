-- The versions of a daemon are those of a run (RFC 1982; RFC 8210 section 5.1). Times are seconds since 1970.
use Rattle.std.specs.Prelude.{◌≡◌, ◌+◌, ◌^◌, ◌<◌, ◌≤◌, ℕ, true, List, [], ◌∷◌, ◌++◌, length, Option, Some}
use Rattle.session_names.specs.Names.{first_serial}
use Rattle.session_names.specs.Runs.{Run, WaitsASecond, may_publish}
use Rattle.vrps.specs.Instance.{Instance}
use Rattle.vrps.specs.Serial.{is_before, serial_at}
use Rattle.vrps.specs.VrpSet.{VrpSet}
use Rattle.rtr_daemon.specs.Serving.{with_version, without_versions}

-- the last of these times, or the time before them
abbrev pub last_of : ℕ → List ℕ → ℕ
last_of last [] = last
last_of last (now ∷ later) = last_of now later

-- Each version has its time: the first is later than the start, each other later than the one before, and the last is that of the pace. The first
-- serial is the second of the start. Of these versions `dropped` are no longer kept, and the instance has the others.
pub record IsPaced (run : Run) (pace : Option ℕ) (i : Instance) : Type 0 where
  pub waits : WaitsASecond run
  pub dropped : ℕ
  pub each : length run.moments ≡ dropped + length i.sets
  pub last : pace ≡ Some (last_of run.start run.moments)
  pub start : i.start ≡ serial_at (first_serial run.start) dropped

-- A version that is published when the pace lets it continues the run.
abbrev pub StaysPaced : Type 0
StaysPaced =
    (run : Run) (pace : Option ℕ) (i : Instance) (set : VrpSet) (now : ℕ) → IsPaced run pace i → may_publish pace now ≡ true
    → IsPaced (record run { moments = run.moments ++ now ∷ [] }) (Some now) (with_version set i)

-- So it does if the versions are dropped.
abbrev pub DropsPaced : Type 0
DropsPaced = (run : Run) (pace : Option ℕ) (i : Instance) → IsPaced run pace i → IsPaced run pace (without_versions i)

-- The next version has a serial that is later than each of those that were dropped, of which there are fewer than 2^31.
abbrev pub DropsLater : Type 0
DropsLater = (i : Instance) (m n : ℕ) → m < length i.sets → length i.sets + n < 2 ^ 31 → is_before (serial_at i.start m) (serial_at (without_versions i).start n) ≡ true

-- By RFC 1982 each serial of a daemon is later than each of the daemon before, if it started no earlier than the last time of that one. Both lie
-- within 2^31 seconds.
abbrev pub RestartsLater : Type 0
RestartsLater =
    (first second : Run) (pace pace' : ℕ) (i j : Instance) → IsPaced first (Some pace) i → IsPaced second (Some pace') j → pace ≤ second.start → pace' < first.start + 2 ^ 31
    → (m n : ℕ) → m < length i.sets → n < length j.sets → is_before (serial_at i.start m) (serial_at j.start n) ≡ true
