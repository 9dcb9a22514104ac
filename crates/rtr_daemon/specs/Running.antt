-- The run of the daemon's program: what it waits for, what it may open, and how it ends (rpkirtrd(8)).
use Rattle.std.specs.Prelude.{◌≡◌, ◌⊎◌, ◌<◌, ◌≤◌, ℕ, zero, suc, ◌-◌, min, max, List, codes, Option, Result, Ok, Err}
use Rattle.std.specs.IoError.{error_kind}
use Rattle.std.specs.declared.io.Error.{Error}
use Rattle.std.specs.declared.io.ErrorKind.{ErrorKind}
use Rattle.std.specs.declared.io.ErrorKind.TheVariants as kinds
use Rattle.rtr_server.specs.declared.stream.Call.{Call}
use Rattle.vrps.specs.Instance.{Instance}
use Rattle.vrps.specs.declared.set.SetFault.TheVariants.{Memory}
use Rattle.rtr_daemon.specs.DiskAnswers.{DiskAnswers}
use Rattle.rtr_daemon.specs.Due.{Turns}
use Rattle.rtr_daemon.specs.Serving.{Advances}
use Rattle.rtr_daemon.specs.SocketCalls.{SocketCalls, WaitFails}
use Rattle.rtr_daemon.specs.declared.daemon.Daemon.{Daemon}
use Rattle.rtr_daemon.specs.declared.daemon.StopReason.{StopReason}
use Rattle.rtr_daemon.specs.declared.daemon.StopReason.TheVariants.{Once, Old, Checked}
use Rattle.rtr_daemon.specs.declared.refusal.Refusal.{Refusal}
use Rattle.rtr_daemon.specs.declared.refusal.Refusal.TheVariants as refused
use Rattle.exports.specs.declared.fault.ExportFault.TheVariants as unread
use Rattle.points.specs.declared.fault.PointFault.{PointFault}
use Rattle.points.specs.declared.fault.PointFault.TheVariants as unaccepted
use Rattle.slurm.specs.declared.fault.SlurmFault.{SlurmFault}
use Rattle.slurm.specs.declared.fault.SlurmFault.TheVariants as unapplied
use Rattle.slurm.specs.declared.unite_fault.UniteFault.{UniteFault}
use Rattle.slurm.specs.declared.unite_fault.UniteFault.TheVariants as ununited
use Rattle.sources.specs.declared.fault.TakeFault.{TakeFault}
use Rattle.sources.specs.declared.fault.TakeCcrFault.TheVariants as unlisted
use Rattle.sources.specs.declared.fault.TakeFault.TheVariants as untaken
use Rattle.rtr_daemon.specs.declared.service.Service.{Service}

-- The first second of the year 2020. A clock before it was not set yet.
abbrev pub year_2020 : ℕ
year_2020 = 1577836800

-- The clock answered a second of the year 2020 or later.
abbrev pub IsClockSet : (ℕ → Type 0) → Type 0
IsClockSet clock = (second : ℕ) × clock second × (year_2020 ≤ second)

-- It answered an earlier one.
abbrev pub IsClockUnset : (ℕ → Type 0) → Type 0
IsClockUnset clock = (second : ℕ) × clock second × (second < year_2020)

-- How many clients there may be: as many as asked for, but no more than the descriptors allow. The program keeps 16 of them, and one for each HTTP
-- connection. One client may always be there.
abbrev pub clients_within : ℕ → ℕ → ℕ → ℕ
clients_within asked descriptors http = min asked (max 1 (descriptors - 16 - http))

-- this many turns of a daemon, one after the other, as its service goes through them
abbrev pub GoesThrough : {S T : Type 0} → (ℕ → Type 0) → (ℕ → Instance → S → Type 0) → (T → Option (List ℕ)) → (T → Option (List ℕ)) → ℕ → Service S T → Service S T → Type 0
GoesThrough clock holds remaining contents zero old new = new ≡ old
GoesThrough {S} {T} clock holds remaining contents (suc n) old new =
    (now : Service S T) × GoesThrough clock holds remaining contents n old now × Advances clock holds remaining contents now new

-- A run of this many turns ends by no reason of the daemon: a wait failed, or no turn more can be counted in 64 bits.
abbrev pub EndsForced : {W : Type 0} → SocketCalls W → ℕ → Type 0
EndsForced calls turns = WaitFails calls ⊎ (turns ≡ 18446744073709551615)

-- This many turns, one after the other. After each of them the rest of the program has seen the daemon as it was then.
abbrev pub AreSeen : {D A : Type 0} → (D → D → Type 0) → (A → D → A → Type 0) → ℕ → D → A → D → A → Type 0
AreSeen turns sees zero old first new last = (new ≡ old) × (last ≡ first)
AreSeen {D} {A} turns sees (suc n) old first new last = (before : D) × (seen : A) × AreSeen turns sees n old first before seen × turns before new × sees seen new last

-- A run ends after these turns: with one turn more, after which there is a reason to stop, or it was forced to end.
abbrev pub EndsRun : {D W : Type 0} → (D → D → Type 0) → SocketCalls W → Result StopReason Error → ℕ → D → D → Type 0
EndsRun turns calls (Ok reason) n before new = turns before new
EndsRun turns calls (Err error) n before new = (new ≡ before) × EndsForced calls n

-- A run is its turns, one after the other, each of which the rest of the program has seen but the last.
abbrev pub IsRun : {S T W A : Type 0} → DiskAnswers W → SocketCalls W → (W → ℕ → W → Type 0) → (ℕ → Type 0) → (ℕ → Type 0) → (ℕ → Instance → S → Type 0) → (T → Option (List ℕ)) → (T → Option (List ℕ)) → (T → Option (List Call)) → (A → Daemon S T → A → Type 0) → Result StopReason Error → Daemon S T → A → Daemon S T → A → Type 0
IsRun {S} {T} answers calls reads clock ticks holds remaining contents stream sees result old first new last =
    (n : ℕ) × (before : Daemon S T) × AreSeen (Turns answers calls reads clock ticks holds remaining contents stream) sees n old first before last
    × EndsRun (Turns answers calls reads clock ticks holds remaining contents stream) calls result n before new

-- The exit status: 0 if the run ended well, and 1 if a file is too old. If the system failed it is 3, or 4 without memory.
abbrev pub failure_status : ErrorKind → ℕ
failure_status kinds.OutOfMemory = 4
failure_status kind = 3

abbrev pub exit_status : Result StopReason Error → ℕ
exit_status (Ok Once) = 0
exit_status (Ok Checked) = 0
exit_status (Ok Old) = 1
exit_status (Err error) = failure_status (error_kind error)

-- The exit status of a start that a refusal ends: 4 if memory ran out, 3 if a file cannot be read or changes while it is read, and 1 otherwise
abbrev pub export_status : TakeFault → ℕ
export_status (untaken.Export unread.Memory) = 4
export_status (untaken.Ccr unlisted.Memory) = 4
export_status fault = 1

abbrev pub slurm_status : SlurmFault → ℕ
slurm_status unapplied.Memory = 4
slurm_status fault = 1

abbrev pub union_status : UniteFault → ℕ
union_status ununited.Memory = 4
union_status fault = 1

abbrev pub point_status : PointFault → ℕ
point_status unaccepted.Memory = 4
point_status fault = 1

abbrev pub refusal_status : Refusal → ℕ
refusal_status (refused.Device error) = failure_status (error_kind error)
refusal_status refused.Changing = 3
refusal_status (refused.Export file) = export_status file.fault
refusal_status (refused.Slurm file) = slurm_status file.fault
refusal_status (refused.SlurmUnion file) = union_status file.fault
refusal_status (refused.Point fault) = point_status fault
refusal_status (refused.Set Memory) = 4
refusal_status refusal = 1

-- and what the log says of the end of a run
abbrev pub exit_words : Result StopReason Error → List ℕ
exit_words (Ok Once) = codes "the client has gone"
exit_words (Ok Checked) = codes "the configuration is valid, and with --check-config nothing is served"
exit_words (Ok Old) = codes "an export is older than --max-age"
exit_words (Err error) = codes "poll failed"

-- Without a machine id the session is random. If it cannot be had, memory ran out, or the random source failed.
abbrev pub refusal_of : ErrorKind → Error → Refusal
refusal_of kinds.OutOfMemory error = refused.Set Memory
refusal_of kind error = refused.Device error

abbrev pub random_refusal : Error → Refusal
random_refusal error = refusal_of (error_kind error) error
