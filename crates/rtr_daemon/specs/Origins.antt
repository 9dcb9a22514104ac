-- The origin of what the sources have.
use Rattle.std.specs.Prelude.{◌≡◌, ℕ, List, Contains, map, slice_get, ⊤, Option, None, Some}
use Rattle.std.specs.List.{AllByRecursion}
use Rattle.points.specs.Accepted.{Accepted as AcceptedPoint, Holds}
use Rattle.points.specs.InUse.{Points, accepted_at}
use Rattle.points.specs.declared.file.FileIn.{FileIn}
use Rattle.payload_commands.specs.Directories.{Supplies}
use Rattle.payload_commands.specs.declared.directories.Directory.{Directory}
use Rattle.sources.specs.Served.{AreUnited, IsLoaded, IsUnread}
use Rattle.sources.specs.declared.fault.TakeFault.{TakeFault}
use Rattle.sources.specs.declared.listed.Listed.{Listed}
use Rattle.sources.specs.declared.slurms.AppliedSlurms.{AppliedSlurms}
use Rattle.rtr_daemon.specs.DiskAnswers.{DiskAnswers, ReadsWhole}
use Rattle.rtr_daemon.specs.Files.{AreContents, IsForFault, IsOfBytes, loads_of, path_of, paths_of}
use Rattle.rtr_daemon.specs.PointOffers.{points_of}
use Rattle.rtr_daemon.specs.SlurmRefusals.{SlurmRefusalsCome}
use Rattle.rtr_daemon.specs.declared.daemon.Daemon.{Daemon}
use Rattle.rtr_daemon.specs.declared.environment.Stamp.{Stamp}
use Rattle.rtr_daemon.specs.declared.refusal.Refusal.{Refusal}
use Rattle.rtr_daemon.specs.declared.refusals.Refused.{Refused}
use Rattle.rtr_daemon.specs.declared.watched_file.WatchedExport.{WatchedExport}

-- What is kept of an export is what the bytes say that were read whole of its path with this stamp, at a second that the clock answered, by a maximum age.
pub record ExportComesFrom {W : Type 0} (answers : DiskAnswers W) (clock : ℕ → Type 0) (max_age : Option ℕ) (path : List ℕ) (stamp : Stamp) (l : Listed) : Type 0 where
  pub bytes : List ℕ
  pub whole : ReadsWhole answers path stamp bytes
  pub now : ℕ
  pub answered : clock now
  pub expired : ℕ
  pub taken : IsLoaded max_age bytes now expired l

-- The path of an export, its number, and the stamp of its last load
abbrev pub Place : Type 0
Place = List ℕ × ℕ × Option Stamp

abbrev pub places_of : List WatchedExport → List Place
places_of exports = map (λ export. (path_of export.file, export.number, export.file.loaded)) exports

-- What is kept under a number comes from the path of the export of that number, and was loaded with the stamp that is noted of it.
abbrev pub ComesAt : {W : Type 0} → DiskAnswers W → (ℕ → Type 0) → Option ℕ → List Place → List Listed → ℕ → Type 0
ComesAt answers clock max_age places lists i =
    (l : Listed) → slice_get lists i ≡ Some l → (path : List ℕ) × (stamp : Stamp) × Contains places (path, i, Some stamp) × ExportComesFrom answers clock max_age path stamp l

-- So it is under each number.
abbrev pub ExportsComeFrom : {W : Type 0} → DiskAnswers W → (ℕ → Type 0) → Option ℕ → List Place → List Listed → Type 0
ExportsComeFrom answers clock max_age places lists = (i : ℕ) → ComesAt answers clock max_age places lists i

-- These bytes were read whole of a path with this stamp, and have the fault that is noted of the refusal, at a second that the clock answered.
pub record IsRefusedFor {W : Type 0} (answers : DiskAnswers W) (clock : ℕ → Type 0) (max_age : Option ℕ) (path : List ℕ) (stamp : Stamp) (why : Refusal) : Type 0 where
  pub bytes : List ℕ
  pub whole : ReadsWhole answers path stamp bytes
  pub now : ℕ
  pub answered : clock now
  pub fault : TakeFault
  pub faulty : IsUnread max_age bytes now fault
  pub noted : IsForFault fault why

-- If bytes with a stamp were refused for themselves, they have been read, and have that fault.
abbrev pub RefusalComes : {W : Type 0} → DiskAnswers W → (ℕ → Type 0) → Option ℕ → List ℕ → Option Refused → Type 0
RefusalComes answers clock max_age path None = ⊤
RefusalComes answers clock max_age path (Some refused) = (stamp : Stamp) → refused.stamp ≡ Some stamp → IsOfBytes refused.why → IsRefusedFor answers clock max_age path stamp refused.why

-- So it is of each export.
abbrev pub RefusalsCome : {W : Type 0} → DiskAnswers W → (ℕ → Type 0) → Option ℕ → List WatchedExport → Type 0
RefusalsCome answers clock max_age exports = AllByRecursion (λ export. RefusalComes answers clock max_age (path_of export.file) export.file.refusals.last) exports

-- The local exceptions are what the files unite to that were read whole of these paths, with the stamps that are noted of their last loads.
pub record ExceptionsComeFrom {W : Type 0} (answers : DiskAnswers W) (paths : List (List ℕ)) (loads : List (Option Stamp)) (exceptions : Option AppliedSlurms) : Type 0 where
  pub stamps : List Stamp
  pub contents : List (List ℕ)
  pub read : AreContents answers paths stamps contents
  pub noted : loads ≡ map Some stamps
  pub united : AreUnited contents exceptions

-- What a publication point holds was offered by the directory of its name at one of these paths.
pub record PointComesFrom {W : Type 0} (answers : DiskAnswers W) (paths : List (List ℕ)) (name : List ℕ) (last : AcceptedPoint) : Type 0 where
  pub path : List ℕ
  pub among : Contains paths path
  pub directory : Directory
  pub answered : answers.directories path directory
  pub named : directory.name.now ≡ name
  pub files : List FileIn
  pub supplied : Supplies directory files
  pub holds : Holds directory.manifest.items files last

abbrev pub PointsComeFrom : {W : Type 0} → DiskAnswers W → List (List ℕ) → Points → Type 0
PointsComeFrom answers paths points = (name : List ℕ) (last : AcceptedPoint) → accepted_at points name ≡ Some last → PointComesFrom answers paths name last

-- All that the sources have comes from the paths that are watched, and so does what is refused of the exports and of the local exceptions. The maximum age
-- is that of the plan.
pub record SourcesComeFrom {S T W : Type 0} (answers : DiskAnswers W) (clock : ℕ → Type 0) (daemon : Daemon S T) : Type 0 where
  pub aged : daemon.service.sources.max_age ≡ daemon.plan.max_age
  pub exports : ExportsComeFrom answers clock daemon.plan.max_age (places_of daemon.exports.items) daemon.service.sources.lists.items
  pub refusals : RefusalsCome answers clock daemon.plan.max_age daemon.exports.items
  pub exceptions : ExceptionsComeFrom answers (paths_of daemon.slurms.items) (loads_of daemon.slurms.items) daemon.service.sources.exceptions
  pub slurm_refusals : SlurmRefusalsCome answers daemon.slurms.items
  pub points : PointsComeFrom answers (points_of daemon.points.items) daemon.service.sources.repository
