-- What a status shows of a daemon.
use Rattle.std.specs.Prelude.{◌≡◌, ◌+◌, ◌-◌, ◌&&◌, ℕ, zero, suc, min, Bool, false, List, [], ◌∷◌, ◌++◌, ⊤, Option, None, Some, is_some, option_map, slice_get}
use Rattle.std.specs.List.{filter}
use Rattle.std.specs.String.{string_bytes}
use Rattle.rtr_server.specs.Clients.{Past, present}
use Rattle.sources.specs.Served.{ignored_exceptions, records_of}
use Rattle.status_pages.specs.declared.status.FileStatus.{FileStatus}
use Rattle.status_pages.specs.declared.status.PublicationFailure.{PublicationFailure}
use Rattle.status_pages.specs.declared.status.Status.{Status}
use Rattle.vrps.specs.Instance.{versions}
use Rattle.vrps.specs.Stores.{newest}
use Rattle.rtr_daemon.specs.Ages.{data_time}
use Rattle.rtr_daemon.specs.Calls.{near_limit}
use Rattle.rtr_daemon.specs.Families.{families_in}
use Rattle.rtr_daemon.specs.Files.{path_of}
use Rattle.rtr_daemon.specs.NotServed.{entries_at, exceptions_of}
use Rattle.rtr_daemon.specs.Peaks.{greatest, is_within_a_day}
use Rattle.rtr_daemon.specs.declared.daemon.Daemon.{Daemon}
use Rattle.rtr_daemon.specs.declared.point_polling.WatchedPoint.{WatchedPoint}
use Rattle.rtr_daemon.specs.declared.refusals.Refusals.{Refusals}
use Rattle.rtr_daemon.specs.declared.statistics.Failure.{Failure}
use Rattle.rtr_daemon.specs.declared.watched_file.WatchedExport.{WatchedExport}
use Rattle.rtr_daemon.specs.declared.watched_file.WatchedFile.{WatchedFile}

-- The status of the set that is served, after this past: the sessions, and the serial and the counts of the newest version
pub record IsSetStatus (p : Past) (shown : Status) : Type 0 where
  pub session : shown.session ≡ (present p).cache.session
  pub session0 : shown.session0 ≡ (present p).cache.session0
  pub serial : shown.serial ≡ option_map (λ v. v.serial) (newest (versions (present p).cache))
  pub ipv4 : shown.ipv4 ≡ (families_in (newest (versions (present p).cache))).ipv4
  pub ipv6 : shown.ipv6 ≡ (families_in (newest (versions (present p).cache))).ipv6

-- A refusal was reported since the last load.
abbrev pub is_reported : Refusals → Bool
is_reported r = is_some r.reported_at && is_some r.last

-- The status of a file: its path, its last load, since when it is refused, its last slow call, and its size if that is near the limit
pub record IsFileStatus (limit : ℕ) (file : WatchedFile) (shown : FileStatus) : Type 0 where
  pub path : string_bytes shown.path ≡ path_of file
  pub taken : shown.taken ≡ file.loaded_at
  pub refusal : is_some shown.refusal ≡ is_reported file.refusals
  pub refused_at : shown.refused_at ≡ file.refusals.reported_at
  pub slow : shown.slow ≡ file.slow
  pub near : shown.near_limit ≡ near_limit limit file.loaded

-- how many entries of an export have expired, in 64 bits
abbrev pub all_expired : WatchedExport → ℕ
all_expired export = min (export.expired + export.expired_since) 18446744073709551615

-- That of an export has more: when its data were made, whether they are old, how many entries have expired, how many VRPs are left, and what is
-- not served.
pub record IsExportStatus {S T : Type 0} (now : ℕ) (d : Daemon S T) (export : WatchedExport) (shown : FileStatus) : Type 0 where
  pub file : IsFileStatus d.plan.max_size export.file shown
  pub built : shown.built ≡ data_time now d.service.sources export
  pub is_old : shown.is_old ≡ export.is_old
  pub expired : shown.expired ≡ all_expired export
  pub vrps : shown.vrps ≡ option_map (λ _. records_of (slice_get d.service.sources.lists.items export.number) - export.expired_since) export.file.loaded_at
  pub ignored : shown.ignored ≡ option_map (λ _. entries_at d.service.sources export.number) export.file.loaded_at

-- That of the file of local exceptions of an index has no age and no VRPs, and what is not applied.
pub record IsSlurmStatus {S T : Type 0} (d : Daemon S T) (index : ℕ) (slurm : WatchedFile) (shown : FileStatus) : Type 0 where
  pub file : IsFileStatus d.plan.max_size slurm shown
  pub is_old : (shown.built ≡ None) × (shown.is_old ≡ false)
  pub expired : (shown.expired ≡ 0) × (shown.vrps ≡ None)
  pub ignored : shown.ignored ≡ option_map (λ _. exceptions_of (ignored_exceptions d.service.sources.exceptions index)) slurm.loaded_at

-- no VRPs, if objects have expired
abbrev pub none_if_expired : ℕ → Option ℕ
none_if_expired zero = None
none_if_expired (suc n) = Some 0

-- The status of a publication point
pub record IsPointStatus (point : WatchedPoint) (shown : FileStatus) : Type 0 where
  pub path : string_bytes shown.path ≡ string_bytes point.path
  pub taken : shown.taken ≡ point.loaded_at
  pub refusal : is_some shown.refusal ≡ is_reported point.refusals
  pub refused_at : shown.refused_at ≡ point.refusals.reported_at
  pub is_old : (shown.built ≡ None) × (shown.is_old ≡ false)
  pub expired : shown.expired ≡ point.expired
  pub vrps : shown.vrps ≡ none_if_expired point.expired
  pub slow : shown.slow ≡ point.slow

-- Each of these has its status, in this order, from an index on.
abbrev pub AreStatuses : {A : Type 0} → (ℕ → A → FileStatus → Type 0) → ℕ → List A → List FileStatus → Type 0
AreStatuses is_status i [] [] = ⊤
AreStatuses is_status i (x ∷ xs) (shown ∷ others) = is_status i x shown × AreStatuses is_status (suc i) xs others
AreStatuses is_status i xs others = ⊥

-- So they are, after the statuses before.
abbrev pub AddsStatuses : {A : Type 0} → (ℕ → A → FileStatus → Type 0) → List A → List FileStatus → List FileStatus → Type 0
AddsStatuses is_status xs old new = (more : List FileStatus) × (new ≡ old ++ more) × AreStatuses is_status 0 xs more

abbrev pub AddsExports : {S T : Type 0} → ℕ → Daemon S T → List FileStatus → List FileStatus → Type 0
AddsExports now d old new = AddsStatuses (λ i export shown. IsExportStatus now d export shown) d.exports.items old new

abbrev pub AddsSlurms : {S T : Type 0} → Daemon S T → List FileStatus → List FileStatus → Type 0
AddsSlurms d old new = AddsStatuses (IsSlurmStatus d) d.slurms.items old new

abbrev pub AddsPoints : {S T : Type 0} → Daemon S T → List FileStatus → List FileStatus → Type 0
AddsPoints d old new = AddsStatuses (λ i point shown. IsPointStatus point shown) d.points.items old new

-- The statuses are of each export, then of each file of local exceptions, then of each publication point.
abbrev pub AreFileStatuses : {S T : Type 0} → ℕ → Daemon S T → List FileStatus → Type 0
AreFileStatuses now d shown = (first : List FileStatus) × (more : List FileStatus) × AddsExports now d [] first × AddsSlurms d first more × AddsPoints d more shown

-- Whether the last publication failed, and since when publications fail
abbrev pub IsFailureStatus : Option Failure → Option PublicationFailure → Type 0
IsFailureStatus None shown = shown ≡ None
IsFailureStatus (Some failure) None = ⊥
IsFailureStatus (Some failure) (Some shown) = shown.since ≡ failure.since

-- The status of a daemon: its times, its counters, its limits and its sources
pub record IsDaemonStatus {S T : Type 0} (now : ℕ) (d : Daemon S T) (shown : Status) : Type 0 where
  pub times : (shown.now ≡ now) × (shown.started ≡ d.started) × (shown.clock_behind ≡ d.clock_behind)
  pub records : (shown.given ≡ d.statistics.given) × (shown.left_out ≡ d.statistics.left_out)
  pub peak : shown.peak ≡ greatest (filter (is_within_a_day now) d.statistics.peaks.ended.items)
  pub files : AreFileStatuses now d shown.files.items
  pub limits : (shown.max_age ≡ d.plan.max_age) × (shown.client_limit ≡ d.service.settings.clients)
  pub clients : (shown.clients_ever ≡ d.statistics.clients) × (shown.clients_refused ≡ d.statistics.clients_refused) × (shown.clients_stalled ≡ d.statistics.clients_stalled)
  pub turned_away : shown.turned_away ≡ d.statistics.turned_away
  pub reports : shown.error_reports ≡ d.statistics.error_reports
  pub loads : (shown.reloads_taken ≡ d.statistics.loaded) × (shown.reloads_refused ≡ d.statistics.refused) × (shown.reload_milliseconds ≡ d.statistics.load_millis)
  pub failures : shown.publications_failed ≡ d.statistics.failures
  pub failure : IsFailureStatus d.statistics.failure shown.publication_failure
