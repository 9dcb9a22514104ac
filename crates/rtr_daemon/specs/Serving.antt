-- The set that a service serves, and the steps from one service to another.
use Rattle.std.specs.Prelude.{◌≡◌, ◌⊎◌, ◌<◌, ℕ, max, min, slice_get, false, true, List, [], ◌∷◌, ◌++◌, ⊤, length, Option, None, Some, Result, Ok, Err}
use Rattle.der_lite.specs.Moments.{CivilMoment}
use Rattle.der_lite.specs.Seconds.{seconds_of}
use Rattle.event_log.specs.Clock.{last_second}
use Rattle.vrps.specs.Instance.{Instance, NumberedSet, versions}
use Rattle.vrps.specs.Serial.{serial_at}
use Rattle.vrps.specs.Store.{is_current}
use Rattle.vrps.specs.Stores.{newest}
use Rattle.vrps.specs.VrpSet.{VrpSet}
use Rattle.vrps.specs.declared.set.SetFault.TheVariants.{TooMany, Memory}
use Rattle.vrps.specs.declared.store.Published.{Published}
use Rattle.vrps.specs.declared.store.Published.TheVariants.{New, Unchanged}
use Rattle.rtr_ends.specs.CacheState.{CacheCall, Open}
use Rattle.rtr_server.specs.Clients.{Begun, Past, ShowsServer, present}
use Rattle.points.specs.InUse.{no_points}
use Rattle.sources.specs.Shrinking.{ExportTakenWithin}
use Rattle.sources.specs.Served.{PassesLimit, SameSettings, ServesAt, SlurmsTaken, ends_between, expired_of}
use Rattle.sources.specs.declared.fault.SlurmSetFault.{SlurmSetFault}
use Rattle.sources.specs.declared.fault.TakeFault.{TakeFault}
use Rattle.sources.specs.declared.listed.Listed.{Listed}
use Rattle.session_names.specs.Runs.{may_publish}
use Rattle.session_names.specs.declared.names.SessionIds.{SessionIds}
use Rattle.sources.specs.declared.sources.Sources.{Sources}
use Rattle.rtr_daemon.specs.Families.{families_in}
use Rattle.rtr_daemon.specs.declared.cache_settings.CacheSettings.{CacheSettings}
use Rattle.rtr_daemon.specs.declared.refusal.Refusal.{Refusal}
use Rattle.rtr_daemon.specs.declared.refusal.Refusal.TheVariants as refused
use Rattle.rtr_daemon.specs.declared.versions.PublishReport.{PublishReport}
use Rattle.rtr_daemon.specs.declared.service.Service.{Service}

-- None of these calls opens a connection of this number.
abbrev pub OpensNone : ℕ → List CacheCall → Type 0
OpensNone c [] = ⊤
OpensNone c (Open d ∷ calls) = (¬ (d ≡ c)) × OpensNone c calls
OpensNone c (call ∷ calls) = OpensNone c calls

-- The second past continues the first. It has these calls more, and the same cache at the start. Each stream that was there began as before.
pub record IsLater (p q : Past) : Type 0 where
  pub more : List CacheCall
  pub calls : q.calls ≡ more ++ p.calls
  pub keep : q.keep ≡ p.keep
  pub timing : q.timing ≡ p.timing
  pub first : q.first ≡ p.first
  pub most : q.most ≡ p.most
  pub begun : (c : ℕ) → OpensNone c more → q.begun c ≡ p.begun c

-- how many versions before the current one are kept if this many are asked for: from 1 to 65,536
abbrev pub kept_versions : ℕ → ℕ
kept_versions asked = max 1 (min asked 65536)

-- The instance of a cache that has published nothing
abbrev pub empty_instance : ℕ → ℕ → ℕ → Instance
empty_instance session session0 start = record { session = session; session0 = session0; start = start; sets = [] }

-- The past of a new server over a cache without versions
abbrev pub new_past : CacheSettings → ℕ → ℕ → ℕ → (ℕ → Begun) → Past
new_past settings session session0 start begun = record {
  keep = kept_versions settings.keep;
  timing = settings.timing;
  first = empty_instance session session0 start;
  most = settings.clients;
  calls = [];
  begun = begun;
}

-- the past of a new service, of these sessions
abbrev pub past_of : CacheSettings → SessionIds → (ℕ → Begun) → Past
past_of settings ids begun = new_past settings ids.session ids.session0 ids.serial begun

-- The set of the sources at a time, in seconds since 1970
pub record IsServedAt (now : ℕ) (s : Sources) (set : VrpSet) : Type 0 where
  pub at : CivilMoment
  pub seconds : seconds_of at ≡ now
  pub served : ServesAt s at set

-- The newest version is the set of the sources at a time.
pub record IsNewestAt (now : ℕ) (i : Instance) (s : Sources) : Type 0 where
  pub version : NumberedSet
  pub is : newest (versions i) ≡ Some version
  pub served : IsServedAt now s version.set

-- A cache was made with these settings, and has this session in version 0 of the protocol.
pub record IsMadeWith (settings : CacheSettings) (session0 : ℕ) (p : Past) : Type 0 where
  pub keep : p.keep ≡ kept_versions settings.keep
  pub timing : p.timing ≡ settings.timing
  pub most : p.most ≡ settings.clients
  pub session0_is : p.first.session0 ≡ session0

-- This past led to the server of a service. If no version is pending, the newest version is the set of the sources at the second of the service.
-- The service knows how many VRPs of each address family that version has. If it says that it has no publication points, it has none.
pub record ShowsService {S T : Type 0} (holds : ℕ → Instance → S → Type 0) (remaining contents : T → Option (List ℕ)) (p : Past) (service : Service S T) : Type 0 where
  pub server : ShowsServer holds remaining contents p service.server
  pub families : service.families ≡ families_in (newest (versions (present p).cache))
  pub newest : service.is_pending ≡ false → IsNewestAt service.current_at (present p).cache service.sources
  pub points : service.has_points ≡ false → service.sources.repository ≡ no_points
  pub made_with : IsMadeWith service.settings service.session0 p

-- A version is pending, or the newest version is the set of the sources at a second that the clock answered.
abbrev pub IsFresh : {S T : Type 0} → (ℕ → Type 0) → Service S T → Type 0
IsFresh clock service = (service.is_pending ≡ true) ⊎ clock service.current_at

-- At both seconds the same number of payloads of each file has expired.
abbrev pub SameExpired : ℕ → ℕ → List Listed → Type 0
SameExpired before now lists = (i : ℕ) → i < length lists → expired_of before (slice_get lists i) ≡ expired_of now (slice_get lists i)

-- No record of a file ends between two seconds.
abbrev pub NoneEnds : ℕ → ℕ → List Listed → Type 0
NoneEnds from to lists = (i : ℕ) → i < length lists → ends_between from to (slice_get lists i) ≡ false

-- No version was published between two pasts.
abbrev pub KeepsVersions : Past → Past → Type 0
KeepsVersions p q = (present q).cache ≡ (present p).cache

-- A step that publishes nothing continues the past of its service, and keeps the relation above.
abbrev pub Continues : {S T : Type 0} → (ℕ → Instance → S → Type 0) → (T → Option (List ℕ)) → (T → Option (List ℕ)) → Service S T → Service S T → Type 0
Continues holds remaining contents old new =
    (p : Past) → ShowsService holds remaining contents p old → (q : Past) × IsLater p q × ShowsService holds remaining contents q new × KeepsVersions p q × (new.pace ≡ old.pace)

-- an instance with one version more
abbrev pub with_version : VrpSet → Instance → Instance
with_version set i = record i { sets = set ∷ i.sets }

-- One version was published: the set of the sources at a second that the clock answered. Its second of the pace is later than that of the version
-- before.
pub record AddsVersion {S T : Type 0} (clock : ℕ → Type 0) (old new : Service S T) (p q : Past) : Type 0 where
  pub now : ℕ
  pub answered : clock now
  pub set : VrpSet
  pub served : IsServedAt now new.sources set
  pub differs : is_current (present p).cache.sets set ≡ false
  pub adds : (present q).cache ≡ with_version set (present p).cache
  pub second : ℕ
  pub later : may_publish old.pace second ≡ true
  pub paced : new.pace ≡ Some second

-- The second of the pace after a publication: that of a new version, otherwise as before.
abbrev pub IsOfSecond : Published → ℕ → Option ℕ → Option ℕ → Type 0
IsOfSecond (New serial) second old new = new ≡ Some second
IsOfSecond Unchanged second old new = new ≡ old

-- The second of the pace after a publication was tried: as `IsOfSecond` says if it succeeded, otherwise as before.
abbrev pub PacesSo : Option (Result PublishReport Refusal) → ℕ → Option ℕ → Option ℕ → Type 0
PacesSo (Some (Ok report)) second old new = IsOfSecond report.published second old new
PacesSo tried second old new = new ≡ old

-- At most one version was published.
abbrev pub PublishesOnce : {S T : Type 0} → (ℕ → Type 0) → Service S T → Service S T → Past → Past → Type 0
PublishesOnce clock old new p q = (KeepsVersions p q × (new.pace ≡ old.pace)) ⊎ AddsVersion clock old new p q

-- Serving clients and what is due by the clock continue the past of a service. At most one version is published.
abbrev pub GoesOn : {S T : Type 0} → (ℕ → Type 0) → (ℕ → Instance → S → Type 0) → (T → Option (List ℕ)) → (T → Option (List ℕ)) → Service S T → Service S T → Type 0
GoesOn clock holds remaining contents old new =
    (p : Past) → ShowsService holds remaining contents p old → (q : Past) × IsLater p q × ShowsService holds remaining contents q new × PublishesOnce clock old new p q

-- the same instance without its versions: the next one has the serial after the last one
abbrev pub without_versions : Instance → Instance
without_versions i = record i { start = serial_at i.start (length i.sets); sets = [] }

-- The second past begins anew: all clients were closed, and all versions dropped. The sessions stay, and so does what the cache was made with.
pub record BeginsAnew (p q : Past) : Type 0 where
  pub calls : q.calls ≡ []
  pub first : q.first ≡ without_versions (present p).cache
  pub keep : q.keep ≡ p.keep
  pub timing : q.timing ≡ p.timing
  pub most : q.most ≡ p.most

-- A service drops its versions and its clients. Under the same session it answers No Data Available (RFC 8210 section 12, code 2) until the next
-- version, whose serial is later than all before it.
abbrev pub Drops : {S T : Type 0} → (ℕ → Instance → S → Type 0) → (T → Option (List ℕ)) → (T → Option (List ℕ)) → Service S T → Service S T → Type 0
Drops holds remaining contents old new =
    (p : Past) → ShowsService holds remaining contents p old → (q : Past) × BeginsAnew p q × ShowsService holds remaining contents q new × (new.pace ≡ old.pace)

-- Then the service has no version.
abbrev pub EndsEmpty : {S T : Type 0} → (ℕ → Instance → S → Type 0) → (T → Option (List ℕ)) → (T → Option (List ℕ)) → Service S T → Service S T → Type 0
EndsEmpty holds remaining contents old new =
    (p : Past) → ShowsService holds remaining contents p old → (q : Past) × ShowsService holds remaining contents q new × ((present q).cache.sets ≡ [])

-- A turn of the daemon: its service continues, or drops its versions. Then at most one version is published.
abbrev pub Advances : {S T : Type 0} → (ℕ → Type 0) → (ℕ → Instance → S → Type 0) → (T → Option (List ℕ)) → (T → Option (List ℕ)) → Service S T → Service S T → Type 0
Advances {S} {T} clock holds remaining contents old new =
    (left : Service S T) × (Continues holds remaining contents old left ⊎ Drops holds remaining contents old left) × GoesOn clock holds remaining contents left new

-- A source that is loaded makes a version pending. A refusal changes nothing of that.
abbrev pub TakesSo : {S T A E : Type 0} → Result A E → Service S T → Service S T → Type 0
TakesSo (Ok x) old new = (new.server ≡ old.server) × (new.is_pending ≡ true)
TakesSo (Err e) old new = (new.server ≡ old.server) × (new.is_pending ≡ old.is_pending)

-- Nothing but the server has changed.
abbrev pub OnlyServer : {S T : Type 0} → Service S T → Service S T → Type 0
OnlyServer old new = new ≡ record old { server = new.server }

-- The server and the pace are unchanged.
abbrev pub OnlySources : {S T : Type 0} → Service S T → Service S T → Type 0
OnlySources old new = new ≡ record old { sources = new.sources; is_pending = new.is_pending; current_at = new.current_at; has_points = new.has_points }

-- Why no version can be published: the sources have too many records at this second, it is not within the years 1970 to 9999, or memory ran out.
abbrev pub IsReason : ℕ → Sources → Refusal → Type 0
IsReason now s (refused.Set TooMany) = (at : CivilMoment) × (seconds_of at ≡ now) × PassesLimit s.repository s.lists.items s.exceptions at
IsReason now s (refused.Set Memory) = ⊤
IsReason now s refused.Clock = last_second < now
IsReason now s refusal = ⊥

-- The second of the newest version is unchanged, and so is whether a version is pending; or it is this second.
abbrev pub StaysFresh : {S T : Type 0} → ℕ → Service S T → Service S T → Type 0
StaysFresh now old new = ((new.current_at ≡ old.current_at) × (new.is_pending ≡ old.is_pending)) ⊎ (new.current_at ≡ now)

-- A set is published: as a new version of the next serial, or it is that of the newest version already.
abbrev pub Adds : Published → VrpSet → Instance → Instance → Type 0
Adds (New serial) set old new = (is_current old.sets set ≡ false) × (serial.0 ≡ serial_at old.start (length old.sets)) × (new ≡ with_version set old)
Adds Unchanged set old new = (is_current old.sets set ≡ true) × (new ≡ old)

-- What is published is the set of the sources at a time, in seconds since 1970.
pub record PublishesAt (now : ℕ) (s : Sources) (published : Published) (p q : Past) : Type 0 where
  pub set : VrpSet
  pub served : IsServedAt now s set
  pub adds : Adds published set (present p).cache (present q).cache

-- The set of the sources at a time is published. The server continues, and its newest version is that set. Its VRPs are counted.
abbrev pub Issues : {S T : Type 0} → (ℕ → Instance → S → Type 0) → (T → Option (List ℕ)) → (T → Option (List ℕ)) → ℕ → Published → Service S T → Service S T → Type 0
Issues holds remaining contents now published old new =
    (p : Past) → ShowsServer holds remaining contents p old.server
    → (q : Past) × IsLater p q × ShowsServer holds remaining contents q new.server × IsNewestAt now (present q).cache new.sources × PublishesAt now new.sources published p q
    × (new.families ≡ families_in (newest (versions (present q).cache)))

-- The pace begins with a second that the clock answered.
abbrev pub BeginsPace : {S T : Type 0} → (ℕ → Type 0) → Service S T → Type 0
BeginsPace clock service = (start : ℕ) × clock start × (service.pace ≡ Some start)

-- If this past led to a server, a later past leads to the service over it. No version was published, and the first one waits for a later second.
abbrev pub LeadsToService : {S T : Type 0} → (ℕ → Type 0) → (ℕ → Instance → S → Type 0) → (T → Option (List ℕ)) → (T → Option (List ℕ)) → Past → Service S T → Type 0
LeadsToService clock holds remaining contents p service = (q : Past) × IsLater p q × ShowsService holds remaining contents q service × KeepsVersions p q × BeginsPace clock service

-- The sources are unchanged.
pub record SameSources (old new : Sources) : Type 0 where
  pub lists : new.lists.items ≡ old.lists.items
  pub exceptions : new.exceptions ≡ old.exceptions
  pub repository : new.repository ≡ old.repository
  pub settings : SameSettings old new

-- An export was loaded at a time, without a guard. Or it was refused, and nothing changed.
abbrev pub LoadsExport : ℕ → List ℕ → ℕ → Result ℕ Refusal → Sources → Sources → Type 0
LoadsExport file bytes now (Ok expired) old new = ExportTakenWithin None bytes now file (Ok expired) old new
LoadsExport file bytes now (Err refusal) old new = (fault : TakeFault) × ExportTakenWithin None bytes now file (Err fault) old new

-- The files of local exceptions were loaded together. If they were refused, nothing changed.
abbrev pub LoadsSlurms : {E : Type 0} → List (List ℕ) → Result (Unit {0}) E → Sources → Sources → Type 0
LoadsSlurms files (Ok u) old new = SlurmsTaken files (Ok tt) old new
LoadsSlurms files (Err refusal) old new = (fault : SlurmSetFault) × SlurmsTaken files (Err fault) old new
