-- What a poll of the files loads.
use Rattle.std.specs.Prelude.{◌≡◌, ◌⊎◌, ◌≤◌, ℕ, All, Bool, Contains, false, List, [], ◌∷◌, ◌++◌, map, slice_get, ⊤, Option, None, Some, Result, Ok, Err}
use Rattle.std.specs.String.{string_bytes}
use Rattle.sources.specs.Served.{SlurmsTaken}
use Rattle.sources.specs.Shrinking.{ExportTakenWithin}
use Rattle.sources.specs.declared.fault.SlurmSetFault.{SlurmSetFault}
use Rattle.exports.specs.declared.fault.ExportFault.TheVariants as unread
use Rattle.slurm.specs.declared.fault.SlurmFault.TheVariants as unapplied
use Rattle.sources.specs.declared.fault.TakeFault.{TakeFault}
use Rattle.sources.specs.declared.fault.TakeCcrFault.TheVariants as unlisted
use Rattle.sources.specs.declared.fault.TakeFault.TheVariants as untaken
use Rattle.sources.specs.declared.sources.Sources.{Sources}
use Rattle.rtr_daemon.specs.DiskAnswers.{DiskAnswers, FileFails, HadStamp, ReadsWhole}
use Rattle.rtr_daemon.specs.Shrinking.{percent_at, since_after}
use Rattle.rtr_daemon.specs.declared.environment.Stamp.{Stamp}
use Rattle.rtr_daemon.specs.declared.refusal.Refusal.{Refusal}
use Rattle.rtr_daemon.specs.declared.refusal.Refusal.TheVariants as reason
use Rattle.rtr_daemon.specs.declared.refusals.Refused.{Refused}
use Rattle.rtr_daemon.specs.declared.shrink_guard.ShrinkGuard.{ShrinkGuard}
use Rattle.rtr_daemon.specs.declared.slurm_contents.Contents.{Contents}
use Rattle.rtr_daemon.specs.declared.watched_file.FileState.{FileState}
use Rattle.rtr_daemon.specs.declared.watched_file.FileState.TheVariants as state
use Rattle.rtr_daemon.specs.declared.watched_file.Look.{Look}
use Rattle.rtr_daemon.specs.declared.watched_file.Look.TheVariants.{Unchanged, Unstable, RefusedBefore, Read, Failed}
use Rattle.rtr_daemon.specs.declared.watched_file.WatchedExport.{WatchedExport}
use Rattle.rtr_daemon.specs.declared.watched_file.WatchedFile.{WatchedFile}

-- The path of a file, in bytes
abbrev pub path_of : WatchedFile → List ℕ
path_of file = string_bytes file.path

-- An export is refused for its own bytes, at each second: memory did not run out, and the records that count now are neither too many nor too few.
abbrev pub IsOfExport : TakeFault → Type 0
IsOfExport (untaken.Export fault) = (¬ (fault ≡ unread.Memory)) × (¬ (fault ≡ unread.TooMany))
IsOfExport (untaken.Ccr fault) = ¬ (fault ≡ unlisted.Memory)
IsOfExport untaken.NoSuchFile = ⊥
IsOfExport (untaken.Shrank percent had has) = ⊥

-- A refusal of the file's own bytes: it depends neither on other files nor on memory, nor on expiry, so the same bytes are refused again.
abbrev pub IsOfBytes : Refusal → Type 0
IsOfBytes (reason.Export file) = IsOfExport file.fault
IsOfBytes (reason.Slurm file) = ¬ (file.fault ≡ unapplied.Memory)
IsOfBytes refusal = ⊥

-- The last refusal was of bytes with this stamp.
abbrev pub RefusesBytes : Option Refused → Stamp → Type 0
RefusesBytes None stamp = ⊥
RefusesBytes (Some refused) stamp = (refused.stamp ≡ Some stamp) × IsOfBytes refused.why

-- The stamp is that with which the file was loaded last.
abbrev pub WasLoaded : WatchedFile → Stamp → Type 0
WasLoaded file stamp = file.loaded ≡ Some stamp

-- The stamp is that with which the file was refused last, for its own bytes.
abbrev pub WasRefused : WatchedFile → Stamp → Type 0
WasRefused file stamp = RefusesBytes file.refusals.last stamp

-- The path had two stamps while it was read.
abbrev pub ChangesWhileRead : {W : Type 0} → DiskAnswers W → List ℕ → Type 0
ChangesWhileRead answers path = (before : Stamp) × (after : Stamp) × HadStamp answers path before × HadStamp answers path after × (¬ (after ≡ before))

-- The state of a file, by its stamp
abbrev pub IsStateOf : WatchedFile → Stamp → FileState → Type 0
IsStateOf file stamp state.Unchanged = WasLoaded file stamp
IsStateOf file stamp state.RefusedBefore = WasRefused file stamp
IsStateOf file stamp state.New = ⊤

-- The state of a file now, by its stamp. A file that cannot be read counts as new.
abbrev pub IsStateNow : {W : Type 0} → DiskAnswers W → WatchedFile → FileState → Type 0
IsStateNow answers file state.New = ⊤
IsStateNow answers file state = (stamp : Stamp) × HadStamp answers (path_of file) stamp × IsStateOf file stamp state

-- What a read of a path answers right after it had a stamp.
abbrev pub ReadsAfter : {W : Type 0} → DiskAnswers W → W → Stamp → List ℕ → Look → Type 0
ReadsAfter {W} answers at before path (Read stamp bytes) = (stamp ≡ before) × (after : W) × (last : W) × answers.reads at path bytes.items after × answers.stamps after path before last
ReadsAfter answers at before path Unstable = (after : Stamp) × HadStamp answers path after × (¬ (after ≡ before))
ReadsAfter answers at before path (Failed error) = FileFails answers path
ReadsAfter answers at before path look = ⊥

-- What a look at a file answers. With `anew` it is read even if its stamp is that of the last load.
abbrev pub Looks : {W : Type 0} → DiskAnswers W → WatchedFile → Bool → Look → Type 0
Looks answers file anew Unchanged = (stamp : Stamp) × HadStamp answers (path_of file) stamp × WasLoaded file stamp × (anew ≡ false)
Looks answers file anew RefusedBefore = (stamp : Stamp) × HadStamp answers (path_of file) stamp × WasRefused file stamp
Looks answers file anew Unstable = ChangesWhileRead answers (path_of file)
Looks answers file anew (Failed error) = FileFails answers (path_of file)
Looks answers file anew (Read stamp bytes) = ReadsWhole answers (path_of file) stamp bytes.items

-- The file has the stamp with which it was loaded last, or refused last for its own bytes.
abbrev pub IsKnown : {W : Type 0} → DiskAnswers W → WatchedFile → Type 0
IsKnown answers file = (stamp : Stamp) × HadStamp answers (path_of file) stamp × (WasLoaded file stamp ⊎ WasRefused file stamp)

-- The file has the stamp with which it was loaded last.
abbrev pub IsUnchanged : {W : Type 0} → DiskAnswers W → WatchedFile → Type 0
IsUnchanged answers file = (stamp : Stamp) × HadStamp answers (path_of file) stamp × WasLoaded file stamp

-- Why a file cannot be loaded: its own bytes were refused before, it changes while it is read, or it cannot be read.
abbrev pub CannotLoad : {W : Type 0} → DiskAnswers W → WatchedFile → Type 0
CannotLoad answers file = ((stamp : Stamp) × HadStamp answers (path_of file) stamp × WasRefused file stamp) ⊎ ChangesWhileRead answers (path_of file) ⊎ FileFails answers (path_of file)

-- What is noted of an export. It is since when its contents are refused as too short, the stamp of its last load, the last refusal, and the second of
-- the last load.
abbrev pub Mark : Type 0
Mark = Option ℕ × Option Stamp × Option Refused × Option ℕ

abbrev pub mark_of : WatchedExport → Mark
mark_of export = (export.short_since, export.file.loaded, export.file.refusals.last, export.file.loaded_at)

abbrev pub marks_of : List WatchedExport → List Mark
marks_of exports = map mark_of exports

-- the stamp of the contents that were loaded last, after contents of a stamp were loaded or refused
abbrev pub loaded_after : Result ℕ TakeFault → Stamp → Option Stamp → Option Stamp
loaded_after (Ok expired) stamp before = Some stamp
loaded_after (Err fault) stamp before = before

-- the second of the last load, after contents were loaded at a second or refused
abbrev pub loaded_at_after : Result ℕ TakeFault → ℕ → Option ℕ → Option ℕ
loaded_at_after (Ok expired) now before = Some now
loaded_at_after (Err fault) now before = before

-- A refusal is for a fault of an export.
abbrev pub IsForFault : TakeFault → Refusal → Type 0
IsForFault fault (reason.Export file) = file.fault ≡ fault
IsForFault fault refusal = ⊥

-- After contents of a stamp were loaded no refusal is noted. After they were refused, their stamp and their fault are noted.
abbrev pub RefusedAfter : Result ℕ TakeFault → Stamp → Option Refused → Type 0
RefusedAfter (Ok expired) stamp noted = noted ≡ None
RefusedAfter (Err fault) stamp noted = (refused : Refused) × (noted ≡ Some refused) × (refused.stamp ≡ Some stamp) × IsForFault fault refused.why

-- What is noted of an export then, at a second, and at a time of the monotonic clock
pub record IsMarkAfter (result : Result ℕ TakeFault) (stamp : Stamp) (export : WatchedExport) (now millis : ℕ) (mark : Mark) : Type 0 where
  pub short : mark.0 ≡ since_after result export.short_since millis
  pub loaded : mark.1 ≡ loaded_after result stamp export.file.loaded
  pub refused : RefusedAfter result stamp mark.2
  pub at : mark.3 ≡ loaded_at_after result now export.file.loaded_at

-- The last refusal is as before, or of no contents.
abbrev pub KeepsRefusal : Option Refused → Option Refused → Type 0
KeepsRefusal old new = (new ≡ old) ⊎ ((refused : Refused) × (new ≡ Some refused) × (refused.stamp ≡ None))

-- A file was not loaded after this second: the clock was not set back since.
abbrev pub IsNotAhead : Option ℕ → ℕ → Type 0
IsNotAhead None now = ⊤
IsNotAhead (Some at) now = at ≤ now

-- An export is again as it was loaded: it is no longer too short, nor refused. If it was loaded while the clock was ahead, it is read again instead.
abbrev pub IsAsLoaded : {W : Type 0} → DiskAnswers W → WatchedExport → ℕ → Mark → Type 0
IsAsLoaded answers export now mark = IsUnchanged answers export.file × (mark ≡ (None, export.file.loaded, None, export.file.loaded_at)) × IsNotAhead export.file.loaded_at now

-- It cannot be loaded.
abbrev pub IsNotLoaded : {W : Type 0} → DiskAnswers W → WatchedExport → Mark → Type 0
IsNotLoaded answers export mark =
    CannotLoad answers export.file × (mark.0 ≡ export.short_since) × (mark.1 ≡ export.file.loaded) × KeepsRefusal export.file.refusals.last mark.2 × (mark.3 ≡ export.file.loaded_at)

-- Nothing is loaded of an export.
abbrev pub HasNoNews : {W : Type 0} → DiskAnswers W → WatchedExport → ℕ → Mark → Type 0
HasNoNews answers export now mark = IsAsLoaded answers export now mark ⊎ IsNotLoaded answers export mark

-- Bytes that were read whole of the path of an export with this stamp are loaded as this export, or refused. No more than this percentage of its
-- records may be gone.
abbrev pub Loads : {W : Type 0} → DiskAnswers W → Option ℕ → WatchedExport → ℕ → Stamp → Result ℕ TakeFault → Sources → Sources → Type 0
Loads answers percent export now stamp result old new = (bytes : List ℕ) × ReadsWhole answers (path_of export.file) stamp bytes × ExportTakenWithin percent bytes now export.number result old new

-- A poll of an export at a second, and at a time of the monotonic clock: what is new of it is loaded or refused, otherwise the sources are unchanged.
-- What is noted of it then is that.
abbrev pub Follows : {W : Type 0} → DiskAnswers W → Option ℕ → WatchedExport → ℕ → ℕ → Mark → Sources → Sources → Type 0
Follows answers percent export now millis mark old new =
    ((result : Result ℕ TakeFault) × (stamp : Stamp) × Loads answers percent export now stamp result old new × IsMarkAfter result stamp export now millis mark) ⊎ (HasNoNews answers export now mark × (new ≡ old))

-- A poll of an export with a guard, at times that the clocks answered
abbrev pub FollowsOne : {W : Type 0} → DiskAnswers W → (ℕ → Type 0) → (ℕ → Type 0) → Option ShrinkGuard → WatchedExport → Mark → Sources → Sources → Type 0
FollowsOne answers clock ticks guard export mark old new = (now : ℕ) × (millis : ℕ) × clock now × ticks millis × Follows answers (percent_at guard export.short_since millis) export now millis mark old new

-- A poll of each export in its turn
abbrev pub FollowsEach : {W : Type 0} → DiskAnswers W → (ℕ → Type 0) → (ℕ → Type 0) → Option ShrinkGuard → List WatchedExport → List Mark → Sources → Sources → Type 0
FollowsEach answers clock ticks guard [] [] old new = new ≡ old
FollowsEach answers clock ticks guard (export ∷ exports) (mark ∷ marks) old new =
    (between : Sources) × FollowsOne answers clock ticks guard export mark old between × FollowsEach answers clock ticks guard exports marks between new
FollowsEach answers clock ticks guard exports marks old new = ⊥

-- An export was loaded without a guard. Its stamp and the second of the load are noted, and no refusal.
abbrev pub LoadsOne : {W : Type 0} → DiskAnswers W → WatchedExport → ℕ → ℕ → Mark → Sources → Sources → Type 0
LoadsOne answers export now expired mark old new = (stamp : Stamp) × Loads answers None export now stamp (Ok expired) old new × (mark.1 ≡ Some stamp) × (mark.2 ≡ None) × (mark.3 ≡ Some now)

-- Each export was loaded, at the second of the start. There is no guard then.
abbrev pub LoadsEach : {W : Type 0} → DiskAnswers W → ℕ → List WatchedExport → List Mark → Sources → Sources → Type 0
LoadsEach answers now [] [] old new = new ≡ old
LoadsEach answers now (export ∷ exports) (mark ∷ marks) old new = (expired : ℕ) × (between : Sources) × LoadsOne answers export now expired mark old between × LoadsEach answers now exports marks between new
LoadsEach answers now exports marks old new = ⊥

-- The path and the number of each export
abbrev pub names_of : List WatchedExport → List (List ℕ × ℕ)
names_of exports = map (λ export. (path_of export.file, export.number)) exports

-- The path of each file
abbrev pub paths_of : List WatchedFile → List (List ℕ)
paths_of files = map path_of files

-- The stamp of the contents of each file that were loaded last
abbrev pub loads_of : List WatchedFile → List (Option Stamp)
loads_of files = map (λ file. file.loaded) files

-- The path of a file and the stamp of its last load are unchanged.
abbrev pub SameLoad : WatchedFile → WatchedFile → Type 0
SameLoad old new = (new.path ≡ old.path) × (new.loaded ≡ old.loaded)

-- So it is of each file.
abbrev pub SameLoads : List WatchedFile → List WatchedFile → Type 0
SameLoads old new = (paths_of new ≡ paths_of old) × (loads_of new ≡ loads_of old)

-- For each path, in their order, bytes that were read whole of it with the stamp at its place
abbrev pub AreContents : {W : Type 0} → DiskAnswers W → List (List ℕ) → List Stamp → List (List ℕ) → Type 0
AreContents answers [] [] [] = ⊤
AreContents answers (path ∷ paths) (stamp ∷ stamps) (bytes ∷ others) = ReadsWhole answers path stamp bytes × AreContents answers paths stamps others
AreContents answers paths stamps contents = ⊥

-- the bytes of what was read of several files
abbrev pub texts_of : Contents → List (List ℕ)
texts_of contents = map (λ bytes. bytes.items) contents.bytes.items

-- Each of these files was read whole.
abbrev pub HasContents : {W : Type 0} → DiskAnswers W → List WatchedFile → Contents → Type 0
HasContents answers files contents = AreContents answers (paths_of files) contents.stamps.items (texts_of contents)

-- One file more was read whole.
abbrev pub AddsContent : {W : Type 0} → DiskAnswers W → List ℕ → Contents → Contents → Type 0
AddsContent answers path old new =
    (stamp : Stamp) × (read : List ℕ) × ReadsWhole answers path stamp read × (new.stamps.items ≡ old.stamps.items ++ stamp ∷ []) × (texts_of new ≡ texts_of old ++ read ∷ [])

-- the stamp of a load, or that of the load before if there was none
abbrev pub stamp_or : Option Stamp → Option Stamp → Option Stamp
stamp_or None before = before
stamp_or (Some stamp) before = Some stamp

-- the stamps of the contents that were loaded last, after contents of these stamps were loaded or refused
abbrev pub loads_after : Result (Unit {0}) SlurmSetFault → List Stamp → List (Option Stamp) → List (Option Stamp)
loads_after (Ok done) stamps before = map Some stamps
loads_after (Err fault) stamps before = before

-- Bytes that were read whole of the path of each file of local exceptions are loaded together, or refused. These stamps of their last loads are noted
-- then.
pub record LoadsTogether {W : Type 0} (answers : DiskAnswers W) (files : List WatchedFile) (loads : List (Option Stamp)) (result : Result (Unit {0}) SlurmSetFault) (old new : Sources) : Type 0 where
  pub stamps : List Stamp
  pub contents : List (List ℕ)
  pub read : AreContents answers (paths_of files) stamps contents
  pub taken : SlurmsTaken contents result old new
  pub noted : loads ≡ loads_after result stamps (loads_of files)

-- The files of local exceptions were loaded, and these stamps are noted.
abbrev pub ReadsSlurms : {W : Type 0} → DiskAnswers W → List WatchedFile → List (Option Stamp) → Sources → Sources → Type 0
ReadsSlurms answers files loads old new = LoadsTogether answers files loads (Ok tt) old new

-- Why a path was not read: it changes while it is read, it cannot be read, or memory ran out for bytes that were read whole.
abbrev pub IsUnread : {W : Type 0} → DiskAnswers W → List ℕ → Type 0
IsUnread answers path = ChangesWhileRead answers path ⊎ FileFails answers path ⊎ ((stamp : Stamp) × (bytes : List ℕ) × ReadsWhole answers path stamp bytes)

-- One of these paths was not read.
abbrev pub IsOneUnread : {W : Type 0} → DiskAnswers W → List (List ℕ) → Type 0
IsOneUnread answers paths = (path : List ℕ) × Contains paths path × IsUnread answers path

-- Why nothing is loaded of the files of local exceptions: each is known, or one was not read.
abbrev pub HaveNoNews : {W : Type 0} → DiskAnswers W → List WatchedFile → Type 0
HaveNoNews answers files = All (IsKnown answers) files ⊎ IsOneUnread answers (paths_of files)

-- A poll of the files of local exceptions: if one is new, all are loaded together or refused, otherwise the sources are unchanged. The stamps of
-- their last loads are these then.
abbrev pub FollowsSlurms : {W : Type 0} → DiskAnswers W → List WatchedFile → List (Option Stamp) → Sources → Sources → Type 0
FollowsSlurms answers files loads old new =
    ((result : Result (Unit {0}) SlurmSetFault) × LoadsTogether answers files loads result old new) ⊎ (HaveNoNews answers files × (loads ≡ loads_of files) × (new ≡ old))

-- The number of each export is its place.
abbrev pub AreNumbered : List WatchedExport → Type 0
AreNumbered exports = (i : ℕ) (export : WatchedExport) → slice_get exports i ≡ Some export → export.number ≡ i
