-- What is noted of refused files of local exceptions.
use Rattle.std.specs.Prelude.{◌≡◌, ◌⊎◌, ℕ, ◌<◌, All, List, length, slice_get, slice_index_or, ⊤, Option, None, Some, Err}
use Rattle.slurm.specs.SlurmFile.{ReadsSlurm}
use Rattle.slurm.specs.declared.fault.SlurmFault.{SlurmFault}
use Rattle.rtr_daemon.specs.DiskAnswers.{DiskAnswers, ReadsWhole}
use Rattle.rtr_daemon.specs.Files.{IsOfBytes, path_of, texts_of}
use Rattle.rtr_daemon.specs.declared.environment.Stamp.{Stamp}
use Rattle.rtr_daemon.specs.declared.refusal.Refusal.{Refusal}
use Rattle.rtr_daemon.specs.declared.refusal.Refusal.TheVariants as reason
use Rattle.rtr_daemon.specs.declared.refusals.Refused.{Refused}
use Rattle.rtr_daemon.specs.declared.slurm_contents.Contents.{Contents}
use Rattle.rtr_daemon.specs.declared.slurm_contents.SlurmRefusal.{SlurmRefusal}
use Rattle.rtr_daemon.specs.declared.watched_file.WatchedFile.{WatchedFile}

-- A refusal is for a fault of a file of local exceptions.
abbrev pub IsForSlurm : SlurmFault → Refusal → Type 0
IsForSlurm fault (reason.Slurm file) = file.fault ≡ fault
IsForSlurm fault refusal = ⊥

-- These bytes have the fault for which a file of local exceptions is refused.
abbrev pub HasSlurmFault : List ℕ → Refusal → Type 0
HasSlurmFault bytes (reason.Slurm file) = ReadsSlurm bytes (Err file.fault)
HasSlurmFault bytes refusal = ⊥

-- These bytes were read whole of a path with this stamp, and have the fault that is noted of the refusal.
pub record IsSlurmRefusedFor {W : Type 0} (answers : DiskAnswers W) (path : List ℕ) (stamp : Stamp) (why : Refusal) : Type 0 where
  pub bytes : List ℕ
  pub whole : ReadsWhole answers path stamp bytes
  pub faulty : HasSlurmFault bytes why

-- If bytes with a stamp were refused for themselves, they have been read, and have that fault.
abbrev pub SlurmRefusalComes : {W : Type 0} → DiskAnswers W → List ℕ → Option Refused → Type 0
SlurmRefusalComes answers path None = ⊤
SlurmRefusalComes answers path (Some refused) = (stamp : Stamp) → refused.stamp ≡ Some stamp → IsOfBytes refused.why → IsSlurmRefusedFor answers path stamp refused.why

-- So it is of a file ..
abbrev pub IsFileRefusedSo : {W : Type 0} → DiskAnswers W → WatchedFile → Type 0
IsFileRefusedSo answers file = SlurmRefusalComes answers (path_of file) file.refusals.last

-- .. and of each file.
abbrev pub SlurmRefusalsCome : {W : Type 0} → DiskAnswers W → List WatchedFile → Type 0
SlurmRefusalsCome answers files = All (IsFileRefusedSo answers) files

-- The last refusal of a file is as before, or it is so.
abbrev pub NotesSo : (Option Refused → Type 0) → WatchedFile → WatchedFile → Type 0
NotesSo Q old new = (new.refusals.last ≡ old.refusals.last) ⊎ Q new.refusals.last

-- That is so of each file, by its place.
abbrev pub EachNotesSo : (ℕ → Option Refused → Type 0) → List WatchedFile → List WatchedFile → Type 0
EachNotesSo Q old new = (k : ℕ) (d : WatchedFile) → k < length old → NotesSo (Q k) (slice_index_or old k d) (slice_index_or new k d)

-- No refusal is noted, or one that is not of the file's own bytes: another file is refused, say.
abbrev pub IsNotOfBytes : Option Refused → Type 0
IsNotOfBytes None = ⊤
IsNotOfBytes (Some refused) = ¬ (IsOfBytes refused.why)

-- Of the file of its index the refusal is noted, and of no other file is one noted that is of its own bytes.
abbrev pub IsNotedAt : ℕ → Option Stamp → Refusal → ℕ → Option Refused → Type 0
IsNotedAt index stamp why k last = IsNotOfBytes last ⊎ ((k ≡ index) × (last ≡ Some (record { stamp = stamp; why = why })))

-- After a poll the last refusal of each file is as before, or comes from bytes that were read.
abbrev pub SlurmRefusalsFollow : {W : Type 0} → DiskAnswers W → List WatchedFile → List WatchedFile → Type 0
SlurmRefusalsFollow answers old new = (k : ℕ) (d : WatchedFile) → k < length old → NotesSo (SlurmRefusalComes answers (path_of (slice_index_or old k d))) (slice_index_or old k d) (slice_index_or new k d)

-- If what was read is refused for the bytes of one file, these are those at its index, and have the fault.
abbrev pub IsOfContents : Contents → SlurmRefusal → Type 0
IsOfContents contents refusal =
    IsOfBytes refusal.why → (bytes : List ℕ) × (slice_get (texts_of contents) refusal.index ≡ Some bytes) × HasSlurmFault bytes refusal.why × (refusal.stamp ≡ slice_get contents.stamps.items refusal.index)

-- If files are refused for the bytes of one, these were read of the path at its index, with the stamp of the refusal.
abbrev pub IsOfPaths : {W : Type 0} → DiskAnswers W → List (List ℕ) → SlurmRefusal → Type 0
IsOfPaths answers paths refusal =
    (stamp : Stamp) → refusal.stamp ≡ Some stamp → IsOfBytes refusal.why → (path : List ℕ) × (slice_get paths refusal.index ≡ Some path) × IsSlurmRefusedFor answers path stamp refusal.why
