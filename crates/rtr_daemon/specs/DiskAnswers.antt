-- What the files answered.
use Rattle.std.specs.Prelude.{◌⊎◌, ℕ, List, ⊤}
use Rattle.payload_commands.specs.declared.directories.Directory.{Directory}
use Rattle.rtr_daemon.specs.declared.environment.Stamp.{Stamp}

-- The calls of a disk, each from a state to the next one: a path had this stamp; a read of it answered these bytes; a directory had these
-- files. Or the call failed.
pub record DiskAnswers (W : Type 0) : Type 1 where
  pub stamps : W → List ℕ → Stamp → W → Type 0
  pub reads : W → List ℕ → List ℕ → W → Type 0
  pub directories : List ℕ → Directory → Type 0
  pub stamp_fails : W → List ℕ → W → Type 0
  pub read_fails : W → List ℕ → W → Type 0
  pub directory_fails : W → List ℕ → W → Type 0

-- Nothing is known of them.
abbrev pub any_answers : {W : Type 0} → DiskAnswers W
any_answers {W} = record {
  stamps = λ before path stamp after. ⊤;
  reads = λ before path bytes after. ⊤;
  directories = λ path directory. ⊤;
  stamp_fails = λ before path after. ⊤;
  read_fails = λ before path after. ⊤;
  directory_fails = λ before path after. ⊤;
}

-- The path had this stamp.
abbrev pub HadStamp : {W : Type 0} → DiskAnswers W → List ℕ → Stamp → Type 0
HadStamp {W} answers path stamp = (before : W) × (after : W) × answers.stamps before path stamp after

-- The file at the path could not be read, or had no stamp.
abbrev pub FileFails : {W : Type 0} → DiskAnswers W → List ℕ → Type 0
FileFails {W} answers path = (before : W) × (after : W) × (answers.stamp_fails before path after ⊎ answers.read_fails before path after)

-- The directory at the path could not be read.
abbrev pub DirectoryFails : {W : Type 0} → DiskAnswers W → List ℕ → Type 0
DirectoryFails {W} answers path = (before : W) × (after : W) × answers.directory_fails before path after

-- A read of the path answered these bytes, and it had this stamp right before and right after.
pub record ReadsWhole {W : Type 0} (answers : DiskAnswers W) (path : List ℕ) (stamp : Stamp) (bytes : List ℕ) : Type 0 where
  pub first : W
  pub second : W
  pub third : W
  pub fourth : W
  pub before : answers.stamps first path stamp second
  pub read : answers.reads second path bytes third
  pub after : answers.stamps third path stamp fourth
