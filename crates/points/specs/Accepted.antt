-- What a publication point holds.
use Rattle.std.specs.Prelude.{◌≡◌, ℕ, filter, List, Option, Some, None, ⊤}
use Rattle.std.specs.List.{AllZip, Contains}
use Rattle.payloads.specs.Manifest.{ListedFile, ManifestValue, ManifestSpells}
use Rattle.payloads.specs.RoaValues.{RoaValue, RoaSpells}
use Rattle.points.specs.declared.file.FileIn.{FileIn}
use Rattle.points.specs.Files.{is_roa_name}

-- what a point accepted last: the bytes of the manifest, what they spell, and its ROAs
pub record Accepted : Type 0 where
  pub bytes : List ℕ
  pub manifest : ManifestValue
  pub roas : List RoaValue

-- The bytes that a point holds spell the manifest that it holds. A point that has accepted nothing holds none.
abbrev pub IsPoint : Option Accepted → Type 0
IsPoint None = ⊤
IsPoint (Some last) = ManifestSpells last.manifest last.bytes

-- the ROA that a file of the listed name spells
pub record IsRoaOf (files : List FileIn) (listed : ListedFile) (roa : RoaValue) : Type 0 where
  pub file : FileIn
  pub among : Contains files file
  pub named : file.name.now ≡ listed.name
  pub spelled : RoaSpells roa file.content.now

-- those of the listed files that are ROAs, in their order
abbrev pub listed_roas : List ListedFile → List ListedFile
listed_roas listed = filter (λ file. is_roa_name file.name) listed

-- A point that holds this manifest, and of these files the ROAs that it lists, in their order.
pub record Holds (bytes : List ℕ) (files : List FileIn) (last : Accepted) : Type 0 where
  pub bytes_are : last.bytes ≡ bytes
  pub spelled : ManifestSpells last.manifest bytes
  pub roas_are : AllZip (IsRoaOf files) (listed_roas last.manifest.files) last.roas
