-- Which values are no manifest: the first fault and the index of the file.
use Rattle.std.specs.Prelude.{◌≡◌, ℕ, ◌||◌, Bool, not, nat_lt, nat_le, ◌≤◌, List, [], ◌∷◌, ◌++◌, length, Option, Some, None, Result, Ok, Err}
use Rattle.der_lite.specs.Place.{first_of}
use Rattle.der_lite.specs.Der.{is_integer}
use Rattle.der_lite.specs.Moments.{moment_before}
use Rattle.der_lite.specs.Values.{is_negative}
use Rattle.payloads.specs.declared.fault.ManifestFault.{ManifestFault}
use Rattle.payloads.specs.declared.fault.ManifestFault.TheVariants.{Value, Memory}
use Rattle.payloads.specs.Faults.{kind_number}
use Rattle.payloads.specs.Manifest.{ListedFile, listed_rules, ManifestValue}
use Rattle.payloads.specs.RoaRefusal.{at_index}

-- NumberRange (also if the number is none in the fewest bytes), TimesOrder
abbrev pub value_rules : ManifestValue → List (ℕ × Bool)
value_rules m =
    (13, not (is_integer m.number) || is_negative m.number || nat_lt 20 (length m.number)) ∷ (14, not (moment_before m.this_update m.next_update)) ∷ []

-- of a file behind those before it: TooMany, Name, NameTwice, in this order
abbrev pub file_rules : List ListedFile → ListedFile → List (ℕ × Bool)
file_rules before file = (19, nat_le 65536 (length before)) ∷ listed_rules before file.name

-- the first fault of files behind others, file by file
abbrev pub files_refusal : List ListedFile → List ListedFile → Option (ℕ × ℕ)
files_refusal before [] = None
files_refusal before (file ∷ files) = at_index (length before) (first_of (file_rules before file)) (files_refusal (before ++ file ∷ []) files)

-- the first fault of the number and the times, or that of the files
unfoldable pub manifest_refusal : ManifestValue → Option (ℕ × ℕ)
manifest_refusal m = at_index 0 (first_of (value_rules m)) (files_refusal [] m.files)

-- a manifest: nothing is wrong with it
pub record IsManifest (m : ManifestValue) : Type 0 where
  pub right : manifest_refusal m ≡ None

-- The manifest of this value, with which nothing is wrong; or its first fault; or memory ran out.
abbrev pub MakesManifest : Result ManifestValue ManifestFault → ManifestValue → Type 0
MakesManifest (Ok manifest) m = (manifest ≡ m) × (manifest_refusal m ≡ None)
MakesManifest (Err (Value fault)) m = manifest_refusal m ≡ Some (kind_number fault.kind, fault.index)
MakesManifest (Err Memory) m = Unit {0}

-- the hash has 32 bytes
abbrev pub HasHash : ListedFile → Type 0
HasHash file = length file.hash ≡ 32

-- the name has at most 255 bytes
abbrev pub HasShortName : ListedFile → Type 0
HasShortName file = length file.name ≤ 255
