-- Files that are supplied to a publication point.
use Rattle.std.specs.Prelude.{ℕ, Bool, ◌==◌, bytes_eq, find, List, [], ◌∷◌, Option}
use Rattle.std.specs.List.{list_any, ends_with}
use Rattle.sha2.specs.Sha256.{sha256}
use Rattle.payloads.specs.Manifest.{ListedFile}
use Rattle.points.specs.declared.file.FileIn.{FileIn}

-- the name ends in .roa
abbrev pub is_roa_name : List ℕ → Bool
is_roa_name name = ends_with ◌==◌ name (46 ∷ 114 ∷ 111 ∷ 97 ∷ [])

-- the file has this name
abbrev pub has_name : List ℕ → FileIn → Bool
has_name name file = bytes_eq file.name.now name

-- one of the files has this name
abbrev pub is_named : List ℕ → List FileIn → Bool
is_named name files = list_any (has_name name) files

-- the first file of this name
abbrev pub file_named : List ℕ → List FileIn → Option FileIn
file_named name files = find (has_name name) files

-- the file's published object has the hash that is listed (RFC 9286 section 6.5)
abbrev pub has_hash : ListedFile → FileIn → Bool
has_hash listed file = bytes_eq (sha256 file.object.now) listed.hash
