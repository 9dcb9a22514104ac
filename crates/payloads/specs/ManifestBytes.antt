-- The bytes of a manifest, from its value.
use Rattle.std.specs.Prelude.{ℕ, List, [], ◌∷◌, ◌++◌}
use Rattle.der_lite.specs.Der.{BIT_STRING, GENERALIZED_TIME, IA5_STRING, INTEGER, OBJECT_IDENTIFIER, SEQUENCE, tlv}
use Rattle.der_lite.specs.Moments.{moment_text}
use Rattle.payloads.specs.Manifest.{sha_256, ListedFile, ManifestValue}

-- of a file: its name and its hash, of which no bit is unused
unfoldable pub file_bytes : ListedFile → List ℕ
file_bytes file = tlv SEQUENCE (tlv IA5_STRING file.name ++ tlv BIT_STRING (0 ∷ file.hash))

-- of files, one behind the other
abbrev pub files_bytes : List ListedFile → List ℕ
files_bytes [] = []
files_bytes (file ∷ files) = file_bytes file ++ files_bytes files

-- of the fields in front of the list
unfoldable pub front_bytes : ManifestValue → List ℕ
front_bytes m = tlv INTEGER m.number ++ tlv GENERALIZED_TIME (moment_text m.this_update) ++ tlv GENERALIZED_TIME (moment_text m.next_update) ++ tlv OBJECT_IDENTIFIER sha_256

-- of the whole
unfoldable pub manifest_bytes : ManifestValue → List ℕ
manifest_bytes m = tlv SEQUENCE (front_bytes m ++ tlv SEQUENCE (files_bytes m.files))
