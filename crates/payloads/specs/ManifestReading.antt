-- Reading the payload of a manifest over what the reads of a cursor give.
use Rattle.std.specs.Prelude.{ℕ, ◌==◌, List, drop, Result}
use Rattle.der_lite.specs.Place.{Fault, place_of}
use Rattle.der_lite.specs.Der.{tag_of}
use Rattle.der_lite.specs.Moments.{CivilMoment}
use Rattle.der_lite.specs.DerReading.{integer_at, bits_at, oid_at, ia5_at, time_at}
use Rattle.der_lite.specs.Times.{timed_at}
use Rattle.der_lite.specs.Decoding.{Read, ReadAll, read_member, read_each}
use Rattle.der_lite.specs.Fields.{field_at, sequence_at, last_at, valued_at}
use Rattle.payloads.specs.Roa.{no_rules}
use Rattle.payloads.specs.RoaReading.{with_version}
use Rattle.payloads.specs.Manifest.{number_range, next_rules, algorithm_rules, ListedFile, listed_rules, hash_length, too_many_files, ManifestValue, Fields}

unfoldable pub manifest_number_at : Read (List ℕ)
manifest_number_at p = field_at (with_version (tag_of p.rest == 160) (integer_at p)) p.at number_range (λ content. content)

unfoldable pub next_at : CivilMoment → Read CivilMoment
next_at this = timed_at (next_rules this)

unfoldable pub algorithm_at : Read (Unit {0})
algorithm_at p = field_at (oid_at p) p.at algorithm_rules (λ content. tt)

unfoldable pub name_at : List ListedFile → Read (List ℕ)
name_at before p = field_at (ia5_at p) p.at (listed_rules before) (λ content. content)

unfoldable pub hash_at : Read (List ℕ)
hash_at p = field_at (bits_at p) p.at hash_length (λ content. drop 1 content)

-- a file of its parts
abbrev pub file_of : List ℕ × List ℕ → ListedFile
file_of parts = record { name = parts.0; hash = parts.1 }

unfoldable pub file_at : List ListedFile → Read ListedFile
file_at before = sequence_at (too_many_files before) (valued_at file_of (read_member (name_at before) (λ name. last_at hash_at))) no_rules

unfoldable pub files_at : Read (List ListedFile)
files_at = sequence_at no_rules (read_each file_at) no_rules

-- a manifest of its fields
abbrev pub manifest_of : Fields → ManifestValue
manifest_of f = record { number = f.0; this_update = f.1.0; next_update = f.1.1.0; files = f.1.1.1.1 }

abbrev pub behind_next_at : ReadAll (Unit {0} × List ListedFile)
behind_next_at = read_member algorithm_at (λ _. last_at files_at)

abbrev pub behind_this_at : CivilMoment → ReadAll (CivilMoment × (Unit {0} × List ListedFile))
behind_this_at this = read_member (next_at this) (λ next. behind_next_at)

unfoldable pub manifest_at : Read ManifestValue
manifest_at = sequence_at no_rules (valued_at manifest_of (read_member manifest_number_at (λ n. read_member time_at behind_this_at))) no_rules

-- the manifest that the bytes spell, or the first fault
unfoldable pub manifest_all : List ℕ → Result ManifestValue Fault
manifest_all bytes = last_at manifest_at (place_of 0 bytes)
