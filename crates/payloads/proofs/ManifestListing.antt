-- Files that come one after the other.
use Rattle.std.proofs.Common.{◌≡◌, ◌≢◌, ◌<◌, List, [], ◌∷◌, ◌++◌, length, Ok, sym, subst}
use Rattle.der_lite.specs.Place.{Place}
use Rattle.der_lite.specs.Decoding.{read_member}
use Rattle.der_lite.specs.Fields.{last_at, valued_at}
use Rattle.der_lite.proofs.FieldLaws.{sequence_shorter}
use Rattle.der_lite.proofs.Loops.{Goes, goes_on}
use Rattle.payloads.specs.Roa.{no_rules}
use Rattle.payloads.specs.Manifest.{ListedFile, too_many_files}
use Rattle.payloads.specs.ManifestReading.{name_at, hash_at, file_of, file_at}

-- behind a file less remains
pub file_shorter : (before : List ListedFile) (p : Place) (file : ListedFile) (q : Place) → file_at before p ≡ Ok (file, q) → length q.rest < length p.rest
unfolding file_at
file_shorter before p file q h = sequence_shorter (too_many_files before) (valued_at file_of (read_member (name_at before) (λ name. last_at hash_at))) no_rules p file q h

-- one file more was read
pub files_on : (start : Place) (before now : List ListedFile) (here next : Place) (file : ListedFile) → Goes file_at start before here → here.rest ≢ [] → file_at before here ≡ Ok (file, next) → now ≡ before ++ file ∷ []
    → Goes file_at start now next
files_on start before now here next file goes more read grown =
    subst (λ (l : List ListedFile). Goes file_at start l next) (sym grown) (goes_on file_at start before here goes file next more read (file_shorter before here file next read))
