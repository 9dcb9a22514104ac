-- Which offers to a publication point are acceptable, and how each is judged (RFC 9286 sections 4.2.1 and 6).
use Rattle.std.specs.Prelude.{◌≡◌, ◌≢◌, ◌⊎◌, ℕ, suc, ◌<◌, Bool, true, false, not, nat_le, bytes_eq, if◌then◌else◌, List, [], ◌∷◌, ◌++◌, ◌+◌, length, Option, Some, None, IsTrue, ⊤}
use Rattle.std.specs.List.{All, AllPairs, Contains}
use Rattle.sha2.specs.Sha256.{sha256}
use Rattle.der_lite.specs.Place.{Fault}
use Rattle.der_lite.specs.Der.{number}
use Rattle.der_lite.specs.Moments.{CivilMoment, moment_before}
use Rattle.payloads.specs.Manifest.{ListedFile, ManifestValue, ManifestSpells, ManifestFaultAt}
use Rattle.payloads.specs.RoaValues.{RoaValue, RoaSpells, RoaFaultAt}
use Rattle.points.specs.declared.file.FileIn.{FileIn}
use Rattle.points.specs.Files.{is_roa_name, is_named, file_named, has_hash}
use Rattle.points.specs.Accepted.{Accepted}

-- ---- what is acceptable

-- RFC 9286 section 4.2.1: the number and thisUpdate are above the accepted ones
abbrev pub IsAbove : Option Accepted → ManifestValue → Type 0
IsAbove None m = ⊤
IsAbove (Some last) m =
    (number last.manifest.number < number m.number) × IsTrue (moment_before last.manifest.this_update m.this_update)

-- no two files share a name
abbrev pub ShareNoName : List FileIn → Type 0
ShareNoName files = AllPairs (λ file other. file.name.now ≢ other.name.now) files

-- RFC 9286 sections 6.4 and 6.5: the listed name has a file with the hash that is listed, and the content of a ROA is spelled
pub record Serves (files : List FileIn) (listed : ListedFile) : Type 0 where
  pub file : FileIn
  pub among : Contains files file
  pub named : file.name.now ≡ listed.name
  pub hashed : sha256 file.object.now ≡ listed.hash
  pub spelled : IsTrue (is_roa_name listed.name) → (roa : RoaValue) × RoaSpells roa file.content.now

-- The manifest is spelled and current (RFC 9286 section 6.3), above the accepted one, and each file that it lists is there.
pub record Acceptable (before : Option Accepted) (bytes : List ℕ) (files : List FileIn) (now : CivilMoment) : Type 0 where
  pub manifest : ManifestValue
  pub spelled : ManifestSpells manifest bytes
  pub begun : moment_before now manifest.this_update ≡ false
  pub current : moment_before manifest.next_update now ≡ false
  pub above : IsAbove before manifest
  pub apart : ShareNoName files
  pub served : All (Serves files) manifest.files

-- ---- how an offer is judged

-- New, Same, or what is wrong; of a file its index; of a manifest or a ROA its first fault
pub data OfferJudgement : Type 0 where
  New : OfferJudgement
  Same : OfferJudgement
  BadManifest : (fault : Fault) → OfferJudgement
  NotYet : OfferJudgement
  Stale : OfferJudgement
  OldNumber : OfferJudgement
  OldTime : OfferJudgement
  FileTwice : (i : ℕ) → OfferJudgement
  Missing : (i : ℕ) → OfferJudgement
  HashDiffers : (i : ℕ) → OfferJudgement
  BadRoa : (i : ℕ) → (fault : Fault) → OfferJudgement

-- tests are judged in order: the first that holds decides
abbrev pub first_that_holds : List (OfferJudgement × Bool) → Option OfferJudgement
first_that_holds [] = None
first_that_holds ((judgement, holds) ∷ later) = if holds then Some judgement else first_that_holds later

-- the bytes are those that were accepted last
abbrev pub is_same_manifest : Option Accepted → List ℕ → Bool
is_same_manifest None bytes = false
is_same_manifest (Some last) bytes = bytes_eq last.bytes bytes

-- the number is not higher than the accepted one
abbrev pub is_old_number : Option Accepted → ManifestValue → Bool
is_old_number None m = false
is_old_number (Some last) m = nat_le (number m.number) (number last.manifest.number)

-- thisUpdate is not later than the accepted one
abbrev pub is_old_time : Option Accepted → ManifestValue → Bool
is_old_time None m = false
is_old_time (Some last) m = not (moment_before last.manifest.this_update m.this_update)

-- of the manifest and of what was accepted last
abbrev pub manifest_tests : Option Accepted → ManifestValue → List ℕ → CivilMoment → List (OfferJudgement × Bool)
manifest_tests before m bytes now =
    (NotYet, moment_before now m.this_update)
    ∷ (Stale, moment_before m.next_update now)
    ∷ (Same, is_same_manifest before bytes)
    ∷ (OldNumber, is_old_number before m)
    ∷ (OldTime, is_old_time before m)
    ∷ []

-- file i has the name of an earlier one, from i on
abbrev pub twice_tests : ℕ → List FileIn → List FileIn → List (OfferJudgement × Bool)
twice_tests i earlier [] = []
twice_tests i earlier (file ∷ files) = (FileTwice i, is_named file.name.now earlier) ∷ twice_tests (suc i) (earlier ++ file ∷ []) files

-- all that is judged before the files that are listed
unfoldable pub tests : Option Accepted → ManifestValue → List ℕ → List FileIn → CivilMoment → List (OfferJudgement × Bool)
tests before m bytes files now = manifest_tests before m bytes now ++ twice_tests 0 [] files

-- Nothing is wrong with a listed file: the file of its name has the hash, and the content of a ROA is spelled.
pub record IsRight (files : List FileIn) (listed : ListedFile) : Type 0 where
  pub file : FileIn
  pub named : file_named listed.name files ≡ Some file
  pub hashed : has_hash listed file ≡ true
  pub spelled : is_roa_name listed.name ≡ true → (roa : RoaValue) × RoaSpells roa file.content.now

-- The file of its name has another hash.
pub record HasOtherHash (files : List FileIn) (listed : ListedFile) : Type 0 where
  pub file : FileIn
  pub named : file_named listed.name files ≡ Some file
  pub differs : has_hash listed file ≡ false

-- The file of its name has the hash, and its content, that of a ROA, has this first fault.
pub record HasBadRoa (files : List FileIn) (listed : ListedFile) (fault : Fault) : Type 0 where
  pub file : FileIn
  pub named : file_named listed.name files ≡ Some file
  pub hashed : has_hash listed file ≡ true
  pub is_roa : is_roa_name listed.name ≡ true
  pub first : RoaFaultAt file.content.now fault.offset fault.number

-- This is wrong with listed file i.
abbrev pub IsWrong : List FileIn → ℕ → ListedFile → OfferJudgement → Type 0
IsWrong files i listed (Missing n) = (n ≡ i) × (file_named listed.name files ≡ None)
IsWrong files i listed (HashDiffers n) = (n ≡ i) × HasOtherHash files listed
IsWrong files i listed (BadRoa n fault) = (n ≡ i) × HasBadRoa files listed fault
IsWrong files i listed judgement = ⊥

-- The first listed file that is not right is wrong in this way. Files are counted from i.
pub record FirstWrong (i : ℕ) (listed : List ListedFile) (files : List FileIn) (judgement : OfferJudgement) : Type 0 where
  pub right : List ListedFile
  pub wrong : ListedFile
  pub others : List ListedFile
  pub parts : listed ≡ right ++ wrong ∷ others
  pub before : All (IsRight files) right
  pub is : IsWrong files (i + length right) wrong judgement

-- The first that is wrong decides; if none is, the offer is New.
abbrev pub FromFiles : ℕ → List ListedFile → List FileIn → OfferJudgement → Type 0
FromFiles i listed files judgement = FirstWrong i listed files judgement ⊎ (All (IsRight files) listed × (judgement ≡ New))

-- The manifest is not spelled. Otherwise the first test that holds decides; otherwise the listed files.
pub data Judged (before : Option Accepted) (bytes : List ℕ) (files : List FileIn) (now : CivilMoment) (judgement : OfferJudgement) : Type 0 where
  unspelled : (fault : Fault) → ManifestFaultAt bytes fault.offset fault.number → judgement ≡ BadManifest fault → Judged before bytes files now judgement
  by_test : (m : ManifestValue) → ManifestSpells m bytes → first_that_holds (tests before m bytes files now) ≡ Some judgement → Judged before bytes files now judgement
  by_files : (m : ManifestValue) → ManifestSpells m bytes → first_that_holds (tests before m bytes files now) ≡ None → FromFiles 0 m.files files judgement → Judged before bytes files now judgement
