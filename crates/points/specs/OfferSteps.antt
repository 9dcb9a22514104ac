-- What the steps of judging give.
use Rattle.std.specs.Prelude.{◌≡◌, ◌⊎◌, ℕ, suc, Bool, true, false, List, [], ◌∷◌, Option, Some, None, Result, Ok, Err, IfSome, MatchOption}
use Rattle.std.specs.List.{AllZip}
use Rattle.der_lite.specs.Place.{Fault}
use Rattle.der_lite.specs.Moments.{CivilMoment}
use Rattle.payloads.specs.Manifest.{ListedFile, ManifestValue, ManifestSpells, ManifestFaultAt}
use Rattle.payloads.specs.RoaValues.{RoaValue, RoaSpells, RoaFaultAt}
use Rattle.points.specs.declared.file.FileIn.{FileIn}
use Rattle.points.specs.declared.fault.PointFault.{PointFault}
use Rattle.points.specs.Files.{is_roa_name, file_named, has_hash}
use Rattle.points.specs.Accepted.{Accepted, IsRoaOf, Holds, listed_roas}
use Rattle.points.specs.Offers.{OfferJudgement, New, Same, BadManifest, Missing, HashDiffers, BadRoa, Judged, first_that_holds, tests}
use Rattle.points.specs.Answers.{told_by_fault}

-- what the tests decide, otherwise what is later
abbrev pub Decided : Option OfferJudgement → OfferJudgement → Type 0 → Type 0
Decided (Some first) judgement Later = judgement ≡ first
Decided None judgement Later = Later

-- the content of listed file i, which is a ROA or not: its first fault, otherwise what is later
abbrev pub AtContent : ℕ → Bool → List ℕ → OfferJudgement → Type 0 → Type 0
AtContent i false content judgement Later = Later
AtContent i true content judgement Later =
    ((fault : Fault) × RoaFaultAt content fault.offset fault.number × (judgement ≡ BadRoa i fault))
    ⊎ (((roa : RoaValue) × RoaSpells roa content) × Later)

-- the hash of listed file i, which is the object's or not
abbrev pub AtHash : ℕ → Bool → OfferJudgement → Type 0 → Type 0
AtHash i false judgement Later = judgement ≡ HashDiffers i
AtHash i true judgement Later = Later

-- listed file i, with the file of its name, if there is one
abbrev pub AtFile : ℕ → ListedFile → Option FileIn → OfferJudgement → Type 0 → Type 0
AtFile i listed None judgement Later = judgement ≡ Missing i
AtFile i listed (Some file) judgement Later =
    AtHash i (has_hash listed file) judgement (AtContent i (is_roa_name listed.name) file.content.now judgement Later)

-- the listed files, from i on: the first at which something is wrong, or New
abbrev pub FromFile : ℕ → List ListedFile → List FileIn → OfferJudgement → Type 0
FromFile i [] files judgement = judgement ≡ New
FromFile i (listed ∷ others) files judgement =
    AtFile i listed (file_named listed.name files) judgement (FromFile (suc i) others files judgement)

-- The manifest is not spelled. Otherwise the first test that holds decides, and if none does, the listed files. It is `Judged`, said step
-- by step.
unfoldable pub JudgedInSteps : Option Accepted → List ℕ → List FileIn → CivilMoment → OfferJudgement → Type 0
JudgedInSteps before bytes files now judgement =
    ((fault : Fault) × ManifestFaultAt bytes fault.offset fault.number × (judgement ≡ BadManifest fault))
    ⊎ ((m : ManifestValue) × ManifestSpells m bytes
    × Decided (first_that_holds (tests before m bytes files now)) judgement (FromFile 0 m.files files judgement))

-- a fault that reports a judgement reports one of which this holds
abbrev pub Tells : PointFault → (OfferJudgement → Type 0) → Type 0
Tells fault Holds = IfSome (told_by_fault fault) Holds

-- The manifest that the bytes spell; or their first fault; or memory ran out.
abbrev pub ReadsManifest : Result ManifestValue PointFault → List ℕ → Type 0
ReadsManifest (Ok manifest) bytes = ManifestSpells manifest bytes
ReadsManifest (Err fault) bytes = Tells fault (λ judgement. (first : Fault) × ManifestFaultAt bytes first.offset first.number × (judgement ≡ BadManifest first))

-- The ROA that the content spells; or its first fault, at this index; or memory ran out.
abbrev pub ReadsRoa : Result RoaValue PointFault → ℕ → List ℕ → Type 0
ReadsRoa (Ok roa) i content = RoaSpells roa content
ReadsRoa (Err fault) i content = Tells fault (λ judgement. (first : Fault) × RoaFaultAt content first.offset first.number × (judgement ≡ BadRoa i first))

-- the judgement that an answer reports on whether the bytes are those accepted last
abbrev pub told_of : Result Bool PointFault → Option OfferJudgement
told_of (Ok true) = Some Same
told_of (Ok false) = None
told_of (Err fault) = told_by_fault fault

-- Nothing is wrong with listed file i, and this is its ROA if it is one; or what is wrong with it decides.
abbrev pub TakesFile : Result (Option RoaValue) PointFault → ℕ → ListedFile → List FileIn → Type 0
TakesFile (Ok roa) i listed files =
    ((others : List ListedFile) (judgement : OfferJudgement) → FromFile (suc i) others files judgement → FromFile i (listed ∷ others) files judgement)
    × MatchOption roa (is_roa_name listed.name ≡ false) (λ r. (is_roa_name listed.name ≡ true) × IsRoaOf files listed r)
TakesFile (Err fault) i listed files = Tells fault (λ judgement. (others : List ListedFile) → FromFile i (listed ∷ others) files judgement)

-- Nothing is wrong with the listed files, and these are their ROAs; or what is wrong with the first of them decides.
abbrev pub TakesFiles : {R : Type 0} → (R → List RoaValue) → Result R PointFault → List ListedFile → List FileIn → Type 0
TakesFiles roas (Ok taken) listed files = FromFile 0 listed files New × AllZip (IsRoaOf files) (listed_roas listed) (roas taken)
TakesFiles roas (Err fault) listed files = Tells fault (FromFile 0 listed files)

-- This is what the point holds from now on; or what was accepted last; or a fault decides.
abbrev pub TakesOffer : Result (Option Accepted) PointFault → Option Accepted → List ℕ → List FileIn → CivilMoment → Type 0
TakesOffer (Ok (Some last)) before bytes files now = Judged before bytes files now New × Holds bytes files last
TakesOffer (Ok None) before bytes files now = Judged before bytes files now Same
TakesOffer (Err fault) before bytes files now = Tells fault (Judged before bytes files now)
