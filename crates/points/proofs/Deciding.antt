-- What decides an offer whose manifest is spelled.
use Rattle.std.proofs.Common.{◌≡◌, ℕ, Bool, true, false, List, [], ◌∷◌, ◌++◌, Option, Some, None, IfSome, refl, sym, ◌∙◌}
use Rattle.der_lite.specs.Place.{Fault}
use Rattle.der_lite.specs.Moments.{CivilMoment}
use Rattle.payloads.specs.Manifest.{ManifestValue, ManifestSpells, ManifestFaultAt}
use Rattle.points.specs.declared.file.FileIn.{FileIn}
use Rattle.points.specs.declared.fault.PointFault.{PointFault}
use Rattle.points.specs.Accepted.{Accepted}
use Rattle.points.specs.Answers.{told_by_fault}
use Rattle.points.specs.Offers.{OfferJudgement, BadManifest, first_that_holds, manifest_tests, twice_tests, tests, Judged}
use Rattle.points.specs.Offers as offers
use Rattle.points.specs.OfferSteps.{FromFile, Tells}
use Rattle.points.proofs.InSteps.{to_first}
use Rattle.points.proofs.Taking.{tells}

front_decides : (ts us : List (OfferJudgement × Bool)) (j : OfferJudgement) → first_that_holds ts ≡ Some j → first_that_holds (ts ++ us) ≡ Some j
front_decides [] us j h = absurd cc
front_decides ((k, true) ∷ ts) us j h = h
front_decides ((k, false) ∷ ts) us j h = front_decides ts us j h

rest_decides : (ts us : List (OfferJudgement × Bool)) → first_that_holds ts ≡ None → first_that_holds (ts ++ us) ≡ first_that_holds us
rest_decides [] us h = refl
rest_decides ((k, true) ∷ ts) us h = absurd cc
rest_decides ((k, false) ∷ ts) us h = rest_decides ts us h

-- a manifest that is not spelled
pub unspelled : (before : Option Accepted) (bytes : List ℕ) (files : List FileIn) (now : CivilMoment) (fault : PointFault)
    → Tells fault (λ j. (first : Fault) × ManifestFaultAt bytes first.offset first.number × (j ≡ BadManifest first)) → Tells fault (Judged before bytes files now)
unspelled before bytes files now fault h =
    tells fault (λ j. (first : Fault) × ManifestFaultAt bytes first.offset first.number × (j ≡ BadManifest first)) (Judged before bytes files now) (λ j bad. offers.unspelled bad.0 bad.1 bad.2) h

module _ (before : Option Accepted) (m : ManifestValue) (bytes : List ℕ) (files : List FileIn) (now : CivilMoment) (spelled : ManifestSpells m bytes) where
  by_test : (j : OfferJudgement) → first_that_holds (tests before m bytes files now) ≡ Some j → Judged before bytes files now j
  by_test j h = offers.by_test m spelled h

  -- a test of the manifest
  pub by_manifest : (j : OfferJudgement) → first_that_holds (manifest_tests before m bytes now) ≡ Some j → Judged before bytes files now j
  unfolding tests
  by_manifest j h = by_test j (front_decides (manifest_tests before m bytes now) (twice_tests 0 [] files) j h)

  some_manifest : (o : Option OfferJudgement) → o ≡ first_that_holds (manifest_tests before m bytes now) → IfSome o (Judged before bytes files now)
  some_manifest None h = tt
  some_manifest (Some j) h = by_manifest j (sym h)

  pub by_told : (fault : PointFault) → told_by_fault fault ≡ first_that_holds (manifest_tests before m bytes now) → Tells fault (Judged before bytes files now)
  by_told fault h = some_manifest (told_by_fault fault) h

  module _ (passed : first_that_holds (manifest_tests before m bytes now) ≡ None) where
    -- a file that is supplied twice
    pub by_twice : (fault : PointFault) → Tells fault (λ j. first_that_holds (twice_tests 0 [] files) ≡ Some j) → Tells fault (Judged before bytes files now)
    unfolding tests
    by_twice fault h = tells fault (λ j. first_that_holds (twice_tests 0 [] files) ≡ Some j) (Judged before bytes files now)
        (λ j k. by_test j (rest_decides (manifest_tests before m bytes now) (twice_tests 0 [] files) passed ∙ k)) h

    module _ (apart : first_that_holds (twice_tests 0 [] files) ≡ None) where
      none : first_that_holds (tests before m bytes files now) ≡ None
      unfolding tests
      none = rest_decides (manifest_tests before m bytes now) (twice_tests 0 [] files) passed ∙ apart

      -- a file that is listed, or New
      pub by_file : (j : OfferJudgement) → FromFile 0 m.files files j → Judged before bytes files now j
      by_file j h = offers.by_files m spelled none (to_first 0 m.files files j h)

      pub by_files : (fault : PointFault) → Tells fault (FromFile 0 m.files files) → Tells fault (Judged before bytes files now)
      by_files fault h = tells fault (FromFile 0 m.files files) (Judged before bytes files now) by_file h
