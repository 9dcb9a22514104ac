-- An offer is answered New exactly if it is acceptable.
use Rattle.std.proofs.Common.{◌≢◌, ℕ, List, Option, Err}
use Rattle.der_lite.specs.Moments.{CivilMoment}
use Rattle.points.specs.declared.file.FileIn.{FileIn}
use Rattle.points.specs.declared.fault.PointFault.{PointFault}
use Rattle.points.specs.declared.fault.PointFault.TheVariants as faults
use Rattle.points.specs.Accepted.{Accepted, IsPoint}
use Rattle.points.specs.Answers.{NewExactly}
use Rattle.points.specs.Offers.{Acceptable, OfferJudgement, New, Same, Judged}
use Rattle.points.specs.OfferSteps.{Tells}
use Rattle.points.proofs.NewLaw.{new_law}
use Rattle.points.proofs.OneLaw.{one_judged}

module _ (before : Option Accepted) (bytes : List ℕ) (files : List FileIn) (now : CivilMoment) (held : IsPoint before) where
  pub acceptable : Judged before bytes files now New → Acceptable before bytes files now
  acceptable h = (new_law before bytes files now held).0 h

  not_acceptable : (j : OfferJudgement) → j ≢ New → Judged before bytes files now j → ¬ Acceptable before bytes files now
  not_acceptable j other h a = other (one_judged before bytes files now j New h ((new_law before bytes files now held).1 a))

  pub same_is_not : Judged before bytes files now Same → ¬ Acceptable before bytes files now
  same_is_not h = not_acceptable Same (λ e. cc) h

  pub fault_is_not : (fault : PointFault) → Tells fault (Judged before bytes files now) → NewExactly (Err fault) (Acceptable before bytes files now)
  fault_is_not (faults.Manifest fault) h = not_acceptable _ (λ e. cc) h
  fault_is_not faults.NotYet h = not_acceptable _ (λ e. cc) h
  fault_is_not faults.Stale h = not_acceptable _ (λ e. cc) h
  fault_is_not faults.OldNumber h = not_acceptable _ (λ e. cc) h
  fault_is_not faults.OldTime h = not_acceptable _ (λ e. cc) h
  fault_is_not (faults.FileTwice i) h = not_acceptable _ (λ e. cc) h
  fault_is_not (faults.Missing i) h = not_acceptable _ (λ e. cc) h
  fault_is_not (faults.HashDiffers i) h = not_acceptable _ (λ e. cc) h
  fault_is_not (faults.Roa i fault) h = not_acceptable _ (λ e. cc) h
  fault_is_not faults.Memory h = tt
