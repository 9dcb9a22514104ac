-- What holds of the definitions of offers.
use Rattle.std.specs.Prelude.{◌≡◌, ◌↔◌, ℕ, List, Option}
use Rattle.der_lite.specs.Moments.{CivilMoment}
use Rattle.points.specs.declared.file.FileIn.{FileIn}
use Rattle.points.specs.Accepted.{Accepted, IsPoint}
use Rattle.points.specs.Offers.{Acceptable, OfferJudgement, Judged, New}

-- An offer to a point is judged New exactly if it is acceptable.
abbrev pub NewWhereAcceptable : Type 0
NewWhereAcceptable =
    (before : Option Accepted) (bytes : List ℕ) (files : List FileIn) (now : CivilMoment) → IsPoint before
    → Judged before bytes files now New ↔ Acceptable before bytes files now

-- No offer has two judgements.
abbrev pub OneJudgement : Type 0
OneJudgement =
    (before : Option Accepted) (bytes : List ℕ) (files : List FileIn) (now : CivilMoment) (j k : OfferJudgement)
    → Judged before bytes files now j → Judged before bytes files now k → j ≡ k
