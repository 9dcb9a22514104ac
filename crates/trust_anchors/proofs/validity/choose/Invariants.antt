use Rattle.trust_anchors.proofs.Better.{IsBestOf}
use Rattle.trust_anchors.proofs.validity.choose.Given as goal

-- the best so far
abbrev pub invariant-loop-at : goal.invariant-loop-at
invariant-loop-at l = IsBestOf l.validities l.at l.best
