use Rattle.std.proofs.Common.{List, [], ◌∷◌, length}
use Rattle.resources.specs.declared.range.ResourceRange.{ResourceRange}
use Rattle.resources.specs.Ranges.{Overlap}
use Rattle.constraints.proofs.judging.meets.Given as goal

-- what is left decides
pub record IsLeft (range : ResourceRange) (rest others : List ResourceRange) : Type 0 where
  pub rest_of : Overlap (range ∷ []) rest → Overlap (range ∷ []) others
  pub all_of : Overlap (range ∷ []) others → Overlap (range ∷ []) rest

abbrev pub invariant-loop-rest : goal.invariant-loop-rest
invariant-loop-rest l = IsLeft l.fn.range l.rest l.fn.others

-- less is left
abbrev pub decreases-loop-rest : goal.decreases-loop-rest
decreases-loop-rest l = length l.rest
