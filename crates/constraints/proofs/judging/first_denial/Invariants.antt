use Rattle.std.proofs.Common.{ℕ, Option, length}
use Rattle.constraints.specs.Judging.{FirstDenial}
use Rattle.constraints.specs.Parts.{sets_of}
use Rattle.constraints.proofs.judging.first_denial.Given as goal

-- what is left decides
abbrev pub invariant-loop-rest : goal.invariant-loop-rest
invariant-loop-rest l = (r : Option ℕ) → FirstDenial (sets_of l.fn.judged) l.rest r → FirstDenial (sets_of l.fn.judged) l.fn.entries r

-- less is left
abbrev pub decreases-loop-rest : goal.decreases-loop-rest
decreases-loop-rest l = length l.rest
