use Rattle.std.proofs.Common.{length}
use Rattle.constraints.proofs.GatherLaws.{Leaves}
use Rattle.constraints.proofs.gathered.gather.Given as goal

-- what was gathered, and the entries that are left, are all
abbrev pub invariant-loop-rest : goal.invariant-loop-rest
invariant-loop-rest l = Leaves l.action l.fn.entries l.rest l.gathered

-- less is left
abbrev pub decreases-loop-rest : goal.decreases-loop-rest
decreases-loop-rest l = length l.rest
