use Rattle.std.proofs.Common.{◌≡◌, length}
use Rattle.resources.specs.Walks.{from_end}
use Rattle.resources.proofs.set.from_end.Given as goal

-- what is left decides
abbrev pub invariant-loop-rest : goal.invariant-loop-rest
invariant-loop-rest l = from_end l.number l.fn.ranges ≡ from_end l.number l.rest

-- less is left
abbrev pub decreases-loop-rest : goal.decreases-loop-rest
decreases-loop-rest l = length l.rest
