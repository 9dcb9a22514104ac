-- What is left comes after what came so far.
use Rattle.std.proofs.Common.{◌≡◌, length}
use Rattle.upstreams.specs.Versions.{opened_on}
use Rattle.upstreams.proofs.opening.Opening.read.Given as goal

abbrev pub invariant-loop-rest : goal.invariant-loop-rest
invariant-loop-rest l = opened_on l.self l.rest ≡ opened_on l.initial.self l.initial.rest

abbrev pub decreases-loop-rest : goal.decreases-loop-rest
decreases-loop-rest l = length l.rest
