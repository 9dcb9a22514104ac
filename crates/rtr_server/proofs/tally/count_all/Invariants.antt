-- What is left is counted on what was counted so far.
use Rattle.std.proofs.Common.{◌≡◌, length}
use Rattle.rtr_server.specs.Counting.{counted_on}
use Rattle.rtr_server.proofs.tally.count_all.Given as goal

abbrev pub invariant-loop-rest : goal.invariant-loop-rest
invariant-loop-rest l = counted_on l.tally l.rest ≡ counted_on l.initial.tally l.initial.rest

abbrev pub decreases-loop-rest : goal.decreases-loop-rest
decreases-loop-rest l = length l.rest
