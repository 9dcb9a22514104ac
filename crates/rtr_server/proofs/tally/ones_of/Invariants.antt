-- This many PDUs are in front of what is left.
use Rattle.std.proofs.Common.{◌+◌, ◌≤◌, length}
use Rattle.rtr_server.specs.Runs.{PassesMany, type_in}
use Rattle.rtr_server.proofs.tally.ones_of.Given as goal

abbrev pub invariant-loop-rest : goal.invariant-loop-rest
invariant-loop-rest l = record {
  passes : PassesMany (type_in l.head) l.count l.piece l.rest;
  few : l.count + length l.rest ≤ length l.piece;
}

abbrev pub decreases-loop-rest : goal.decreases-loop-rest
decreases-loop-rest l = length l.rest
