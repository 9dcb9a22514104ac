use Rattle.std.proofs.Common.{◌≤◌, length, true}
use Rattle.rtr_ends.specs.RouterShown.{TakesOn}
use Rattle.rtr_ends.proofs.router.Router.take.Given as goal

abbrev pub invariant-loop-self : goal.invariant-loop-self
invariant-loop-self l = record {
  goes : TakesOn true l.fn.self l.fn.piece.now l.self l.piece.now;
  less : length l.piece.now ≤ length l.fn.piece.now;
}

abbrev pub decreases-loop-self : goal.decreases-loop-self
decreases-loop-self l = length l.piece.now
