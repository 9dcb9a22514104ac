use Rattle.std.proofs.Common.{◌≤◌, length}
use Rattle.exports.proofs.repeated.in_roas.Given as goal

abbrev pub invariant-loop-alloc : goal.invariant-loop-alloc
invariant-loop-alloc l = length l.reader ≤ length l.initial.reader

abbrev pub decreases-loop-alloc : goal.decreases-loop-alloc
decreases-loop-alloc l = length l.reader
