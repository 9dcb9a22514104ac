use Rattle.std.proofs.Common.{◌≤◌, length}
use Rattle.exports.proofs.repeated.in_metadata.Given as goal

abbrev pub invariant-loop-name : goal.invariant-loop-name
invariant-loop-name l = length l.reader ≤ length l.initial.reader

abbrev pub decreases-loop-name : goal.decreases-loop-name
decreases-loop-name l = length l.reader
