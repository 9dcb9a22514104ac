use Rattle.std.proofs.Common.{length}
use Rattle.exports.proofs.PlainParts.{EntriesSoFar}
use Rattle.exports.proofs.PlainSteps.{BegunItems}
use Rattle.exports.proofs.streaming.gather_entries.Given as goal

-- what was read of the entries so far, and how many they are
abbrev pub invariant-loop-alloc : goal.invariant-loop-alloc
invariant-loop-alloc l = BegunItems 125 (EntriesSoFar l.now l.index l.entries l.repeat) l.initial.reader l.reader

abbrev pub decreases-loop-alloc : goal.decreases-loop-alloc
decreases-loop-alloc l = length l.reader
