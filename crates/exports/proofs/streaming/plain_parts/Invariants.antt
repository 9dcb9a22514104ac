use Rattle.std.proofs.Common.{length}
use Rattle.exports.proofs.PlainSteps.{Begun}
use Rattle.exports.proofs.PlainWhole.{PartsSoFar}
use Rattle.exports.proofs.streaming.plain_parts.Given as goal

-- the members so far were read
abbrev pub invariant-loop-key : goal.invariant-loop-key
invariant-loop-key l = Begun 126 (PartsSoFar l.now l.parts l.names) l.initial.reader l.reader

abbrev pub decreases-loop-key : goal.decreases-loop-key
decreases-loop-key l = length l.reader
