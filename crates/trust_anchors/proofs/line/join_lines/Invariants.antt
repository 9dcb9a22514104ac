use Rattle.std.proofs.Common.{length}
use Rattle.trust_anchors.proofs.Cutting.{Joined}
use Rattle.trust_anchors.proofs.line.join_lines.Given as goal

-- the lines so far were joined
abbrev pub invariant-loop-line : goal.invariant-loop-line
invariant-loop-line l = Joined l.text.items l.rest l.fn.bytes

-- less remains
abbrev pub decreases-loop-line : goal.decreases-loop-line
decreases-loop-line l = length l.rest
