use Rattle.std.proofs.Common.{length}
use Rattle.rtr_ends.specs.Sender.{left}
use Rattle.rtr_ends.proofs.SenderLaws.{IsFilled}
use Rattle.rtr_ends.proofs.sender.Sender.pull.Given as goal

abbrev pub invariant-loop-filled : goal.invariant-loop-filled
invariant-loop-filled l = IsFilled l.fn.self l.fn.out l.self l.out l.filled

abbrev pub decreases-loop-filled : goal.decreases-loop-filled
decreases-loop-filled l = length (left l.self)
