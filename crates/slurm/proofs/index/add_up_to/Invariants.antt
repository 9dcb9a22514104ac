use Rattle.std.proofs.Common.{length, ◌-◌}
use Rattle.slurm.proofs.Arranging.{OpensSoFar}
use Rattle.slurm.proofs.index.add_up_to.Given as goal

-- those from the place on up to this one are added
abbrev pub invariant-loop-to : goal.invariant-loop-to
invariant-loop-to l = OpensSoFar l.prefixes l.prefix l.next l.fn.opened.items l.to l.opened.items

abbrev pub decreases-loop-to : goal.decreases-loop-to
decreases-loop-to l = length l.prefixes - l.to
