use Rattle.slurm.proofs.Walking.{Ahead}
use Rattle.slurm.proofs.applying.filtered.Given as goal

abbrev pub invariant-loop-vrp : goal.invariant-loop-vrp
invariant-loop-vrp l = Ahead l.filters l.index.by_prefix.items l.records l.vrp-index l.next l.opened.items l.matched.items
