use Rattle.slurm.specs.Scoped.{scoped_of}
use Rattle.sources.proofs.Files.{counted_each}
use Rattle.sources.proofs.slurms.applied.Goals as goal

pub returns-in-Ok-clause-ok : goal.returns-in-Ok-clause-ok
returns-in-Ok-clause-ok c = record {
  united = c.in_ok-slurm.ensures;
  counted = counted_each scoped_of c.args.read.now c.in-Ok.ignored.items c.in-Ok.ensures;
}
