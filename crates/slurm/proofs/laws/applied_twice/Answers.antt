use Rattle.slurm.proofs.ExceptionLaws.{applied_twice}
use Rattle.slurm.proofs.laws.applied_twice.Goals as goal

pub returns : goal.returns
returns c = applied_twice
