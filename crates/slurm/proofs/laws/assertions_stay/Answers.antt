use Rattle.slurm.proofs.ExceptionLaws.{assertions_stay}
use Rattle.slurm.proofs.laws.assertions_stay.Goals as goal

pub returns : goal.returns
returns c = assertions_stay
