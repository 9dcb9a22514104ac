use Rattle.sources.proofs.Files.{one_slurm}
use Rattle.sources.proofs.laws.one_slurm.Goals as goal

pub returns : goal.returns
returns c = one_slurm
