use Rattle.slurm.proofs.United as proofs
use Rattle.slurm.proofs.laws.one_is_apart.Goals as goal

pub returns : goal.returns
returns c = proofs.one_is_apart
