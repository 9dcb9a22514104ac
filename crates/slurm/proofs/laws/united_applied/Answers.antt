use Rattle.slurm.proofs.United as proofs
use Rattle.slurm.proofs.laws.united_applied.Goals as goal

pub returns : goal.returns
returns c = proofs.united_applied
