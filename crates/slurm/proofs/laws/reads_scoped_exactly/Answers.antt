use Rattle.slurm.proofs.Exactly as proofs
use Rattle.slurm.proofs.laws.reads_scoped_exactly.Goals as goal

pub returns : goal.returns
returns c = proofs.reads_scoped_exactly
