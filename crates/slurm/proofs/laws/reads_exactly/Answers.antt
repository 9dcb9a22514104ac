use Rattle.slurm.proofs.Exactly as exactly
use Rattle.slurm.proofs.laws.reads_exactly.Goals as goal

pub returns : goal.returns
returns c = exactly.reads_exactly
