use Rattle.slurm.proofs.Readings as proofs
use Rattle.slurm.proofs.laws.one_scoped_reading.Goals as goal

pub returns : goal.returns
returns c = proofs.says_one_scoped
