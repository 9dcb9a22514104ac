use Rattle.slurm.proofs.Readings.{says_one}
use Rattle.slurm.proofs.laws.one_reading.Goals as goal

pub returns : goal.returns
returns c = says_one
