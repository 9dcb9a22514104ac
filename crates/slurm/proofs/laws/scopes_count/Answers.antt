use Rattle.slurm.proofs.Ignoring as proofs
use Rattle.slurm.proofs.laws.scopes_count.Goals as goal

pub returns : goal.returns
returns c = proofs.scopes_count
