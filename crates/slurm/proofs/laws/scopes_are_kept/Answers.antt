use Rattle.slurm.proofs.Scopes as proofs
use Rattle.slurm.proofs.laws.scopes_are_kept.Goals as goal

pub returns : goal.returns
returns c = proofs.scopes_are_kept
