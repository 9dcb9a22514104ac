use Rattle.slurm.proofs.United as proofs
use Rattle.slurm.proofs.laws.any_order.Goals as goal

pub returns : goal.returns
returns c = proofs.any_order
