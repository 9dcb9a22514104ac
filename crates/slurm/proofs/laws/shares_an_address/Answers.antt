use Rattle.slurm.proofs.Addresses as proofs
use Rattle.slurm.proofs.laws.shares_an_address.Goals as goal

pub returns : goal.returns
returns c = proofs.shares_an_address
