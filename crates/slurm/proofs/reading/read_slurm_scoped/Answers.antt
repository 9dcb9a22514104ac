use Rattle.slurm.specs.Chains.{seen}
use Rattle.slurm.specs.Scoped.{scoped_of}
use Rattle.slurm.proofs.Exactly as exactly
use Rattle.slurm.proofs.reading.read_slurm_scoped.Goals as goal

pub returns-clause-file : goal.returns-clause-file
returns-clause-file c = exactly.scoped_read c.args.bytes.now c.read.result c.read.ensures

pub returns-clause-only : goal.returns-clause-only
returns-clause-only c s is = exactly.read_scoped c.args.bytes.now (seen scoped_of c.read.result) s c.read.ensures is
