use Rattle.std.proofs.Common.{refl}
use Rattle.sources.proofs.sources.Sources.take_slurm.Goals as goal

pub returns-clause-exceptions : goal.returns-clause-exceptions
returns-clause-exceptions c = (c.in_ok-slurms.slurms, c.in_ok-slurms.ensures.ok.0, c.in_ok-slurms.ensures.ok.1, c.in_ok-slurms.ensures.ok.2, refl)
