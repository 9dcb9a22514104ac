use Rattle.std.proofs.Common.{◌∙◌}
use Rattle.slurm.proofs.Arranging.{found}
use Rattle.slurm.proofs.index.has_number.Goals as goal

pub returns : goal.returns
returns c = c.is_ok.ensures.value ∙ found c.args.numbers.now c.args.number c.binary_search.result c.binary_search.ensures.position c.requires
