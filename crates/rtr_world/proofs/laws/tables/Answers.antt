use Rattle.rtr_world.proofs.WorldSteps.{tables}
use Rattle.rtr_world.proofs.laws.tables.Goals as goal

pub returns : goal.returns
returns c = tables
