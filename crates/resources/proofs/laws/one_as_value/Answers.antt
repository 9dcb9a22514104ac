use Rattle.resources.proofs.LawProofs.{as_law}
use Rattle.resources.proofs.laws.one_as_value.Goals as goal

pub returns : goal.returns
returns c = as_law
