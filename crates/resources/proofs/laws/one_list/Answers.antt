use Rattle.resources.proofs.OneList.{list_law}
use Rattle.resources.proofs.laws.one_list.Goals as goal

pub returns : goal.returns
returns c = list_law
