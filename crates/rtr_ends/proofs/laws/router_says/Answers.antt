use Rattle.rtr_ends.proofs.SaidLaws.{router_says}
use Rattle.rtr_ends.proofs.laws.router_says.Goals as goal

pub returns : goal.returns
returns c = router_says
