use Rattle.rtr_ends.proofs.SpokenLaws.{router_speaks}
use Rattle.rtr_ends.proofs.laws.router_speaks.Goals as goal

pub returns : goal.returns
returns c = router_speaks
