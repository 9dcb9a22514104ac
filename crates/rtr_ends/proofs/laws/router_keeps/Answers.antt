use Rattle.rtr_ends.proofs.KeptLaws.{router_keeps}
use Rattle.rtr_ends.proofs.laws.router_keeps.Goals as goal

pub returns : goal.returns
returns c = router_keeps
