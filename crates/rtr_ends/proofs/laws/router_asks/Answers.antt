use Rattle.rtr_ends.proofs.QuestionLaws.{router_asks}
use Rattle.rtr_ends.proofs.laws.router_asks.Goals as goal

pub returns : goal.returns
returns c = router_asks
