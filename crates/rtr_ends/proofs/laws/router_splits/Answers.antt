use Rattle.rtr_ends.proofs.ConsumedLaws.{router_splits}
use Rattle.rtr_ends.proofs.laws.router_splits.Goals as goal

pub returns : goal.returns
returns c = router_splits
