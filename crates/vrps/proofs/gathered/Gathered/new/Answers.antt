use Rattle.vrps.proofs.Gathers.{ascends_none}
use Rattle.vrps.proofs.gathered.Gathered.new.Goals as goal

pub invariant_of-result : goal.invariant_of-result
invariant_of-result c = ascends_none _ c.new.ensures.items
