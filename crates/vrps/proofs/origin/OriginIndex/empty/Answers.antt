use Rattle.vrps.proofs.Listed.{no_members}
use Rattle.vrps.proofs.origin.OriginIndex.empty.Goals as goal

pub invariant_of-result : goal.invariant_of-result
invariant_of-result c = no_members _ c.no_groups.ensures
