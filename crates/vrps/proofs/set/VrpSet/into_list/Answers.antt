use Rattle.vrps.proofs.Listed.{listing_is}
use Rattle.vrps.proofs.set.VrpSet.into_list.Goals as goal

pub returns : goal.returns
returns c = listing_is _ _ c.self.view_is c.self.invariant
