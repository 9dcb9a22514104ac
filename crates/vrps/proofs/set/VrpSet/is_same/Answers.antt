use Rattle.std.proofs.Common.{◌∙◌}
use Rattle.vrps.specs.Store.{same_list}
use Rattle.vrps.proofs.Listed.{listing_is}
use Rattle.vrps.proofs.SetVersions.{tied_lists}
use Rattle.vrps.proofs.set.VrpSet.is_same.Goals as goal

pub returns : goal.returns
returns c =
    c.eq.ensures ∙ tied_lists c.self.inside.items.items c.other.inside.items.items
    ∙ (λ i. same_list (listing_is _ c.self.inside.items.items c.self.view_is c.self.invariant i) (listing_is _ c.other.inside.items.items c.other.view_is c.other.invariant i))
