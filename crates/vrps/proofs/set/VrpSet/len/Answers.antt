use Rattle.std.proofs.Common.{◌∙◌}
use Rattle.vrps.proofs.Listed.{set_is, size_is}
use Rattle.vrps.proofs.set.VrpSet.len.Goals as goal

pub returns : goal.returns
returns c = record {
  value = c.len.ensures ∙ c.self.inside.items.ok.0 ∙ size_is _ _ c.self.view_is c.self.invariant;
  set = set_is _ _ c.self.view_is c.self.invariant;
}
