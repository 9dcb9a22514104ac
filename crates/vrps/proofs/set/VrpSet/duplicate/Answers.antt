use Rattle.std.proofs.Common.{◌∙◌, ap, sym, subst}
use Rattle.std.specs.List.{each_same}
use Rattle.vrps.specs.VrpSet.{IsListing, set_of}
use Rattle.vrps.proofs.set.VrpSet.duplicate.Goals as goal

pub invariant_of-result : goal.invariant_of-result
invariant_of-result c = subst (λ vs. IsListing vs) (sym (each_same _ _ c.in_ok-items.ensures.cases.0)) c.self.invariant

pub returns : goal.returns
returns c = ap (λ vs. set_of vs) (each_same _ _ c.in_ok-items.ensures.cases.0) ∙ c.self.view_is
