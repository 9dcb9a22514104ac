use Rattle.std.proofs.Common.{◌∙◌, subst, sym}
use Rattle.std.specs.List.Sorted.{IsStrictlySortedBy}
use Rattle.prefixes.specs.Payload.{vrp_cmp}
use Rattle.vrps.proofs.Listed.{listing_is, set_is}
use Rattle.vrps.proofs.set.VrpSet.as_slice.Goals as goal

pub returns : goal.returns
returns c = record {
  value = c.deref.ensures.value ∙ listing_is _ _ c.self.view_is c.self.invariant;
  ascends = subst (λ vs. IsStrictlySortedBy vrp_cmp vs) (sym c.deref.ensures.value) c.self.invariant.ascends;
  set = set_is _ _ c.self.view_is c.self.invariant;
}
