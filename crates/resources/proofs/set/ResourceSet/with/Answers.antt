use Rattle.std.proofs.Common.{◌∙◌, List, subst, sym, arith, ap}
use Rattle.resources.specs.declared.range.ResourceRange.{ResourceRange}
use Rattle.resources.specs.Ranges.{AreRanges, Covers}
use Rattle.resources.specs.Walks.{merged}
use Rattle.resources.proofs.Merging.{merged_covers, merged_ranges}
use Rattle.resources.proofs.set.ResourceSet.with.Goals as goal

pub of-requires-2 : goal.of-requires-2
of-requires-2 c =
    let ranges = subst AreRanges c.self.view_is c.self.invariant in
    subst AreRanges (ap (merged c.args.range) (sym c.as_slice.ensures) ∙ sym c.in_ok-merged.ensures) (merged_ranges c.args.range c.args.self.now (omega (arith, c.if-range.false)) ranges)

pub returns : goal.returns
returns c n =
    let is = c.of-2.ensures ∙ c.in_ok-merged.ensures ∙ ap (merged c.args.range) c.as_slice.ensures in
    let m = merged_covers c.args.range c.args.self.now n in
    ((λ h. m.0 (subst (λ (l : List ResourceRange). Covers l n) is h)), (λ h. subst (λ (l : List ResourceRange). Covers l n) (sym is) (m.1 h)))
