use Rattle.std.proofs.Common.{◌∙◌, sym, ap}
use Rattle.std.proofs.lemmas.List.{drop_all}
use Rattle.resources.specs.Resources.{range_of}
use Rattle.resources.proofs.RangeLaws.{follow, follow_is, followed, not_followed}
use Rattle.resources.proofs.set.are_apart.Goals as goal

pub returns-then-not-is_after : goal.returns-then-not-is_after
returns-then-not-is_after c =
    sym (follow_is c.args.ranges.now ∙ c.loop-range.invariant ∙ not_followed c.loop-range.end c.args.ranges.now c.loop-range.range-index (range_of 0 0) c.loop-range-test.true (sym c.is_after.ensures ∙ c.if-not-is_after.true))

pub loop-range-preserved : goal.loop-range-preserved
loop-range-preserved c =
    c.loop-range.invariant ∙ followed c.loop-range.end c.args.ranges.now c.loop-range.range-index (range_of 0 0) c.loop-range-test.true (sym c.is_after.ensures ∙ c.if-not-is_after.false)

pub returns : goal.returns
returns c = sym (follow_is c.args.ranges.now ∙ c.loop-range.invariant ∙ ap (follow c.loop-range.end) (drop_all c.loop-range.range-index c.args.ranges.now c.loop-range-test.false))
