use Rattle.std.proofs.Common.{◌∙◌, ap, subst, Bool, true, false, ◌&&◌, drop, ◌+◌}
use Rattle.std.proofs.lemmas.List.{drop_all}
use Rattle.resources.specs.Ranges.{AreRanges}
use Rattle.resources.specs.Resources.{range_of}
use Rattle.resources.proofs.RangeLaws.{walk, walk_on, decided}
use Rattle.resources.proofs.set.ResourceSet.is_within.Goals as goal

pub returns-then-not-begins_by : goal.returns-then-not-begins_by
returns-then-not-begins_by c =
    let items = c.deref-range-items.result.now in
    let i = c.loop-range.range-index in
    let on = walk_on c.loop-range.rest.now items c.from_end-rest.result.now i (range_of 0 0) c.begins_by.result c.loop-range-test.true c.from_end-rest.ensures c.begins_by.ensures in
    decided c.args.outer.now c.args.self.now c.as_slice-rest.result.now items false (subst AreRanges c.outer.view_is c.outer.invariant)
    (subst AreRanges c.self.view_is c.self.invariant) (c.as_slice-rest.ensures.value ∙ c.outer.view_is) (c.deref-range-items.ensures.value ∙ c.self.view_is)
    (c.loop-range.invariant ∙ on ∙ ap (λ (x : Bool). x && walk c.from_end-rest.result.now (drop (i + 1) items)) c.if-not-begins_by.true)

pub loop-range-preserved : goal.loop-range-preserved
loop-range-preserved c =
    let items = c.deref-range-items.result.now in
    let i = c.loop-range.range-index in
    let on = walk_on c.loop-range.rest.now items c.from_end-rest.result.now i (range_of 0 0) c.begins_by.result c.loop-range-test.true c.from_end-rest.ensures c.begins_by.ensures in
    c.loop-range.invariant ∙ on ∙ ap (λ (x : Bool). x && walk c.from_end-rest.result.now (drop (i + 1) items)) c.if-not-begins_by.false

pub returns : goal.returns
returns c =
    let items = c.deref-range-items.result.now in
    decided c.args.outer.now c.args.self.now c.as_slice-rest.result.now items true (subst AreRanges c.outer.view_is c.outer.invariant)
    (subst AreRanges c.self.view_is c.self.invariant) (c.as_slice-rest.ensures.value ∙ c.outer.view_is) (c.deref-range-items.ensures.value ∙ c.self.view_is)
    (c.loop-range.invariant ∙ ap (walk c.loop-range.rest.now) (drop_all c.loop-range.range-index items c.loop-range-test.false))
