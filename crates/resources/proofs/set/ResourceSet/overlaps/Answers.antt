use Rattle.std.proofs.Common.{◌∙◌, ap, subst, Bool, true, false, ◌||◌, drop, ◌+◌}
use Rattle.std.proofs.lemmas.List.{drop_all}
use Rattle.resources.specs.Ranges.{AreRanges}
use Rattle.resources.specs.Resources.{range_of}
use Rattle.resources.proofs.Meetings.{meet, meet_on, meeting}
use Rattle.resources.proofs.set.ResourceSet.overlaps.Goals as goal

pub returns-then-begins_in : goal.returns-then-begins_in
returns-then-begins_in c =
    let items = c.deref-range-items.result.now in
    let i = c.loop-range.range-index in
    let on = meet_on c.loop-range.rest.now items c.from_end-rest.result.now i (range_of 0 0) c.begins_in.result c.loop-range-test.true c.from_end-rest.ensures c.begins_in.ensures in
    meeting c.args.other.now c.args.self.now c.as_slice-rest.result.now items true (subst AreRanges c.other.view_is c.other.invariant)
    (subst AreRanges c.self.view_is c.self.invariant) (c.as_slice-rest.ensures.value ∙ c.other.view_is) (c.deref-range-items.ensures.value ∙ c.self.view_is)
    (c.loop-range.invariant ∙ on ∙ ap (λ (x : Bool). x || meet c.from_end-rest.result.now (drop (i + 1) items)) c.if-begins_in.true)

pub loop-range-preserved : goal.loop-range-preserved
loop-range-preserved c =
    let items = c.deref-range-items.result.now in
    let i = c.loop-range.range-index in
    let on = meet_on c.loop-range.rest.now items c.from_end-rest.result.now i (range_of 0 0) c.begins_in.result c.loop-range-test.true c.from_end-rest.ensures c.begins_in.ensures in
    c.loop-range.invariant ∙ on ∙ ap (λ (x : Bool). x || meet c.from_end-rest.result.now (drop (i + 1) items)) c.if-begins_in.false

pub returns : goal.returns
returns c =
    let items = c.deref-range-items.result.now in
    meeting c.args.other.now c.args.self.now c.as_slice-rest.result.now items false (subst AreRanges c.other.view_is c.other.invariant)
    (subst AreRanges c.self.view_is c.self.invariant) (c.as_slice-rest.ensures.value ∙ c.other.view_is) (c.deref-range-items.ensures.value ∙ c.self.view_is)
    (c.loop-range.invariant ∙ ap (meet c.loop-range.rest.now) (drop_all c.loop-range.range-index items c.loop-range-test.false))
