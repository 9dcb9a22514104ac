use Rattle.std.proofs.Common.{◌∙◌, ◌+◌, ap, get_or, subst, sym, take, arith}
use Rattle.std.proofs.lemmas.List.{take_all}
use Rattle.std.proofs.lemmas.Option.{slice_get-get_or}
use Rattle.sources.specs.ByAnchor.{AreLeft, raised}
use Rattle.sources.proofs.Tallies.{has_room, none_left, one_more_left}
use Rattle.sources.proofs.listed.left_of_anchors.Goals as goal

pub loop-index-init : goal.loop-index-init
loop-index-init c = none_left c.args.now c.args.names c.args.numbers.now c.in_ok-counts.counts.items (c.in_ok-counts.ensures.items_if_clones_equal (λ x h. h))

pub raise-requires : goal.raise-requires
raise-requires c = has_room c.args.now c.args.names c.args.lasts.now c.args.numbers.now c.loop-index.counts.items c.loop-index.index (omega (arith, c.loop-index-test.true, c)) c.loop-index.invariant

pub loop-index-preserved : goal.loop-index-preserved
loop-index-preserved c =
    let last = get_or c.args.lasts.now c.loop-index.index 0 in
    subst (λ ns. AreLeft c.args.now c.args.names (take (c.loop-index.index + 1) c.args.lasts.now) c.args.numbers.now ns)
    (sym (c.raise.ensures ∙ ap (λ o. raised o c.loop-index.counts.items) c.number_at.ensures))
    (one_more_left c.args.now c.args.names c.args.lasts.now c.args.numbers.now c.loop-index.counts.items c.loop-index.index last (slice_get-get_or c.args.lasts.now c.loop-index.index 0 c.loop-index-test.true) c.loop-index.invariant)

pub returns : goal.returns
returns c = subst (λ ls. AreLeft c.args.now c.args.names ls c.args.numbers.now c.loop-index.counts.items) (take_all c.loop-index.index c.args.lasts.now c.loop-index-test.false) c.loop-index.invariant
