use Rattle.std.proofs.Common.{ap, ◌∙◌}
use Rattle.std.proofs.lemmas.List.{take_all}
use Rattle.vrps.specs.VrpSet.{set_of, with_member}
use Rattle.vrps.proofs.Gathers.{gathers_next}
use Rattle.vrps.proofs.gathered.tree_of.Goals as goal

pub loop-record-init : goal.loop-record-init
loop-record-init c = ap (λ l. set_of l) c.new-tree.ensures.empty

pub loop-record-preserved : goal.loop-record-preserved
loop-record-preserved c =
    c.in_ok-put.ensures.ok ∙ ap (λ v. with_member (set_of c.loop-record.tree.keys) v) c.record-item.is
    ∙ gathers_next c.args.list.now c.loop-record.record-index c.record-item.result _ c.loop-record-test.true c.loop-record.invariant

pub returns : goal.returns
returns c =
    c.in_ok-put-2.ensures.ok ∙ ap (λ s. with_member s c.args.vrp) (c.loop-record.invariant ∙ ap (λ l. set_of l) (take_all c.loop-record.record-index c.args.list.now c.loop-record-test.false))
