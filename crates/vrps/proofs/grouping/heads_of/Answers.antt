use Rattle.std.proofs.Common.{◌∙◌}
use Rattle.vrps.proofs.Headed.{first_prefix, may_follow, next_head}
use Rattle.vrps.proofs.JudgingRoutes.{first_payload}
use Rattle.vrps.proofs.grouping.heads_of.Goals as goal

pub push-requires : goal.push-requires
push-requires c =
    may_follow c.args.records.now c.args.starts.now c.requires c.loop-start.start-index c.loop-start.heads c.prefix.result first_payload c.loop-start-test.true c.loop-start.invariant
    (c.prefix.ensures.value ∙ first_prefix c.args.records.now c.args.starts.now c.requires c.loop-start.start-index c.index-records-start.result first_payload c.loop-start-test.true c.index-records-start.is)

pub loop-start-preserved : goal.loop-start-preserved
loop-start-preserved c =
    next_head c.args.records.now c.args.starts.now c.loop-start.start-index _ _ c.prefix.result c.loop-start.invariant c.in_ok-push.ensures
    (λ d. c.prefix.ensures.value ∙ first_prefix c.args.records.now c.args.starts.now c.requires c.loop-start.start-index c.index-records-start.result d c.loop-start-test.true c.index-records-start.is)
