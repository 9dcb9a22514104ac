use Rattle.std.proofs.Common.{sym, ◌∙◌}
use Rattle.rtr_ends.proofs.StagingLaws.{twice_withdrawn, lacks_withdrawn, stays_withdrawn, was_new, was_there}
use Rattle.rtr_ends.proofs.staging.Staging.withdraw.Goals as goal

pub returns-in-Ok-true : goal.returns-in-Ok-true
returns-in-Ok-true c most base b st is =
    stays_withdrawn most base b c.args.vrp.now c.args.self.now st _ _ (sym is ∙ c.if-not-in_base.false) (was_new _ _ c.in-Ok-true.ensures.added c.in-Ok-true.field-0-test) c.in-Ok-true.ensures.ok c.saturating_sub-self.ensures

pub returns-in-Ok-false : goal.returns-in-Ok-false
returns-in-Ok-false c most base b st is =
    twice_withdrawn most base b c.args.vrp.now c.args.self.now st _ (was_there _ _ c.in-Ok-false.ensures.added c.in-Ok-false.field-0-test)

pub returns-in-Err : goal.returns-in-Err
returns-in-Err c most base b st is =
    lacks_withdrawn most base b c.args.vrp.now c.args.self.now st _ (sym is ∙ c.if-not-in_base.false) c.in-Err.ensures.err.1
