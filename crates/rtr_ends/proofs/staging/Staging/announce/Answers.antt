use Rattle.std.proofs.Common.{sym, ◌∙◌, refl, arith}
use Rattle.rtr_ends.proofs.StagingLaws.{twice_announced, over_announced, lacks_announced, stays_announced, was_new, was_there}
use Rattle.rtr_ends.proofs.staging.Staging.announce.Goals as goal

pub returns-then-contains : goal.returns-then-contains
returns-then-contains c base b few st is = twice_announced c.args.most base b c.args.vrp.now c.args.self.now st c.args.self.now (sym c.contains.ensures ∙ c.if-contains.true)

pub returns-then-self-most : goal.returns-then-self-most
returns-then-self-most c base b few st is =
    over_announced c.args.most base b c.args.vrp.now c.args.self.now st (sym is ∙ c.if-in_base.false) (sym c.contains.ensures ∙ c.if-contains.false) _ c.if-self-most.true

pub returns-in-Ok-true : goal.returns-in-Ok-true
returns-in-Ok-true c base b few st is =
    stays_announced c.args.most base b c.args.vrp.now c.args.self.now st (sym is ∙ c.if-in_base.false) (was_new _ _ c.in-Ok-true.ensures.added c.in-Ok-true.field-0-test) _ _ few (omega (arith, c.if-self-most.false)) c.in-Ok-true.ensures.ok refl

pub returns-in-Ok-false : goal.returns-in-Ok-false
returns-in-Ok-false c base b few st is = twice_announced c.args.most base b c.args.vrp.now c.args.self.now st _ (was_there _ _ c.in-Ok-false.ensures.added c.in-Ok-false.field-0-test)

pub returns-in-Err : goal.returns-in-Err
returns-in-Err c base b few st is = lacks_announced c.args.most base b c.args.vrp.now c.args.self.now st (sym is ∙ c.if-in_base.false) c.in-Err.ensures.err.1 _ (omega (arith, c.if-self-most.false))
