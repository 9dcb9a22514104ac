use Rattle.rtr_ends.proofs.Words.{refl, subst, subst₂, Ok, Err, Prefix}
use Rattle.rtr_ends.specs.Staging.{GoesTo}
use Rattle.rtr_ends.proofs.MachineCells.{refused_staged, stays_staged, wrong_staged}
use Rattle.rtr_ends.proofs.machine.Machine.stage.Goals as goal

pub returns-in-Ok-Stays : goal.returns-in-Ok-Stays
returns-in-Ok-Stays c session is =
    stays_staged c.args.self.now c.args.question session is c.args.announce c.args.vrp.now (Prefix c.args.announce c.args.vrp.now) refl c.is_in_base-in_base.result c.is_in_base-in_base.ensures _
    (λ base b st k. subst₂ (λ m x. GoesTo m base b c.args.announce c.args.vrp.now (Ok x) c.take.new.self) c.limit-most.ensures.limit c.in-Ok-Stays.field-0-is (c.in-Ok-Stays.ensures base b c.limit-most.ensures.fits st k))

pub returns-in-Ok-Wrong : goal.returns-in-Ok-Wrong
returns-in-Ok-Wrong c session is =
    wrong_staged c.args.self.now c.args.question session is c.args.announce c.args.vrp.now (Prefix c.args.announce c.args.vrp.now) refl c.is_in_base-in_base.result c.is_in_base-in_base.ensures _ _ _
    (λ base b st k. subst₂ (λ m x. GoesTo m base b c.args.announce c.args.vrp.now (Ok x) c.take.new.self) c.limit-most.ensures.limit c.in-Ok-Wrong.field-0-is (c.in-Ok-Wrong.ensures base b c.limit-most.ensures.fits st k)) c.send_prefix_report.ensures

pub returns-in-Err : goal.returns-in-Err
returns-in-Err c session is =
    refused_staged c.args.self.now c.args.question session is c.args.announce c.args.vrp.now (Prefix c.args.announce c.args.vrp.now) refl c.is_in_base-in_base.result c.is_in_base-in_base.ensures _ _
    (λ base b st k. subst (λ m. GoesTo m base b c.args.announce c.args.vrp.now (Err c.in-Err.fault) c.take.new.self) c.limit-most.ensures.limit (c.in-Err.ensures base b c.limit-most.ensures.fits st k))
