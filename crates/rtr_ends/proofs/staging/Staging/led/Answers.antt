use Rattle.rtr_ends.proofs.StagingLaws.{leads_from, leads_from_nothing}
use Rattle.rtr_ends.proofs.staging.Staging.led.Goals as goal

pub returns-in-Reset : goal.returns-in-Reset
returns-in-Reset c = rw c.in-Reset.is (λ b st. leads_from_nothing b c.args.self c.lead_from_nothing.result c.lead_from_nothing.ensures.ok (c.lead_from_nothing.ensures.too_many b st) st)

pub returns-in-Serial : goal.returns-in-Serial
returns-in-Serial c = rw c.in-Serial.is (λ b st. leads_from c.args.table.now b c.args.self c.lead.result c.lead.ensures.ok (c.lead.ensures.too_many b st) st)
