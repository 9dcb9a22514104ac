use Rattle.rtr_ends.specs.Router.{Pulls}
use Rattle.rtr_ends.proofs.RouterSteps.{leads_on, pulls_shown}
use Rattle.rtr_ends.proofs.router.Router.pull.Goals as goal

pub returns-clause-calls : goal.returns-clause-calls
returns-clause-calls c r s = pulls_shown c.args.self.now _ r _ (λ i. record (c.args.self.now) { machine = record (c.args.self.now.machine) { out = c.pull.ensures.rest i } }) s

pub returns-clause-leads : goal.returns-clause-leads
returns-clause-leads c =
    leads_on (Pulls _) c.args.self.now _ (λ r s. pulls_shown c.args.self.now _ r _ (λ i. record (c.args.self.now) { machine = record (c.args.self.now.machine) { out = c.pull.ensures.rest i } }) s)
