use Rattle.rtr_ends.specs.Router.{Speaks}
use Rattle.rtr_ends.proofs.RouterSteps.{leads_on, speaks_shown}
use Rattle.rtr_ends.proofs.router.Router.speak.Goals as goal

pub returns-clause-calls : goal.returns-clause-calls
returns-clause-calls c r s = speaks_shown c.args.self.now r c.args.version s

pub returns-clause-leads : goal.returns-clause-leads
returns-clause-leads c = leads_on (Speaks c.args.version) c.args.self.now _ (λ r s. speaks_shown c.args.self.now r c.args.version s)
