use Rattle.rtr_ends.specs.Router.{Closes}
use Rattle.rtr_ends.proofs.RouterSteps.{closes_shown, leads_on}
use Rattle.rtr_ends.proofs.router.Router.closed.Goals as goal

pub returns-clause-calls : goal.returns-clause-calls
returns-clause-calls c r s = closes_shown c.args.self.now _ c.args.now r s (c.closed.ensures r s.machine)

pub returns-clause-leads : goal.returns-clause-leads
returns-clause-leads c = leads_on (Closes c.args.now) c.args.self.now _ (λ r s. closes_shown c.args.self.now _ c.args.now r s (c.closed.ensures r s.machine))
