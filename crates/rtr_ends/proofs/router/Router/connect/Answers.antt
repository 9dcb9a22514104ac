use Rattle.rtr_ends.specs.Router.{Connects}
use Rattle.rtr_ends.proofs.RouterSteps.{connects_shown, leads_on}
use Rattle.rtr_ends.proofs.router.Router.connect.Goals as goal

pub returns-clause-calls : goal.returns-clause-calls
returns-clause-calls c r s = connects_shown c.args.self.now _ c.args.now r s (c.connect.ensures r s.machine) c.for_router-self.ensures

pub returns-clause-leads : goal.returns-clause-leads
returns-clause-leads c = leads_on (Connects c.args.now) c.args.self.now _ (λ r s. connects_shown c.args.self.now _ c.args.now r s (c.connect.ensures r s.machine) c.for_router-self.ensures)
