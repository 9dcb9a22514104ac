use Rattle.rtr_ends.specs.Router.{Configures}
use Rattle.rtr_ends.proofs.RouterSteps.{configures_shown, leads_on}
use Rattle.rtr_ends.proofs.router.Router.configure.Goals as goal

pub returns-clause-calls : goal.returns-clause-calls
returns-clause-calls c r s = configures_shown c.args.self.now r c.args.config s

pub returns-clause-leads : goal.returns-clause-leads
returns-clause-leads c = leads_on (Configures c.args.config) c.args.self.now _ (λ r s. configures_shown c.args.self.now r c.args.config s)
