use Rattle.std.proofs.Common.{refl}
use Rattle.rtr_ends.specs.Router.{Ticks}
use Rattle.rtr_ends.proofs.RouterSteps.{leads_on, ticks_shown}
use Rattle.rtr_ends.proofs.router.Router.tick.Goals as goal

pub returns-clause-calls : goal.returns-clause-calls
returns-clause-calls c r s = ticks_shown c.args.self.now _ c.args.now r s (c.tick.ensures r s.machine) refl

pub returns-clause-leads : goal.returns-clause-leads
returns-clause-leads c = leads_on (Ticks c.args.now) c.args.self.now _ (λ r s. ticks_shown c.args.self.now _ c.args.now r s (c.tick.ensures r s.machine) refl)
