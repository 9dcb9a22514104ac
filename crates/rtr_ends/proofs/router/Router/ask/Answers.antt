use Rattle.std.proofs.Common.{ap, refl, []}
use Rattle.rtr_ends.specs.Router.{AsksNow}
use Rattle.rtr_ends.specs.RouterLink.{is_idle}
use Rattle.rtr_ends.specs.Seen.{seen_link}
use Rattle.rtr_ends.proofs.MachineCells.{asks_not}
use Rattle.rtr_ends.proofs.RouterSteps.{idle_shown, leads_on}
use Rattle.rtr_ends.proofs.router.Router.ask.Goals as goal

pub returns-in-Idle-clause-calls : goal.returns-in-Idle-clause-calls
returns-in-Idle-clause-calls c r s = idle_shown c.args.self.now _ r s (c.ask_idle-asks.ensures.asks r s.machine) refl

pub returns-in-Idle-clause-leads : goal.returns-in-Idle-clause-leads
returns-in-Idle-clause-leads c = leads_on AsksNow c.args.self.now _ (λ r s. idle_shown c.args.self.now _ r s (c.ask_idle-asks.ensures.asks r s.machine) refl)

pub returns-in-Asked-clause-calls : goal.returns-in-Asked-clause-calls
returns-in-Asked-clause-calls c r s = idle_shown c.args.self.now c.args.self.now r s (asks_not c.args.self.now.machine (ap (λ x. is_idle (seen_link x [] [])) c.in-Asked.is) r s.machine) refl

pub returns-in-Asked-clause-leads : goal.returns-in-Asked-clause-leads
returns-in-Asked-clause-leads c = leads_on AsksNow c.args.self.now c.args.self.now (λ r s. idle_shown c.args.self.now c.args.self.now r s (asks_not c.args.self.now.machine (ap (λ x. is_idle (seen_link x [] [])) c.in-Asked.is) r s.machine) refl)

pub returns-in-Answering-clause-calls : goal.returns-in-Answering-clause-calls
returns-in-Answering-clause-calls c r s = idle_shown c.args.self.now c.args.self.now r s (asks_not c.args.self.now.machine (ap (λ x. is_idle (seen_link x [] [])) c.in-Answering.is) r s.machine) refl

pub returns-in-Answering-clause-leads : goal.returns-in-Answering-clause-leads
returns-in-Answering-clause-leads c = leads_on AsksNow c.args.self.now c.args.self.now (λ r s. idle_shown c.args.self.now c.args.self.now r s (asks_not c.args.self.now.machine (ap (λ x. is_idle (seen_link x [] [])) c.in-Answering.is) r s.machine) refl)

pub returns-in-Closed-clause-calls : goal.returns-in-Closed-clause-calls
returns-in-Closed-clause-calls c r s = idle_shown c.args.self.now c.args.self.now r s (asks_not c.args.self.now.machine (ap (λ x. is_idle (seen_link x [] [])) c.in-Closed.is) r s.machine) refl

pub returns-in-Closed-clause-leads : goal.returns-in-Closed-clause-leads
returns-in-Closed-clause-leads c = leads_on AsksNow c.args.self.now c.args.self.now (λ r s. idle_shown c.args.self.now c.args.self.now r s (asks_not c.args.self.now.machine (ap (λ x. is_idle (seen_link x [] [])) c.in-Closed.is) r s.machine) refl)

pub returns-in-Ended-clause-calls : goal.returns-in-Ended-clause-calls
returns-in-Ended-clause-calls c r s = idle_shown c.args.self.now c.args.self.now r s (asks_not c.args.self.now.machine (ap (λ x. is_idle (seen_link x [] [])) c.in-Ended.is) r s.machine) refl

pub returns-in-Ended-clause-leads : goal.returns-in-Ended-clause-leads
returns-in-Ended-clause-leads c = leads_on AsksNow c.args.self.now c.args.self.now (λ r s. idle_shown c.args.self.now c.args.self.now r s (asks_not c.args.self.now.machine (ap (λ x. is_idle (seen_link x [] [])) c.in-Ended.is) r s.machine) refl)
