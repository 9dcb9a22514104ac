use Rattle.std.proofs.Common.{ap, []}
use Rattle.rtr_ends.specs.RouterLink.{is_idle}
use Rattle.rtr_ends.specs.Seen.{seen_link}
use Rattle.rtr_ends.proofs.MachineCells.{asks_idle, asks_not}
use Rattle.rtr_ends.proofs.machine.Machine.ask_idle.Goals as goal

pub returns-in-Idle-clause-asks : goal.returns-in-Idle-clause-asks
returns-in-Idle-clause-asks c = asks_idle c.args.self.now _ c.in-Idle.is c.query.ensures

pub returns-in-Closed-clause-asks : goal.returns-in-Closed-clause-asks
returns-in-Closed-clause-asks c = asks_not c.args.self.now (ap (λ x. is_idle (seen_link x [] [])) c.in-Closed.is)

pub returns-in-Asked-clause-asks : goal.returns-in-Asked-clause-asks
returns-in-Asked-clause-asks c = asks_not c.args.self.now (ap (λ x. is_idle (seen_link x [] [])) c.in-Asked.is)

pub returns-in-Answering-clause-asks : goal.returns-in-Answering-clause-asks
returns-in-Answering-clause-asks c = asks_not c.args.self.now (ap (λ x. is_idle (seen_link x [] [])) c.in-Answering.is)

pub returns-in-Ended-clause-asks : goal.returns-in-Ended-clause-asks
returns-in-Ended-clause-asks c = asks_not c.args.self.now (ap (λ x. is_idle (seen_link x [] [])) c.in-Ended.is)
