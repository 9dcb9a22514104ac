use Rattle.rtr_daemon.proofs.WaitingLaws.{known_covered}
use Rattle.rtr_daemon.proofs.client_table.ClientTable.waiting.Goals as goal

pub returns-clause-covers : goal.returns-clause-covers
returns-clause-covers c = known_covered c.args.self.now.waiting c.args.self.now c.args.self.now.covered
