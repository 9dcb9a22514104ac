use Rattle.std.proofs.Common.{arith}
use Rattle.rtr_daemon.proofs.WaitingLaws.{covered_removed}
use Rattle.rtr_daemon.proofs.WakeLaws.{unqueued_removed}
use Rattle.rtr_daemon.proofs.client_table.ClientTable.remove.Goals as goal

pub invariant_of-self-clause-room : goal.invariant_of-self-clause-room
invariant_of-self-clause-room c =
    let fewer = unqueued_removed c.args.self.now.by_token c.remove.new.self c.args.token c.remove.ensures.entries in
    let room = c.args.self.now.room in
    omega (arith, fewer, room)

pub invariant_of-self-clause-covered : goal.invariant_of-self-clause-covered
invariant_of-self-clause-covered c = covered_removed c.args.self.now.waiting c.args.self.now.by_token c.remove.new.self c.args.token c.remove.ensures.updates.0 c.args.self.now.covered
