use Rattle.rtr_ends.proofs.WakeLaws.{wakes}
use Rattle.rtr_ends.proofs.machine.Machine.wake_at.Goals as goal

pub returns : goal.returns
returns c =
    wakes c.args.self.now c.expires_at.result c.asks_at.result c.first.result (assumption c) c.expires_at.ensures c.asks_at.ensures c.first.ensures
