-- So far each listener at which a connection may be pending is tried by this time.
use Rattle.std.proofs.Common.{take}
use Rattle.rtr_daemon.specs.Accepting.{AreTriedBy}
use Rattle.rtr_daemon.proofs.accepting.Listeners.next_try.Given as goal

abbrev pub invariant-loop-listener : goal.invariant-loop-listener
invariant-loop-listener l = AreTriedBy l.next (take l.listener-index l.self.listeners.items)
