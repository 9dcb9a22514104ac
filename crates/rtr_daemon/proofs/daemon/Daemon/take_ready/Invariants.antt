-- So far the service is as it was, only clients have changed, and those that are ready are queued.
use Rattle.std.proofs.Common.{◌≡◌}
use Rattle.rtr_daemon.specs.Due.{OnlyAdmitted}
use Rattle.rtr_daemon.proofs.ReadyLaws.{ReadySoFar}
use Rattle.rtr_daemon.proofs.daemon.Daemon.take_ready.Given as goal

abbrev pub invariant-loop-ready : goal.invariant-loop-ready
invariant-loop-ready g l = record {
  service : l.self.service ≡ l.initial.self.service;
  rest : OnlyAdmitted l.initial.self l.self;
  so_far : ReadySoFar g.W.Sockets.calls l.initial.env l.initial.self.clients l.initial.self.listeners.listeners.items l.self.clients l.self.listeners.listeners.items l.env l._ready;
}
