-- So far the service went on, only clients have changed, and those before the next token are closed.
use Rattle.std.proofs.Common.{◌≡◌}
use Rattle.rtr_daemon.specs.Due.{OnlyClients}
use Rattle.rtr_daemon.specs.Serving.{Continues}
use Rattle.rtr_daemon.proofs.DroppingLaws.{to_none}
use Rattle.rtr_daemon.proofs.OverdueLaws.{ChangesBefore}
use Rattle.rtr_daemon.proofs.WakeLaws.{left_from}
use Rattle.rtr_daemon.proofs.daemon.Daemon.close_all.Given as goal

abbrev pub invariant-loop-at : goal.invariant-loop-at
invariant-loop-at g l = record {
  goes : Continues g.S.VersionStore.holds g.T.Stream.remaining g.T.Stream.contents l.initial.self.service l.self.service;
  rest : OnlyClients l.initial.self l.self;
  closed : ChangesBefore to_none l.initial.self.clients l.self.clients l.at;
  queue : l.self.clients.queue ≡ l.initial.self.clients.queue;
  failure : l.self.statistics.failure ≡ l.initial.self.statistics.failure;
}

abbrev pub decreases-loop-at : goal.decreases-loop-at
decreases-loop-at g l = left_from l.at
