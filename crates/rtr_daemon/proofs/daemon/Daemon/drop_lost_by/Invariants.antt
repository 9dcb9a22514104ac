-- So far the service went on, the queue is as it was, only clients have changed, and the lost ones before the next token are closed.
use Rattle.std.proofs.Common.{◌≡◌}
use Rattle.rtr_daemon.specs.Due.{OnlyClients}
use Rattle.rtr_daemon.specs.Losing.{unless_lost}
use Rattle.rtr_daemon.specs.Serving.{Continues}
use Rattle.rtr_daemon.proofs.OverdueLaws.{ChangesBefore}
use Rattle.rtr_daemon.proofs.WakeLaws.{left_from}
use Rattle.rtr_daemon.proofs.daemon.Daemon.drop_lost_by.Given as goal

abbrev pub invariant-loop-at : goal.invariant-loop-at
invariant-loop-at g l = record {
  goes : Continues g.S.VersionStore.holds g.T.Stream.remaining g.T.Stream.contents l.initial.self.service l.self.service;
  rest : OnlyClients l.initial.self l.self;
  queue : l.self.clients.queue ≡ l.initial.self.clients.queue;
  closed : ChangesBefore (unless_lost l.lines l.now l.initial.self.plan.stall) l.initial.self.clients l.self.clients l.at;
}

abbrev pub decreases-loop-at : goal.decreases-loop-at
decreases-loop-at g l = left_from l.at
