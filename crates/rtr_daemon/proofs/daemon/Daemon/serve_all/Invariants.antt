-- So far the service went on, only clients have changed, and those at the front of the queue had their turns.
use Rattle.std.proofs.Common.{drop, take}
use Rattle.rtr_daemon.specs.Due.{OnlyClients}
use Rattle.rtr_daemon.specs.Queue.{QueuesBehind, ServesEach}
use Rattle.rtr_daemon.specs.Serving.{Continues}
use Rattle.rtr_daemon.proofs.daemon.Daemon.serve_all.Given as goal

abbrev pub invariant-loop-client : goal.invariant-loop-client
invariant-loop-client g l = record {
  goes : Continues g.S.VersionStore.holds g.T.Stream.remaining g.T.Stream.contents l.initial.self.service l.self.service;
  rest : OnlyClients l.initial.self l.self;
  turns : ServesEach g.W.Time.can_tick g.S.VersionStore.holds g.T.Stream.remaining g.T.Stream.contents g.T.Stream.answers (take l._client l.initial.self.clients.queue.items) l.initial.self l.self;
  queue : QueuesBehind (drop l._client l.initial.self.clients.queue.items) l.self.clients;
}
