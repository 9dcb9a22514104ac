-- So far the service went on, only clients and listeners have changed, the queue has grown at its end, clients have come, and the listeners before this one were asked.
use Rattle.rtr_daemon.specs.Due.{OnlyAdmitted}
use Rattle.rtr_daemon.specs.Newcomers.{AddsAccepted}
use Rattle.rtr_daemon.specs.Queue.{QueuesBehind}
use Rattle.rtr_daemon.specs.Serving.{Continues}
use Rattle.rtr_daemon.proofs.AcceptLaws.{AskedBefore}
use Rattle.rtr_daemon.proofs.daemon.Daemon.accept_pending.Given as goal

abbrev pub invariant-loop-listener : goal.invariant-loop-listener
invariant-loop-listener g l = record {
  goes : Continues g.S.VersionStore.holds g.T.Stream.remaining g.T.Stream.contents l.initial.self.service l.self.service;
  rest : OnlyAdmitted l.initial.self l.self;
  queue : QueuesBehind l.initial.self.clients.queue.items l.self.clients;
  clients : AddsAccepted g.W.Sockets.calls g.W.Time.can_tick l.initial.self.clients l.self.clients;
  asked : AskedBefore g.W.Sockets.calls g.W.Time.can_tick l.initial.self.listeners.listeners.items l.self.listeners.listeners.items l.listener;
}
