-- So far the service went on, only clients and listeners have changed, the queue has grown at its end, clients have come, and the listener was asked.
use Rattle.std.proofs.Common.{◌≡◌}
use Rattle.std.specs.Prelude.{Some, slice_get}
use Rattle.rtr_daemon.specs.Due.{OnlyAdmitted}
use Rattle.rtr_daemon.specs.Newcomers.{AddsAccepted}
use Rattle.rtr_daemon.specs.Queue.{QueuesBehind}
use Rattle.rtr_daemon.specs.Serving.{Continues}
use Rattle.rtr_daemon.specs.declared.accepting.Listener.{Listener}
use Rattle.rtr_daemon.proofs.AcceptLaws.{Asking}
use Rattle.rtr_daemon.proofs.daemon.Daemon.accept_from.Given as goal

abbrev pub invariant-loop-connection : goal.invariant-loop-connection
invariant-loop-connection g l = record {
  goes : Continues g.S.VersionStore.holds g.T.Stream.remaining g.T.Stream.contents l.initial.self.service l.self.service;
  rest : OnlyAdmitted l.initial.self l.self;
  queue : QueuesBehind l.initial.self.clients.queue.items l.self.clients;
  clients : AddsAccepted g.W.Sockets.calls g.W.Time.can_tick l.initial.self.clients l.self.clients;
  asking : (first : Listener) → slice_get l.initial.self.listeners.listeners.items l.listener ≡ Some first → Asking g.W.Sockets.calls g.W.Time.can_tick l.listener l.initial.self.listeners.listeners.items l.self.listeners.listeners.items l._connection first;
}
