use Rattle.std.proofs.Common.{ap, arith, subst}
use Rattle.rtr_daemon.specs.Accepting.{AsksEach}
use Rattle.rtr_daemon.specs.Newcomers.{AddsAccepted}
use Rattle.rtr_daemon.specs.Queue.{QueuesBehind}
use Rattle.rtr_daemon.specs.Serving.{Continues}
use Rattle.rtr_daemon.proofs.AcceptLaws.{asked_all, asked_more}
use Rattle.rtr_daemon.proofs.DueLaws.{admitted_on, resumed_only}
use Rattle.rtr_daemon.proofs.NewcomerLaws.{adds_on}
use Rattle.rtr_daemon.proofs.ServiceLaws.{then_on}
use Rattle.rtr_daemon.proofs.WakeLaws.{behind_on}
use Rattle.rtr_daemon.proofs.daemon.Daemon.accept_pending.Goals as goal

pub loop-listener-preserved : goal.loop-listener-preserved
loop-listener-preserved g c = record {
  goes = then_on g.S.VersionStore.holds g.T.Stream.remaining g.T.Stream.contents c.resume.new.self.service c.loop-listener.self.service c.accept_from.new.self.service c.loop-listener.invariant.goes c.accept_from.ensures.goes;
  rest = admitted_on c.resume.new.self c.loop-listener.self c.accept_from.new.self c.loop-listener.invariant.rest c.accept_from.ensures.rest;
  queue = behind_on c.resume.new.self.clients.queue.items c.loop-listener.self.clients c.accept_from.new.self.clients c.loop-listener.invariant.queue c.accept_from.ensures.queue;
  clients =
      adds_on g.W.Sockets.calls g.W.Time.can_tick c.resume.new.self.clients c.loop-listener.self.clients c.accept_from.new.self.clients c.loop-listener.invariant.clients c.accept_from.ensures.clients c.accept_from.ensures.queue;
  asked =
      asked_more g.W.Sockets.calls g.W.Time.can_tick c.resume.new.self.listeners.listeners.items c.loop-listener.self.listeners.listeners.items c.accept_from.new.self.listeners.listeners.items c.loop-listener.listener
      (omega (arith, c.loop-listener-test.true, c.len-listener-end.ensures)) c.accept_from.ensures.asks c.loop-listener.invariant.asked;
}

pub returns-clause-goes : goal.returns-clause-goes
returns-clause-goes g c =
    subst (λ s. Continues g.S.VersionStore.holds g.T.Stream.remaining g.T.Stream.contents s c.loop-listener.self.service) (ap (λ d. d.service) c.resume.ensures.rest) c.loop-listener.invariant.goes

pub returns-clause-rest : goal.returns-clause-rest
returns-clause-rest g c = admitted_on c.args.self.now c.resume.new.self c.loop-listener.self (resumed_only c.args.self.now c.resume.new.self c.resume.ensures.rest) c.loop-listener.invariant.rest

pub returns-clause-queue : goal.returns-clause-queue
returns-clause-queue g c = subst (λ t. QueuesBehind t.queue.items c.loop-listener.self.clients) (ap (λ d. d.clients) c.resume.ensures.rest) c.loop-listener.invariant.queue

pub returns-clause-clients : goal.returns-clause-clients
returns-clause-clients g c = subst (λ t. AddsAccepted g.W.Sockets.calls g.W.Time.can_tick t c.loop-listener.self.clients) (ap (λ d. d.clients) c.resume.ensures.rest) c.loop-listener.invariant.clients

pub returns-clause-asks : goal.returns-clause-asks
returns-clause-asks g c = λ ready.
    subst (λ ls. AsksEach g.W.Sockets.calls g.W.Time.can_tick ls c.loop-listener.self.listeners.listeners.items) c.resume.ensures.items
    (asked_all g.W.Sockets.calls g.W.Time.can_tick c.resume.new.self.listeners.listeners.items c.loop-listener.self.listeners.listeners.items c.loop-listener.listener (omega (arith, c.loop-listener-test.false, c.len-listener-end.ensures)) c.loop-listener.invariant.asked)
