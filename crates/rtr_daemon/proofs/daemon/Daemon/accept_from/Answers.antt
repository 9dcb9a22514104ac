use Rattle.std.proofs.Common.{◌∙◌, [], refl, sym}
use Rattle.std.proofs.lemmas.List.{append-nil}
use Rattle.rtr_daemon.proofs.AcceptLaws.{asked_often, asked_out, asking_more, asking_none}
use Rattle.rtr_daemon.proofs.DueLaws.{admitted_on}
use Rattle.rtr_daemon.proofs.NewcomerLaws.{adds_none, adds_on}
use Rattle.rtr_daemon.proofs.ServiceLaws.{stays, then_on}
use Rattle.rtr_daemon.proofs.WakeLaws.{behind_on}
use Rattle.rtr_daemon.proofs.daemon.Daemon.accept_from.Goals as goal

pub loop-connection-init : goal.loop-connection-init
loop-connection-init g c = record {
  goes = stays g.S.VersionStore.holds g.T.Stream.remaining g.T.Stream.contents c.args.self.now.service;
  rest = refl;
  queue = ([], sym (append-nil c.args.self.now.clients.queue.items));
  clients = adds_none g.W.Sockets.calls g.W.Time.can_tick c.args.self.now.clients;
  asking = λ first is. asking_none g.W.Sockets.calls g.W.Time.can_tick c.args.listener c.args.self.now.listeners.listeners.items first is;
}

pub returns-then-not-can_accept-clause-asks : goal.returns-then-not-can_accept-clause-asks
returns-then-not-can_accept-clause-asks g c l is =
    asked_out g.W.Sockets.calls g.W.Time.can_tick c.args.listener c.args.self.now.listeners.listeners.items c.loop-connection.self.listeners.listeners.items c.loop-connection._connection c.millis.result l is c.loop-connection-test.true c.millis.ensures.ticks
    (sym c.can_accept.ensures ∙ c.if-not-can_accept.true) (c.loop-connection.invariant.asking l is)

pub returns-clause-asks : goal.returns-clause-asks
returns-clause-asks g c l is =
    asked_often g.W.Sockets.calls g.W.Time.can_tick c.args.listener c.args.self.now.listeners.listeners.items c.loop-connection.self.listeners.listeners.items c.loop-connection._connection l c.loop-connection-test.false (c.loop-connection.invariant.asking l is)

pub loop-connection-preserved : goal.loop-connection-preserved
loop-connection-preserved g c = record {
  goes = then_on g.S.VersionStore.holds g.T.Stream.remaining g.T.Stream.contents c.args.self.now.service c.loop-connection.self.service c.accept_one.new.self.service c.loop-connection.invariant.goes c.accept_one.ensures.goes;
  rest = admitted_on c.args.self.now c.loop-connection.self c.accept_one.new.self c.loop-connection.invariant.rest c.accept_one.ensures.rest;
  queue = behind_on c.args.self.now.clients.queue.items c.loop-connection.self.clients c.accept_one.new.self.clients c.loop-connection.invariant.queue c.accept_one.ensures.queue;
  clients =
      adds_on g.W.Sockets.calls g.W.Time.can_tick c.args.self.now.clients c.loop-connection.self.clients c.accept_one.new.self.clients c.loop-connection.invariant.clients c.accept_one.ensures.clients c.accept_one.ensures.queue;
  asking = λ first is.
      asking_more g.W.Sockets.calls g.W.Time.can_tick c.args.listener c.args.self.now.listeners.listeners.items c.loop-connection.self.listeners.listeners.items c.accept_one.new.self.listeners.listeners.items c.loop-connection._connection c.millis.result first is
      c.loop-connection-test.true c.millis.ensures.ticks (sym c.can_accept.ensures ∙ c.if-not-can_accept.false) c.accept_one.ensures.asks (c.loop-connection.invariant.asking first is);
}
