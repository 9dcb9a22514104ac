use Rattle.std.proofs.Common.{◌∙◌, ap, refl, subst, sym}
use Rattle.rtr_daemon.specs.SocketCalls.{Came, TryAgain, accepted_as}
use Rattle.rtr_daemon.proofs.AcceptLaws.{set_self}
use Rattle.rtr_daemon.proofs.NewcomerLaws.{accepted_one}
use Rattle.rtr_daemon.proofs.daemon.Daemon.accept_one.Goals as goal

pub returns-in-Connection-clause-asks : goal.returns-in-Connection-clause-asks
returns-in-Connection-clause-asks g c l is = (
  Came c.in-Connection.token,
  (c.args.env.now, c.accept.new.self, subst (λ r. g.W.Sockets.calls.accepts c.args.env.now c.args.listener (accepted_as r) c.accept.new.self) c.in-Connection.is c.accept.ensures),
  l,
  refl,
  ap (λ d. d.listeners.listeners.items) c.admit.ensures.rest ∙ sym (set_self c.args.self.now.listeners.listeners.items c.args.listener l is),
)

pub returns-in-Again-clause-asks : goal.returns-in-Again-clause-asks
returns-in-Again-clause-asks g c l is = (
  TryAgain,
  (c.args.env.now, c.accept.new.self, subst (λ r. g.W.Sockets.calls.accepts c.args.env.now c.args.listener (accepted_as r) c.accept.new.self) c.in-Again.is c.accept.ensures),
  l,
  refl,
  sym (set_self c.args.self.now.listeners.listeners.items c.args.listener l is),
)

pub returns-in-Connection-clause-clients : goal.returns-in-Connection-clause-clients
returns-in-Connection-clause-clients g c =
    accepted_one g.W.Sockets.calls g.W.Time.can_tick c.args.listener c.in-Connection.token c.args.self.now.clients c.admit.new.self.clients
    (c.args.env.now, c.accept.new.self, subst (λ r. g.W.Sockets.calls.accepts c.args.env.now c.args.listener (accepted_as r) c.accept.new.self) c.in-Connection.is c.accept.ensures)
    c.admit.ensures.adds
