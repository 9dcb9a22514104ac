use Rattle.std.proofs.Common.{◌∙◌, refl, subst}
use Rattle.rtr_daemon.proofs.DueLaws.{admitted_on}
use Rattle.rtr_daemon.proofs.ReadyLaws.{ready_more, ready_none}
use Rattle.rtr_daemon.proofs.daemon.Daemon.take_ready.Goals as goal

pub loop-ready-init : goal.loop-ready-init
loop-ready-init g c = record { service = refl; rest = refl; so_far = ready_none g.W.Sockets.calls c.args.env.now c.args.self.now.clients c.args.self.now.listeners.listeners.items }

pub loop-ready-preserved : goal.loop-ready-preserved
loop-ready-preserved g c = record {
  service = c.note_ready.ensures.service ∙ c.loop-ready.invariant.service;
  rest = admitted_on c.args.self.now c.loop-ready.self c.note_ready.new.self c.loop-ready.invariant.rest c.note_ready.ensures.rest;
  so_far =
      ready_more g.W.Sockets.calls c.args.env.now c.args.self.now.clients c.loop-ready.self.clients c.note_ready.new.self.clients c.args.self.now.listeners.listeners.items c.loop-ready.self.listeners.listeners.items c.note_ready.new.self.listeners.listeners.items c.loop-ready.env c.next.new.self c.loop-ready._ready c.in-Some.ready c.loop-ready.invariant.so_far
      (subst (λ next. g.W.Sockets.calls.tells c.loop-ready.env next c.next.new.self) c.in-Some.is c.next.ensures) c.note_ready.ensures.queues c.note_ready.ensures.heard;
}
