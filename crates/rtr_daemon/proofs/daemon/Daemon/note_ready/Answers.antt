use Rattle.std.proofs.Common.{[], ◌∷◌, ◌∙◌, ap, subst, sym}
use Rattle.rtr_daemon.specs.Accepting.{noted}
use Rattle.rtr_daemon.specs.Readiness.{QueuesReady}
use Rattle.rtr_daemon.proofs.ReadyLaws.{queues_connection, queues_listener}
use Rattle.rtr_daemon.proofs.daemon.Daemon.note_ready.Goals as goal

pub returns-in-Listener-clause-queues : goal.returns-in-Listener-clause-queues
returns-in-Listener-clause-queues g c =
    let table = c.args.self.now.clients in
    subst (λ ready. QueuesReady (ready ∷ []) table table) (sym c.in-Listener.is) (queues_listener c.in-Listener.listener table)

pub returns-in-Connection-clause-queues : goal.returns-in-Connection-clause-queues
returns-in-Connection-clause-queues g c =
    let table = c.args.self.now.clients in
    subst (λ ready. QueuesReady (ready ∷ []) table c.wake.new.self) (sym c.in-Connection.is) (queues_connection c.in-Connection.token table c.wake.new.self c.wake.ensures.clients c.wake.ensures.queue c.wake.ensures.woken)

pub returns-in-Listener-clause-heard : goal.returns-in-Listener-clause-heard
returns-in-Listener-clause-heard g c = c.note.ensures.items ∙ ap (λ ready. noted ready c.args.self.now.listeners.listeners.items) (sym c.in-Listener.is)

pub returns-in-Connection-clause-heard : goal.returns-in-Connection-clause-heard
returns-in-Connection-clause-heard g c = ap (λ ready. noted ready c.args.self.now.listeners.listeners.items) (sym c.in-Connection.is)
