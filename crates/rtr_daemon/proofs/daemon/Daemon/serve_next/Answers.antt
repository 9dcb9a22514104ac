use Rattle.std.proofs.Common.{refl}
use Rattle.rtr_daemon.proofs.QueueLaws.{nobody_next, served_next}
use Rattle.rtr_daemon.proofs.daemon.Daemon.serve_next.Goals as goal

pub returns-in-Some-clause-turn : goal.returns-in-Some-clause-turn
returns-in-Some-clause-turn g c =
    served_next g.W.Time.can_tick g.S.VersionStore.holds g.T.Stream.remaining g.T.Stream.contents g.T.Stream.answers c.args.self.now.clients.queue.items c.in-Some.token c.in-Some.client c.args.self.now c.serve.new.self c.next.new.self refl
    c.in-Some.ensures c.serve.ensures.others c.serve.ensures.queue c.serve.ensures.turn

pub returns-in_default-clause-turn : goal.returns-in_default-clause-turn
returns-in_default-clause-turn g c = nobody_next g.W.Time.can_tick g.S.VersionStore.holds g.T.Stream.remaining g.T.Stream.contents g.T.Stream.answers c.args.self.now.clients.queue.items c.args.self.now c.next.new.self refl c.in_default.ensures
