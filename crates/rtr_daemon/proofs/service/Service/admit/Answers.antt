use Rattle.rtr_daemon.proofs.ServiceLaws.{admitted_on, server_on}
use Rattle.rtr_daemon.proofs.service.Service.admit.Goals as goal

pub returns-clause-goes : goal.returns-clause-goes
returns-clause-goes g c =
    server_on g.S.VersionStore.holds g.T.Stream.remaining g.T.Stream.contents c.args.self.now c.admit.new.self
    (λ p is. admitted_on g.S.VersionStore.holds g.T.Stream.remaining g.T.Stream.contents p c.args.stream c.admit.result c.args.self.now.server c.admit.new.self is (c.admit.ensures.admits p is))
