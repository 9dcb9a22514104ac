use Rattle.rtr_daemon.proofs.ServiceLaws.{dropped_on, server_on}
use Rattle.rtr_daemon.proofs.service.Service.drop_client.Goals as goal

pub returns-clause-goes : goal.returns-clause-goes
returns-clause-goes g c =
    server_on g.S.VersionStore.holds g.T.Stream.remaining g.T.Stream.contents c.args.self.now c.drop_client.new.self
    (λ p is. dropped_on g.S.VersionStore.holds g.T.Stream.remaining g.T.Stream.contents p c.args.client.0.0 c.drop_client.new.self (c.drop_client.ensures.past p is))
