use Rattle.rtr_daemon.proofs.ServiceLaws.{served_on, server_on}
use Rattle.rtr_daemon.proofs.service.Service.serve.Goals as goal

pub returns-clause-goes : goal.returns-clause-goes
returns-clause-goes g c =
    server_on g.S.VersionStore.holds g.T.Stream.remaining g.T.Stream.contents c.args.self.now c.serve.new.self
    (λ p is. served_on g.S.VersionStore.holds g.T.Stream.remaining g.T.Stream.contents p c.args.client.0.0 c.serve.result c.serve.new.self (c.serve.ensures.past p is))
