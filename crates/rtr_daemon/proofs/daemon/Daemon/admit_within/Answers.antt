use Rattle.rtr_daemon.proofs.ServiceLaws.{then_on}
use Rattle.rtr_daemon.proofs.daemon.Daemon.admit_within.Goals as goal

pub returns-then-is_err-clause-goes : goal.returns-then-is_err-clause-goes
returns-then-is_err-clause-goes g c =
    then_on g.S.VersionStore.holds g.T.Stream.remaining g.T.Stream.contents c.args.self.now.service c.admit.new.self c.drop_client.new.self c.admit.ensures.goes c.drop_client.ensures.goes
