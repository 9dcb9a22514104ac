use Rattle.std.proofs.Common.{false, refl}
use Rattle.rtr_daemon.proofs.ServiceLaws.{issues}
use Rattle.rtr_daemon.proofs.service.Service.publish.Goals as goal

pub returns-in-Ok-clause-issues : goal.returns-in-Ok-clause-issues
returns-in-Ok-clause-issues g c =
    issues g.S.VersionStore.holds g.T.Stream.remaining g.T.Stream.contents c.args.self.now (record c.args.self.now { server = c.publish.new.self; families = c.of-families.result; is_pending = false; current_at = c.args.now }) c.args.now c.in_ok-set.field-0.set c.in-Ok.published c.in_ok-set.ensures.served refl c.of-families.ensures
    (λ p is. c.in-Ok.ensures.publishes p is)
