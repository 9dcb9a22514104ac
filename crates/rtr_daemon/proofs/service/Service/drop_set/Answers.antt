use Rattle.std.proofs.Common.{refl, ◌∙◌}
use Rattle.std.specs.Prelude.{true}
use Rattle.rtr_daemon.proofs.ServiceLaws.{pending_on}
use Rattle.rtr_daemon.proofs.service.Service.drop_set.Goals as goal

pub returns-clause-goes : goal.returns-clause-goes
returns-clause-goes g c =
    pending_on g.S.VersionStore.holds g.T.Stream.remaining g.T.Stream.contents c.args.self.now (record c.args.self.now { sources = c.drop_set.new.self; is_pending = true }) refl refl refl refl
    (λ none e. c.drop_set.ensures.rest.1 ∙ none e) (λ p h. h)
