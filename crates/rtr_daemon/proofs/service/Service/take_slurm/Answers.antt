use Rattle.std.proofs.Common.{◌∙◌, refl, true}
use Rattle.rtr_daemon.proofs.ServiceLaws.{pending_on}
use Rattle.rtr_daemon.proofs.service.Service.take_slurm.Goals as goal

pub returns-clause-goes : goal.returns-clause-goes
returns-clause-goes g c =
    pending_on g.S.VersionStore.holds g.T.Stream.remaining g.T.Stream.contents c.args.self.now (record c.args.self.now { sources = c.take_slurm.new.self; is_pending = true }) refl refl refl refl
    (λ none e. c.in_ok-take_slurm.ensures.rest.1 ∙ none e) (λ p h. h)
