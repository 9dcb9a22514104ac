use Rattle.std.proofs.Common.{◌∙◌, refl, true}
use Rattle.rtr_daemon.proofs.ServiceLaws.{pending_on, same_on}
use Rattle.rtr_daemon.proofs.service.Service.take_export_within.Goals as goal

pub returns-in_err-expired-clause-goes : goal.returns-in_err-expired-clause-goes
returns-in_err-expired-clause-goes g c =
    same_on g.S.VersionStore.holds g.T.Stream.remaining g.T.Stream.contents c.args.self.now c.take_export_within.new.self
    (record { lists = c.in_err-expired.ensures.lists.1; exceptions = c.in_err-expired.ensures.rest.0; repository = c.in_err-expired.ensures.rest.1; settings = c.in_err-expired.ensures.rest.2 })

pub returns-clause-goes : goal.returns-clause-goes
returns-clause-goes g c =
    pending_on g.S.VersionStore.holds g.T.Stream.remaining g.T.Stream.contents c.args.self.now (record c.args.self.now { sources = c.take_export_within.new.self; is_pending = true }) refl refl refl refl
    (λ none e. c.in_ok-expired.ensures.rest.1 ∙ none e) (λ p h. h)
