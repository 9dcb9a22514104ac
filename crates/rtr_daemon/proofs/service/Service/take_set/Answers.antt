use Rattle.std.proofs.Common.{refl, true, ◌∙◌}
use Rattle.rtr_daemon.proofs.Reasons.{set_refused}
use Rattle.rtr_daemon.proofs.ServiceLaws.{pending_on, same_on}
use Rattle.rtr_daemon.proofs.service.Service.take_set.Goals as goal

pub returns-in_err-take_set-clause-goes : goal.returns-in_err-take_set-clause-goes
returns-in_err-take_set-clause-goes g c =
    same_on g.S.VersionStore.holds g.T.Stream.remaining g.T.Stream.contents c.args.self.now c.take_set.new.self
    (record { lists = set_refused c.args.set.now c.args.until c.args.list c.in_err-take_set.field-0.0 c.args.self.now.sources.lists.items c.take_set.new.self.lists.items c.in_err-take_set.ensures.lists; exceptions = c.in_err-take_set.ensures.rest.0; repository = c.in_err-take_set.ensures.rest.1; settings = c.in_err-take_set.ensures.rest.2 })

pub returns-clause-goes : goal.returns-clause-goes
returns-clause-goes g c =
    pending_on g.S.VersionStore.holds g.T.Stream.remaining g.T.Stream.contents c.args.self.now (record c.args.self.now { sources = c.take_set.new.self; is_pending = true }) refl refl refl refl
    (λ none e. c.in_ok-take_set.ensures.rest.1 ∙ none e) (λ p h. h)
