use Rattle.std.proofs.Common.{◌≡◌, subst, sym}
use Rattle.rtr_daemon.specs.Serving.{GoesOn, IsOfSecond}
use Rattle.rtr_daemon.proofs.ServiceLaws.{issued_on}
use Rattle.rtr_daemon.proofs.service.Service.publish_paced.Goals as goal

pub returns-in-Ok-clause-goes : goal.returns-in-Ok-clause-goes
returns-in-Ok-clause-goes g c =
    subst (λ s. GoesOn (λ at. at ≡ c.args.now) g.S.VersionStore.holds g.T.Stream.remaining g.T.Stream.contents c.args.self.now s) (sym c.note_second.ensures.rest)
    (issued_on g.S.VersionStore.holds g.T.Stream.remaining g.T.Stream.contents c.args.self.now (record c.publish.new.self { pace = c.note_second.new.self.pace }) c.args.now c.args.second c.in-Ok.report.published
    c.in-Ok.ensures.issues c.in-Ok.ensures.sources c.in-Ok.ensures.at c.in-Ok.ensures.points c.in-Ok.ensures.settings.0 c.in-Ok.ensures.settings.1 (sym c.if-not-may_publish.ensures)
    (subst (λ last. IsOfSecond c.in-Ok.report.published c.args.second last c.note_second.new.self.pace) c.in-Ok.ensures.pace c.note_second.ensures.pace))

pub returns-in-Ok-clause-pace : goal.returns-in-Ok-clause-pace
returns-in-Ok-clause-pace g c = subst (λ last. IsOfSecond c.in-Ok.report.published c.args.second last c.note_second.new.self.pace) c.in-Ok.ensures.pace c.note_second.ensures.pace
