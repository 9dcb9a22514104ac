use Rattle.std.proofs.Common.{ap, subst, sym}
use Rattle.rtr_daemon.specs.Serving.{GoesOn}
use Rattle.rtr_daemon.proofs.DueLaws.{postponed_by, published_fresh, published_kept, tried_due, woken_by}
use Rattle.rtr_daemon.proofs.ServiceLaws.{at_clock}
use Rattle.rtr_daemon.proofs.daemon.Daemon.publish_pending.Goals as goal

pub returns-in-None-clause-goes : goal.returns-in-None-clause-goes
returns-in-None-clause-goes g c = at_clock g.W.Time.can_be g.S.VersionStore.holds g.T.Stream.remaining g.T.Stream.contents c.args.self.now.service c.publish_paced.new.self c.seconds-now.result c.seconds-now.ensures c.publish_paced.ensures.goes

pub returns-in-Some-clause-goes : goal.returns-in-Some-clause-goes
returns-in-Some-clause-goes g c =
    subst (λ s. GoesOn g.W.Time.can_be g.S.VersionStore.holds g.T.Stream.remaining g.T.Stream.contents c.args.self.now.service s) (sym (ap (λ d. d.service) c.note_tried.ensures.rest))
    (at_clock g.W.Time.can_be g.S.VersionStore.holds g.T.Stream.remaining g.T.Stream.contents c.args.self.now.service c.publish_paced.new.self c.seconds-now.result c.seconds-now.ensures c.publish_paced.ensures.goes)

pub returns-in-Some-clause-due : goal.returns-in-Some-clause-due
returns-in-Some-clause-due g c =
    tried_due g.W.Time.can_be g.W.Time.can_tick c.args.self.now.held_until c.args.self.now c.note_tried.new.self c.publish_paced.new.self c.seconds-now.result c.millis-began.result c.in-Some.tried c.seconds-now.ensures c.millis-began.ensures.ticks c.publish_paced.ensures.sources c.in-Some.ensures.done c.in-Some.ensures.fails c.note_tried.ensures.rest c.note_tried.ensures.failed
    c.note_tried.ensures.published

pub returns-in-Some-clause-fresh : goal.returns-in-Some-clause-fresh
returns-in-Some-clause-fresh g c = λ fresh. published_fresh g.W.Time.can_be c.args.self.now c.note_tried.new.self c.publish_paced.new.self c.seconds-now.result c.seconds-now.ensures c.publish_paced.ensures.fresh c.note_tried.ensures.rest fresh

pub returns-in-Some-clause-kept : goal.returns-in-Some-clause-kept
returns-in-Some-clause-kept g c = published_kept c.args.self.now c.note_tried.new.self c.publish_paced.new.self c.publish_paced.ensures.sources c.publish_paced.ensures.settings c.note_tried.ensures.rest

pub returns-in-Some-clause-wakes : goal.returns-in-Some-clause-wakes
returns-in-Some-clause-wakes g c =
    woken_by c.args.self.now c.note_tried.new.self c.publish_paced.new.self c.paced-second.result c.in-Some.tried c.in-Some.ensures.pace c.note_tried.ensures.wakes c.note_tried.ensures.ready c.note_tried.ensures.unready c.note_tried.ensures.rest

pub returns-in-Some-clause-next : goal.returns-in-Some-clause-next
returns-in-Some-clause-next g c =
    postponed_by g.W.Time.can_tick c.args.self.now c.note_tried.new.self c.publish_paced.new.self c.millis-began.result c.paced-second.result c.in-Some.tried c.millis-began.ensures.ticks c.paced-second.ensures c.in-Some.ensures.pace c.note_tried.ensures.later c.note_tried.ensures.same c.note_tried.ensures.rest
