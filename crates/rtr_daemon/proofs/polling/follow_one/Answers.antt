use Rattle.std.proofs.Common.{ap, refl, subst, sym, ◌∙◌}
use Rattle.rtr_daemon.specs.Files.{Follows, mark_of}
use Rattle.rtr_daemon.specs.Shrinking.{percent_at}
use Rattle.rtr_daemon.proofs.ContentLaws.{mark_is}
use Rattle.rtr_daemon.proofs.polling.follow_one.Goals as goal

pub returns-clause-follows : goal.returns-clause-follows
returns-clause-follows g c =
    let before = c.args.export.now in
    let seconds = c.seconds-now.result in
    let millis = c.millis-millis.result in
    let old = c.args.service.now.sources in
    let polled = c.follow-polled.new.export in
    let new = c.follow-polled.new.service.sources in (
      seconds,
      millis,
      c.seconds-now.ensures,
      c.millis-millis.ensures.ticks,
      subst (λ mark. Follows g.W.Disk.answers (percent_at c.args.plan.shrink before.short_since millis) before seconds millis mark old new)
          (sym (ap mark_of c.note_anchors.ensures ∙ mark_is polled.short_since polled.short_since c.note_slow.new.self.loaded polled.file.loaded c.note_slow.new.self.refusals.last polled.file.refusals.last c.note_slow.new.self.loaded_at polled.file.loaded_at refl (ap (λ f. f.loaded) c.note_slow.ensures) (ap (λ f. f.refusals.last) c.note_slow.ensures) (ap (λ f. f.loaded_at) c.note_slow.ensures)))
          (subst (λ percent. Follows g.W.Disk.answers percent before seconds millis (mark_of c.follow-polled.new.export) old new) c.percent_at-percent.ensures c.follow-polled.ensures.follows),
    )
