use Rattle.std.proofs.Common.{ap, ◌∙◌}
use Rattle.der_lite.specs.Moments.{told_moment}
use Rattle.event_log.proofs.ClockLaws.{marks_dropped, without_marks}
use Rattle.event_log.proofs.clock.short_text.Goals as goal

pub returns : goal.returns
returns c =
    let civil = c.args.civil.now in
    ap without_marks c.time_text.ensures ∙ marks_dropped (told_moment civil.year civil.month civil.day civil.hour civil.minute civil.second)
