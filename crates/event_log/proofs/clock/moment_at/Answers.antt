use Rattle.std.proofs.Common.{arith, ap, ◌∙◌}
use Rattle.der_lite.specs.Moments.{moment_in, told_moment}
use Rattle.event_log.proofs.ClockLaws.{found_at}
use Rattle.event_log.proofs.clock.moment_at.Goals as goal

pub returns : goal.returns
returns c =
    let civil = c.civil_at.result in
    found_at (told_moment civil.year civil.month civil.day civil.hour civil.minute civil.second) c.args.seconds c.from_text.result c.civil_at.ensures
    (omega (arith, c.if-seconds-gt-LAST.false)) (c.from_text.ensures.value ∙ ap moment_in c.short_text.ensures)
