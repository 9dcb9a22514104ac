use Rattle.event_log.proofs.ClockLaws.{text_by_twos}
use Rattle.der_lite.specs.Moments.{told_moment}
use Rattle.event_log.proofs.clock.time_text.Goals as goal

pub returns : goal.returns
returns c =
    rw (c.decimals.ensures, c.decimals-2.ensures, c.decimals-3.ensures, c.decimals-4.ensures, c.decimals-5.ensures, c.decimals-6.ensures, c.decimals-7.ensures)
    (text_by_twos (told_moment c.args.civil.now.year c.args.civil.now.month c.args.civil.now.day c.args.civil.now.hour c.args.civil.now.minute c.args.civil.now.second))
