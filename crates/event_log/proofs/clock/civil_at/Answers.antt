use Rattle.std.proofs.Common.{◌+◌, ◌/◌, ◌%◌, arith}
use Rattle.der_lite.specs.Moments.{told_moment}
use Rattle.event_log.proofs.ClockLaws.{real_from, parts_of}
use Rattle.event_log.proofs.clock.civil_at.Goals as goal

pub returns : goal.returns
returns c =
    let n = c.min-shown.result in
    let year = c.year_of-year.ensures in
    let month = c.month_of-month.ensures in
    record {
      real =
          real_from (told_moment c.year_of-year.result.0 c.month_of-month.result.0 (c.month_of-month.result.1 + 1) (n / 3600 % 24) (n / 60 % 60) (n % 60))
          year.year.0 year.year.1 month.month.0 month.month.1 (omega arith) (omega (arith, month.within)) (omega arith) (omega arith) (omega arith);
      counted = omega (arith, parts_of n, year.days, month.days, c.min-shown.ensures);
    }
