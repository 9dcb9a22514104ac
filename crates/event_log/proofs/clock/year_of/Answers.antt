use Rattle.std.proofs.Common.{◌≡◌, arith, ap}
use Rattle.der_lite.specs.Seconds.{days_of_years}
use Rattle.event_log.proofs.ClockLaws.{no_years, years_more, years_before_last}
use Rattle.event_log.proofs.clock.year_of.Goals as goal

pub loop-count-init : goal.loop-count-init
loop-count-init c = omega (arith, no_years)

pub loop-count-preserved : goal.loop-count-preserved
loop-count-preserved c = omega (arith, c.loop-count.invariant, c.if-rest-length.false, c.days_of_year-length.ensures.value, years_more c.loop-count.count)

pub returns-clause-within : goal.returns-clause-within
returns-clause-within c =
    let all : c.loop-count.count ≡ 8029 = omega (arith, c.loop-count-test.false, c.loop-count.auto.count-end) in
    omega (arith, c.requires, c.loop-count.invariant, ap (days_of_years) all, years_before_last)
