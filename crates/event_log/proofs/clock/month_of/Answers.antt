use Rattle.std.proofs.Common.{◌≡◌, arith, ap}
use Rattle.der_lite.specs.Seconds.{days_of_months}
use Rattle.event_log.proofs.ClockLaws.{no_months, months_more, months_before_last}
use Rattle.event_log.proofs.clock.month_of.Goals as goal

pub loop-count-init : goal.loop-count-init
loop-count-init c = omega (arith, no_months c.args.year)

pub loop-count-preserved : goal.loop-count-preserved
loop-count-preserved c = omega (arith, c.loop-count.invariant, c.if-rest-length.false, c.days_of_month-length.ensures.value, months_more c.args.year c.loop-count.count)

pub returns-clause-within : goal.returns-clause-within
returns-clause-within c =
    let all : c.loop-count.count ≡ 11 = omega (arith, c.loop-count-test.false, c.loop-count.auto.count-end) in
    omega (arith, c.requires, c.loop-count.invariant, ap (days_of_months c.args.year) all, months_before_last c.args.year)
