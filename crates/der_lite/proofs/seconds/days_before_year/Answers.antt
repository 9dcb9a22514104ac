use Rattle.std.proofs.Common.{arith, refl, add-one, ◌+◌}
use Rattle.der_lite.specs.Seconds.{days_of_years}
use Rattle.der_lite.proofs.seconds.days_before_year.Goals as goal

pub loop-count-init : goal.loop-count-init
unfolding days_of_years
loop-count-init c = (refl, omega arith)

pub loop-count-preserved : goal.loop-count-preserved
unfolding days_of_years
loop-count-preserved c =
    (rw (add-one c.loop-count.count) (omega (arith, c.loop-count.invariant.0, c.days_of_year-days.ensures.value)), omega (arith, c.loop-count.invariant.1, c.days_of_year-days.ensures.small))
