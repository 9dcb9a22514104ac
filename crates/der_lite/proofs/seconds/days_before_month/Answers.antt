use Rattle.std.proofs.Common.{◌≡◌, ◌+◌, suc, arith, refl, add-one, ap, ◌∙◌}
use Rattle.der_lite.specs.Moments.{days_of_month}
use Rattle.der_lite.specs.Seconds.{days_of_months}
use Rattle.der_lite.proofs.seconds.days_before_month.Goals as goal

pub loop-count-init : goal.loop-count-init
unfolding days_of_months
loop-count-init c = (refl, omega arith)

pub loop-count-preserved : goal.loop-count-preserved
unfolding days_of_months
loop-count-preserved c =
    let length_is : c.days_of_month-days.result ≡ days_of_month c.args.year (suc c.loop-count.count) = c.days_of_month-days.ensures.value ∙ ap (days_of_month c.args.year) (add-one c.loop-count.count) in
    (rw (add-one c.loop-count.count) (omega (arith, c.loop-count.invariant.0, length_is)), omega (arith, c.loop-count.invariant.1, c.days_of_month-days.ensures.small))
