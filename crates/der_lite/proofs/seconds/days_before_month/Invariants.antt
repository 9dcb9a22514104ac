use Rattle.std.proofs.Common.{◌≡◌, ◌≤◌, ◌*◌}
use Rattle.der_lite.specs.Seconds.{days_of_months}
use Rattle.der_lite.proofs.seconds.days_before_month.Given as goal

-- the days of the months so far
abbrev pub invariant-loop-count : goal.invariant-loop-count
invariant-loop-count l = (l.days ≡ days_of_months l.year l.count) × (l.days ≤ 31 * l.count)
