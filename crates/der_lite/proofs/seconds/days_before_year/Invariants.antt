use Rattle.std.proofs.Common.{◌≡◌, ◌≤◌, ◌*◌}
use Rattle.der_lite.specs.Seconds.{days_of_years}
use Rattle.der_lite.proofs.seconds.days_before_year.Given as goal

-- the days of the years so far
abbrev pub invariant-loop-count : goal.invariant-loop-count
invariant-loop-count l = (l.days ≡ days_of_years l.count) × (l.days ≤ 366 * l.count)
