use Rattle.std.proofs.Common.{◌≡◌, ◌+◌}
use Rattle.der_lite.specs.Seconds.{days_of_months}
use Rattle.event_log.proofs.clock.month_of.Given as goal

-- the days of the months so far, and those that are left
abbrev pub invariant-loop-count : goal.invariant-loop-count
invariant-loop-count l = l.days ≡ days_of_months l.year l.count + l.rest
