use Rattle.std.proofs.Common.{◌≡◌, ◌+◌}
use Rattle.der_lite.specs.Seconds.{days_of_years}
use Rattle.event_log.proofs.clock.year_of.Given as goal

-- the days of the years so far, and those that are left
abbrev pub invariant-loop-count : goal.invariant-loop-count
invariant-loop-count l = l.days ≡ days_of_years l.count + l.rest
