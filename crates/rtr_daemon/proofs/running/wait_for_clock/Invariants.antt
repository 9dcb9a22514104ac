-- If a second was waited for, the clock was not set.
use Rattle.std.proofs.Common.{◌<◌}
use Rattle.rtr_daemon.specs.Running.{IsClockUnset}
use Rattle.rtr_daemon.proofs.running.wait_for_clock.Given as goal

abbrev pub invariant-loop-second : goal.invariant-loop-second
invariant-loop-second g l = 0 < l._second → IsClockUnset g.W.Time.can_be
