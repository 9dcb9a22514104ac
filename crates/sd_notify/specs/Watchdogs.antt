-- The watchdog of the service manager (sd_watchdog_enabled(3)): a service signals at half of its time.
use Rattle.std.specs.Prelude.{ℕ, ◌-◌, ◌/◌, max, Bool, true, false, if◌then◌else◌, nat_lt}

-- half of the time, and when the last signal was sent, in milliseconds
abbrev pub WatchdogState : Type 0
WatchdogState = ℕ × ℕ

-- half of a time of microseconds, in milliseconds, and at least one
abbrev pub half_of : ℕ → ℕ
half_of microseconds = max (microseconds / 2000) 1

-- A signal is sent if the last one is half of the time ago, or longer.
abbrev pub signalled : ℕ → WatchdogState → Bool × WatchdogState
signalled now w = if nat_lt (now - w.1) w.0 then (false, w) else (true, (w.0, now))
