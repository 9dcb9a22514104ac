-- Calls of the system on a file, and its size.
use Rattle.std.specs.Prelude.{ℕ, ◌-◌, ◌/◌, nat_lt, if◌then◌else◌, Option, None, Some}
use Rattle.status_pages.specs.declared.status.SlowCall.{SlowCall}
use Rattle.rtr_daemon.specs.declared.environment.Stamp.{Stamp}

-- the last call that lasted longer than five seconds, after one of this many milliseconds
abbrev pub slow_after : ℕ → ℕ → Option SlowCall → Option SlowCall
slow_after millis now before = if nat_lt 5000 millis then Some (record { milliseconds = millis; at = now }) else before

-- the size of a file with this stamp, if it is more than three quarters of a limit
abbrev pub near_limit : ℕ → Option Stamp → Option ℕ
near_limit limit None = None
near_limit limit (Some stamp) = if nat_lt (limit - limit / 4) stamp.len then Some stamp.len else None
