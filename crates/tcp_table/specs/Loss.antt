-- When a connection is lost. Times are milliseconds of a monotonic clock.
use Rattle.std.specs.Prelude.{ℕ, ◌-◌, nat_le, Bool, false, Option, Some, None, if◌then◌else◌}
use Rattle.tcp_table.specs.declared.loss.Unanswered.{Unanswered}

-- Bytes are sent again: since the first reading from which on they have not become fewer.
abbrev pub since_when : Option Unanswered → ℕ → ℕ → ℕ
since_when None bytes now = now
since_when (Some last) bytes now = if nat_le last.bytes bytes then last.since else now

-- what is known of a connection after a reading
abbrev pub unanswered_after : Option Unanswered → Option ℕ → ℕ → Option Unanswered
unanswered_after before None now = None
unanswered_after before (Some bytes) now = Some (record { bytes = bytes; since = since_when before bytes now })

-- All readings of this long showed it.
abbrev pub is_lost : Option Unanswered → ℕ → ℕ → Bool
is_lost None now stall = false
is_lost (Some last) now stall = nat_le stall (now - last.since)
