-- For how long an export that is too short is refused. Times are milliseconds of the monotonic clock.
use Rattle.std.specs.Prelude.{ℕ, ◌-◌, ◌/◌, nat_le, if◌then◌else◌, Option, None, Some, Result, Ok, Err}
use Rattle.sources.specs.declared.fault.TakeFault.{TakeFault}
use Rattle.sources.specs.declared.fault.TakeFault.TheVariants.{Shrank}
use Rattle.rtr_daemon.specs.declared.shrink_guard.ShrinkGuard.{ShrinkGuard}

-- How large a part of an export may be gone, in percent. There is no limit without a guard, nor once its contents have been refused as too short
-- for as long as the guard holds.
abbrev pub percent_at : Option ShrinkGuard → Option ℕ → ℕ → Option ℕ
percent_at None since millis = None
percent_at (Some guard) None millis = Some guard.percent
percent_at (Some guard) (Some since) millis = if nat_le guard.hold ((millis - since) / 1000) then None else Some guard.percent

-- Since when contents of an export are refused as too short, if they are at a time
abbrev pub first_refused : Option ℕ → ℕ → Option ℕ
first_refused None millis = Some millis
first_refused (Some since) millis = Some since

-- and after a load: contents that are loaded end it, and other faults change nothing.
abbrev pub since_after : Result ℕ TakeFault → Option ℕ → ℕ → Option ℕ
since_after (Ok expired) since millis = None
since_after (Err (Shrank percent had has)) since millis = first_refused since millis
since_after (Err fault) since millis = since
