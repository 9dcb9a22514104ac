-- The intervals of an End of Data, in seconds (RFC 8210 section 6).
use Rattle.std.specs.Prelude.{ℕ, ◌≤◌, ◌<◌}
use Rattle.rtr_ends.specs.declared.timing.TimingFault.{TimingFault}
use Rattle.rtr_ends.specs.declared.timing.TimingFault.TheVariants.{OutOfRange, ExpireTooSmall}

-- how long a router waits before it asks again, before it tries again after a failure, and until it drops what it holds
pub record Intervals : Type 0 where
  pub refresh : ℕ
  pub retry : ℕ
  pub expire : ℕ

abbrev pub intervals : ℕ → ℕ → ℕ → Intervals
intervals refresh retry expire = record { refresh = refresh; retry = retry; expire = expire }

-- the intervals' ranges
pub record InRange (t : Intervals) : Type 0 where
  pub refresh_from : 1 ≤ t.refresh
  pub refresh_to : t.refresh ≤ 86400
  pub retry_from : 1 ≤ t.retry
  pub retry_to : t.retry ≤ 7200
  pub expire_from : 600 ≤ t.expire
  pub expire_to : t.expire ≤ 172800

-- Expire is larger than both others.
pub record OutlastsOthers (t : Intervals) : Type 0 where
  pub over_refresh : t.refresh < t.expire
  pub over_retry : t.retry < t.expire

pub record IsTiming (t : Intervals) : Type 0 where
  pub in_range : InRange t
  pub outlasts : OutlastsOthers t

-- the intervals that the standard recommends
abbrev pub default_intervals : Intervals
default_intervals = intervals 3600 600 7200

abbrev pub timing_fault_number : TimingFault → ℕ
timing_fault_number OutOfRange = 1
timing_fault_number ExpireTooSmall = 2
