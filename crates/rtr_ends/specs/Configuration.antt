-- What a caller configures of a router: intervals of its own, and the most records (RFC 8210 section 6).
use Rattle.std.specs.Prelude.{ℕ, Bool, false, nat_lt, if◌then◌else◌}
use Rattle.rtr_ends.specs.Timing.{Intervals, default_intervals, intervals}
use Rattle.rtr_ends.specs.declared.configuration.RouterConfig.{RouterConfig}

-- The configuration of a router that none was set for: the intervals that the standard recommends, none of which is kept, and the most
-- records that a set may have
abbrev pub default_config : RouterConfig
default_config = record { intervals = default_intervals; keeps_refresh = false; keeps_retry = false; keeps_expire = false; most = 16777215 }

-- an interval of its own if that is kept, otherwise the one of an End of Data
abbrev pub own_if : Bool → ℕ → ℕ → ℕ
own_if keeps own told = if keeps then own else told

-- The intervals of a commit whose End of Data has these
abbrev pub chosen : RouterConfig → Intervals → Intervals
chosen c told = intervals (own_if c.keeps_refresh c.intervals.refresh told.refresh) (own_if c.keeps_retry c.intervals.retry told.retry) (own_if c.keeps_expire c.intervals.expire told.expire)

-- the most records of a table to which an answer may lead: never more than a set may have
abbrev pub limit_of : RouterConfig → ℕ
limit_of c = if nat_lt 16777215 c.most then 16777215 else c.most
