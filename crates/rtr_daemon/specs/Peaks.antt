-- The most VRPs that were served within the last 24 hours, and the routers that were turned away.
use Rattle.std.specs.Prelude.{ℕ, ◌+◌, ◌-◌, ◌^◌, min, Bool, nat_le, nat_lt, if◌then◌else◌, List, Option, None, Some}
use Rattle.std.specs.List.{fold}
use Rattle.status_pages.specs.declared.status.ClientLimit.{ClientLimit}
use Rattle.status_pages.specs.declared.status.TurnedAway.{TurnedAway}
use Rattle.status_pages.specs.declared.status.VrpPeak.{VrpPeak}

abbrev pub peak_of : ℕ → ℕ → VrpPeak
peak_of vrps until = record { vrps = vrps; until = until }

-- A version was still served within the 24 hours before a second.
abbrev pub is_within_a_day : ℕ → VrpPeak → Bool
is_within_a_day now peak = nat_le (now - peak.until) 86400

-- the greater of two, and the first of two that are alike
abbrev pub greater : Option VrpPeak → VrpPeak → Option VrpPeak
greater None peak = Some peak
greater (Some most) peak = if nat_lt most.vrps peak.vrps then Some peak else Some most

-- the greatest of some versions
abbrev pub greatest : List VrpPeak → Option VrpPeak
greatest peaks = fold greater None peaks

-- how many routers were turned away, with less than ten minutes between them
abbrev pub routers_before : ℕ → Option TurnedAway → ℕ
routers_before now None = 0
routers_before now (Some away) = if nat_le (now - away.last) 600 then away.routers else 0

-- One router more is turned away at a second, by a limit.
abbrev pub turned_away_at : ℕ → ClientLimit → Option TurnedAway → TurnedAway
turned_away_at now limit before = record { routers = min (routers_before now before + 1) (2 ^ 64 - 1); last = now; limit = limit }
