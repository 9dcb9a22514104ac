-- The date and time of a second since 1970, and the time of a log line in the form of RFC 3339 section 5.6.
use Rattle.std.specs.Prelude.{◌≡◌, ◌<◌, ◌≤◌, ℕ, true, min, List, ◌++◌, codes, Option, None, Some}
use Rattle.der_lite.specs.Moments.{CivilMoment, decimals, is_moment}
use Rattle.der_lite.specs.Seconds.{seconds_of}

-- the last second of the year 9999
abbrev pub last_second : ℕ
last_second = 253402300799

-- A real moment of this many seconds since 1970, or the last moment if there are too many seconds
pub record IsAt (m : CivilMoment) (seconds : ℕ) : Type 0 where
  pub real : is_moment m ≡ true
  pub counted : seconds_of m ≡ min seconds last_second

-- The moment of this many seconds since 1970. There is one up to the end of the year 9999, and none later.
abbrev pub IsMomentAt : ℕ → Option CivilMoment → Type 0
IsMomentAt seconds (Some m) = (seconds ≤ last_second) × (is_moment m ≡ true) × (seconds_of m ≡ seconds)
IsMomentAt seconds None = last_second < seconds

-- YYYY-MM-DDTHH:MM:SSZ
unfoldable pub time_text : CivilMoment → List ℕ
time_text m =
    decimals 4 m.year ++ codes "-" ++ decimals 2 m.month ++ codes "-" ++ decimals 2 m.day
    ++ codes "T" ++ decimals 2 m.hour ++ codes ":" ++ decimals 2 m.minute ++ codes ":" ++ decimals 2 m.second ++ codes "Z"

-- The text of that moment
abbrev pub IsTimeOf : ℕ → List ℕ → Type 0
IsTimeOf seconds text = (m : CivilMoment) × IsAt m seconds × (text ≡ time_text m)
