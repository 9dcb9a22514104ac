-- How many seconds after the beginning of 1970 a moment is: days have 86,400 seconds, as no moment is a leap second.
use Rattle.std.specs.Prelude.{ℕ, zero, suc, ◌+◌, ◌-◌, ◌*◌, if◌then◌else◌}
use Rattle.der_lite.specs.Moments.{CivilMoment, is_leap, days_of_month}

abbrev pub days_of_year : ℕ → ℕ
days_of_year year = if is_leap year then 366 else 365

-- the days of this many years, from 1970
unfoldable pub days_of_years : ℕ → ℕ
days_of_years zero = 0
days_of_years (suc count) = days_of_years count + days_of_year (1970 + count)

-- the days of this many months of a year, from January
unfoldable pub days_of_months : ℕ → ℕ → ℕ
days_of_months year zero = 0
days_of_months year (suc count) = days_of_months year count + days_of_month year (suc count)

-- the days before the one of the moment
abbrev pub days_before : CivilMoment → ℕ
days_before m = days_of_years (m.year - 1970) + days_of_months m.year (m.month - 1) + (m.day - 1)

abbrev pub seconds_of : CivilMoment → ℕ
seconds_of m = ((days_before m * 24 + m.hour) * 60 + m.minute) * 60 + m.second
