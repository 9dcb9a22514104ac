-- Seconds since 1970, worked out.
use Rattle.std.specs.Prelude.{◌≡◌, refl}
use Rattle.der_lite.specs.Moments.{told_moment}
use Rattle.der_lite.specs.Seconds.{days_of_months, days_of_years, seconds_of}

beginning : seconds_of (told_moment 1970 1 1 0 0 0) ≡ 0
unfolding days_of_months days_of_years
beginning = refl

one_second : seconds_of (told_moment 1970 1 1 0 0 1) ≡ 1
unfolding days_of_months days_of_years
one_second = refl

one_minute : seconds_of (told_moment 1970 1 1 0 1 0) ≡ 60
unfolding days_of_months days_of_years
one_minute = refl

one_hour : seconds_of (told_moment 1970 1 1 1 0 0) ≡ 3600
unfolding days_of_months days_of_years
one_hour = refl

one_day : seconds_of (told_moment 1970 1 2 0 0 0) ≡ 86400
unfolding days_of_months days_of_years
one_day = refl

-- both sides of a 29 February
february_2024 : seconds_of (told_moment 2024 2 29 23 59 59) ≡ 1709251199
unfolding days_of_months days_of_years
february_2024 = refl

march_2024 : seconds_of (told_moment 2024 3 1 0 0 0) ≡ 1709251200
unfolding days_of_months days_of_years
march_2024 = refl

-- and of one that was not, at the end of a century
march_2100 : seconds_of (told_moment 2100 3 1 0 0 0) ≡ 4107542400
unfolding days_of_months days_of_years
march_2100 = refl

-- the last second that fits 31 bits
last_of_31_bits : seconds_of (told_moment 2038 1 19 3 14 7) ≡ 2147483647
unfolding days_of_months days_of_years
last_of_31_bits = refl
