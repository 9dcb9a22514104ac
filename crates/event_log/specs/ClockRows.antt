-- Times, worked out.
use Rattle.std.specs.Prelude.{◌≡◌, codes, refl, None, Some}
use Rattle.std.proofs.Common.{lit<, lit≤}
use Rattle.der_lite.specs.Moments.{told_moment, is_moment}
use Rattle.der_lite.specs.Seconds.{days_of_years, days_of_months}
use Rattle.event_log.specs.Clock.{IsAt, IsMomentAt, time_text, last_second}

beginning : time_text (told_moment 1970 1 1 0 0 0) ≡ codes "1970-01-01T00:00:00Z"
unfolding time_text
beginning = refl

evening : time_text (told_moment 2026 11 25 18 40 0) ≡ codes "2026-11-25T18:40:00Z"
unfolding time_text
evening = refl

evening_is_at : IsAt (told_moment 2026 11 25 18 40 0) 1795632000
unfolding is_moment days_of_years days_of_months
evening_is_at = record { real = refl; counted = refl }

-- the last second, and one after it
last_is_at : IsAt (told_moment 9999 12 31 23 59 59) last_second
unfolding is_moment days_of_years days_of_months
last_is_at = record { real = refl; counted = refl }

after_the_last : IsAt (told_moment 9999 12 31 23 59 59) 253402300800
unfolding is_moment days_of_years days_of_months
after_the_last = record { real = refl; counted = refl }

-- the first second, 29 February of a leap century and of another leap year, and both sides of the end of February in another century
first_moment : IsMomentAt 0 (Some (told_moment 1970 1 1 0 0 0))
unfolding is_moment days_of_years days_of_months
first_moment = (lit≤ tt, refl, refl)

leap_century_moment : IsMomentAt 951782400 (Some (told_moment 2000 2 29 0 0 0))
unfolding is_moment days_of_years days_of_months
leap_century_moment = (lit≤ tt, refl, refl)

leap_year_moment : IsMomentAt 1709251199 (Some (told_moment 2024 2 29 23 59 59))
unfolding is_moment days_of_years days_of_months
leap_year_moment = (lit≤ tt, refl, refl)

before_march_moment : IsMomentAt 4107542399 (Some (told_moment 2100 2 28 23 59 59))
unfolding is_moment days_of_years days_of_months
before_march_moment = (lit≤ tt, refl, refl)

march_moment : IsMomentAt 4107542400 (Some (told_moment 2100 3 1 0 0 0))
unfolding is_moment days_of_years days_of_months
march_moment = (lit≤ tt, refl, refl)

-- the last second is a moment, and the one after it is none
last_moment : IsMomentAt 253402300799 (Some (told_moment 9999 12 31 23 59 59))
unfolding is_moment days_of_years days_of_months
last_moment = (lit≤ tt, refl, refl)

no_moment : IsMomentAt 253402300800 None
no_moment = lit< tt
