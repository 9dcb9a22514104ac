-- A moment as the civil date-time of `jiff`.
use Rattle.std.specs.Prelude.{◌≡◌, ℕ, ◌<◌, ◌≤◌, Bool, true, false, ◌&&◌, ℤ, pos, negsuc, ◌≤ℤ◌, unsigned_abs, refl}
use Rattle.std.specs.Int.{IsInRange}
use Rattle.std.proofs.Common.{leb, sym, ◌∙◌, arith}
use Rattle.std.proofs.Props.{props}
use Rattle.std.proofs.lemmas.Bool.{and_parts, and_from, leb-true, le-leb}
use mathlib.Core.HLevel.{is_prop→PathP}
use Rattle.jiff.specs.Types.{DateTime}
use Rattle.jiff.specs.Words.{IsYear, days_in_month}
use Rattle.jiff.proofs.SpanFacts.{signed_arith}
use Rattle.der_lite.specs.Moments.{CivilMoment, is_between, days_of_month, is_moment}

-- the six numbers of a date and its time of day
abbrev pub civil_moment : DateTime → CivilMoment
civil_moment dt = record {
  year = unsigned_abs dt.date.year;
  month = dt.date.month;
  day = dt.date.day;
  hour = dt.time.hour;
  minute = dt.time.minute;
  second = dt.time.second;
}

-- The year is one of a moment's, and the second is whole. All else that a real moment needs, each date-time has.
pub record HasWholeSecond (dt : DateTime) : Type 0 where
  pub year : pos 1970 ≤ℤ dt.date.year
  pub whole : dt.time.subsec_nanosecond ≡ 0

-- ---- the date-time of six numbers
-- What follows shows that a moment's six numbers give its date-time back, as a `Copy` type requires. No contract says more by it.

-- what a real moment is, number by number
pub record IsReal (m : CivilMoment) : Type 0 where
  pub year : (1970 ≤ m.year) × (m.year ≤ 9999)
  pub month : IsInRange 1 12 m.month
  pub day : IsInRange 1 (days_of_month m.year m.month) m.day
  pub hour : m.hour ≤ 23
  pub minute : m.minute ≤ 59
  pub second : m.second ≤ 59

-- a number between two bounds
pub between_bounds : (least most n : ℕ) → is_between least most n ≡ true → IsInRange least most n
between_bounds least most n h = let a = and_parts (leb least n) (leb n most) h in (leb-true least n a.0, leb-true n most a.1)

-- the test of a real moment, number by number
pub real_from : (m : CivilMoment) → is_moment m ≡ true → IsReal m
unfolding is_moment
real_from m h =
    let month = is_between 1970 9999 m.year && is_between 1 12 m.month in
    let date = month && is_between 1 (days_of_month m.year m.month) m.day in
    let a = and_parts (date && leb m.hour 23 && leb m.minute 59) (leb m.second 59) h in
    let b = and_parts (date && leb m.hour 23) (leb m.minute 59) a.0 in
    let c = and_parts date (leb m.hour 23) b.0 in
    let d = and_parts month (is_between 1 (days_of_month m.year m.month) m.day) c.0 in
    let e = and_parts (is_between 1970 9999 m.year) (is_between 1 12 m.month) d.0 in
    record {
      year = between_bounds 1970 9999 m.year e.0;
      month = between_bounds 1 12 m.month e.1;
      day = between_bounds 1 (days_of_month m.year m.month) m.day d.1;
      hour = leb-true m.hour 23 c.1;
      minute = leb-true m.minute 59 b.1;
      second = leb-true m.second 59 a.1;
    }

-- and back
pub real_is : (m : CivilMoment) → IsReal m → is_moment m ≡ true
unfolding is_moment
real_is m r =
    let bounds : (least most n : ℕ) → IsInRange least most n → is_between least most n ≡ true = λ least most n h. and_from _ _ (le-leb least n h.0) (le-leb n most h.1) in
    and_from _ _ (and_from _ _ (and_from _ _ (and_from _ _ (and_from _ _ (bounds 1970 9999 m.year r.year) (bounds 1 12 m.month r.month)) (bounds 1 (days_of_month m.year m.month) m.day r.day)) (le-leb m.hour 23 r.hour)) (le-leb m.minute 59 r.minute)) (le-leb m.second 59 r.second)

-- the years of moments are years of the library
is_year : (year : ℕ) → year ≤ 9999 → IsYear (pos year)
is_year year h = omega (arith, signed_arith, h)

-- a number of a time of day, below the next
is_below : (n most next : ℕ) → n ≤ most → most < next → n < next
is_below n most next h g = omega (arith, h, g)

-- the numbers of a time of day, if the library has them
most_hour : 23 < 24
most_hour = omega arith

most_of_sixty : 59 < 60
most_of_sixty = omega arith

none_of_a_second : 0 < 1_000_000_000
none_of_a_second = omega arith

-- the date-time of a real moment
of_real : (m : CivilMoment) → IsReal m → DateTime
of_real m r = record {
  date = record {
    year = pos m.year;
    month = m.month;
    day = m.day;
    year_in = is_year m.year r.year.1;
    month_in = r.month;
    day_in = r.day;
  };
  time = record {
    hour = m.hour;
    minute = m.minute;
    second = m.second;
    subsec_nanosecond = 0;
    hour_in = is_below m.hour 23 24 r.hour most_hour;
    minute_in = is_below m.minute 59 60 r.minute most_of_sixty;
    second_in = is_below m.second 59 60 r.second most_of_sixty;
    subsec_in = none_of_a_second;
  };
}

-- the first moment
first : CivilMoment
first = record { year = 1970; month = 1; day = 1; hour = 0; minute = 0; second = 0 }

first_real : is_moment first ≡ true
unfolding is_moment first
first_real = refl

by_test : (m : CivilMoment) (real : Bool) → is_moment m ≡ real → DateTime
by_test m true e = of_real m (real_from m e)
by_test m false e = of_real first (real_from first first_real)

-- The date-time of a real moment. Of six numbers that are none, it is that of the first moment.
pub civil_of : CivilMoment → DateTime
civil_of m = by_test m (is_moment m) refl

-- ---- each of these date-times is that of its six numbers

-- a year of a moment, as a number that is not negative
whole_year : (year : ℤ) → pos 1970 ≤ℤ year → IsYear year → (pos (unsigned_abs year) ≡ year) × ((1970 ≤ unsigned_abs year) × (unsigned_abs year ≤ 9999))
whole_year (pos n) low h = (refl, (omega (arith, signed_arith, low), omega (arith, signed_arith, h)))
whole_year (negsuc n) low h = absurd (omega (arith, signed_arith, low))

-- the six numbers are a real moment
pub whole_real : (dt : DateTime) → HasWholeSecond dt → IsReal (civil_moment dt)
whole_real dt w = record {
  year = (whole_year dt.date.year w.year dt.date.year_in).1;
  month = dt.date.month_in;
  day = dt.date.day_in;
  hour = omega (arith, dt.time.hour_in);
  minute = omega (arith, dt.time.minute_in);
  second = omega (arith, dt.time.second_in);
}

-- and the test says so
pub whole_moment : (dt : DateTime) → HasWholeSecond dt → is_moment (civil_moment dt) ≡ true
whole_moment dt w = real_is (civil_moment dt) (whole_real dt w)

-- date-times of the same numbers are one
same_civil : (a b : DateTime) → a.date.year ≡ b.date.year → a.date.month ≡ b.date.month → a.date.day ≡ b.date.day
    → a.time.hour ≡ b.time.hour → a.time.minute ≡ b.time.minute → a.time.second ≡ b.time.second → a.time.subsec_nanosecond ≡ b.time.subsec_nanosecond → a ≡ b
same_civil a b y m d h n s f = λ i. record {
  date = record {
    year = y i;
    month = m i;
    day = d i;
    year_in = is_prop→PathP (λ j. IsYear (y j)) (λ j. hlevel props) a.date.year_in b.date.year_in i;
    month_in = is_prop→PathP (λ j. IsInRange 1 12 (m j)) (λ j. hlevel props) a.date.month_in b.date.month_in i;
    day_in = is_prop→PathP (λ j. IsInRange 1 (days_in_month (y j) (m j)) (d j)) (λ j. hlevel props) a.date.day_in b.date.day_in i;
  };
  time = record {
    hour = h i;
    minute = n i;
    second = s i;
    subsec_nanosecond = f i;
    hour_in = is_prop→PathP (λ j. h j < 24) (λ j. hlevel props) a.time.hour_in b.time.hour_in i;
    minute_in = is_prop→PathP (λ j. n j < 60) (λ j. hlevel props) a.time.minute_in b.time.minute_in i;
    second_in = is_prop→PathP (λ j. s j < 60) (λ j. hlevel props) a.time.second_in b.time.second_in i;
    subsec_in = is_prop→PathP (λ j. f j < 1_000_000_000) (λ j. hlevel props) a.time.subsec_in b.time.subsec_in i;
  };
}

-- the date-time of the six numbers of one is that one
again : (dt : DateTime) → HasWholeSecond dt → (real : Bool) (e : is_moment (civil_moment dt) ≡ real) → by_test (civil_moment dt) real e ≡ dt
unfolding by_test of_real
again dt w true e = same_civil (of_real (civil_moment dt) (real_from (civil_moment dt) e)) dt (whole_year dt.date.year w.year dt.date.year_in).0 refl refl refl refl refl (sym w.whole)
again dt w false e = let no : true ≡ false = sym (whole_moment dt w) ∙ e in absurd cc

-- so it is found again
pub civil_again : (dt : DateTime) → HasWholeSecond dt → civil_of (civil_moment dt) ≡ dt
unfolding civil_of
civil_again dt w = again dt w (is_moment (civil_moment dt)) refl
