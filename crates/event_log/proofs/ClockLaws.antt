-- Days of years and months, and the text of a moment.
use Rattle.std.proofs.lemmas.Bool.Decides.{nat_tests}
use Rattle.std.proofs.Common.{nat_le, ◌&&◌, ◌≡◌, ℕ, ◌+◌, ◌*◌, ◌/◌, ◌%◌, ◌≤◌, ◌∷◌, [], ◌++◌, true, false, Bool, if◌then◌else◌, slice_index_or, arith, refl, add-one, List, Option, subst, sym, ◌∙◌}
use Rattle.der_lite.specs.Moments.{CivilMoment, decimals, days_of_month, is_leap, is_moment, moment_digits, moment_in, moment_text}
use Rattle.der_lite.specs.Seconds.{days_of_year, days_of_years, days_of_months}
use Rattle.der_lite.proofs.MomentLaws.{text_found}
use Rattle.event_log.specs.Clock.{IsAt, IsMomentAt, last_second, time_text}

-- one year and one month more
pub years_more : (count : ℕ) → days_of_years (count + 1) ≡ days_of_years count + days_of_year (1970 + count)
unfolding days_of_years
years_more count = rw (add-one count) refl

pub months_more : (year count : ℕ) → days_of_months year (count + 1) ≡ days_of_months year count + days_of_month year (count + 1)
unfolding days_of_months
months_more year count = rw (add-one count) refl

-- the days before the year 9999
pub years_before_last : days_of_years 8029 ≡ 2932532
unfolding days_of_years
years_before_last = refl

pub no_years : days_of_years 0 ≡ 0
unfolding days_of_years
no_years = refl

pub no_months : (year : ℕ) → days_of_months year 0 ≡ 0
unfolding days_of_months
no_months year = refl

-- the days of a year but for December
pub months_before_last : (year : ℕ) → days_of_months year 11 + 31 ≡ days_of_year year
unfolding days_of_months
months_before_last year = by_leap (is_leap year)
  where
    by_leap : (leap : Bool) → 31 + (if leap then 29 else 28) + 31 + 30 + 31 + 30 + 31 + 31 + 30 + 31 + 30 + 31 ≡ (if leap then 366 else 365)
    by_leap true = refl
    by_leap false = refl

-- the text, two digits at a time
pub text_by_twos : (m : CivilMoment)
    → decimals 2 (m.year / 100) ++ decimals 2 (m.year % 100) ++ 45 ∷ decimals 2 m.month ++ 45 ∷ decimals 2 m.day ++ 84 ∷ decimals 2 m.hour ++ 58 ∷ decimals 2 m.minute ++ 58 ∷ decimals 2 m.second ++ 90 ∷ [] ≡ time_text m
unfolding time_text
text_by_twos m =
    let year = m.year in
    let a : 48 + year / 100 / 10 % 10 ≡ 48 + year / 10 / 10 / 10 % 10 = omega arith in
    let b : 48 + year / 100 % 10 ≡ 48 + year / 10 / 10 % 10 = omega arith in
    let c : 48 + year % 100 / 10 % 10 ≡ 48 + year / 10 % 10 = omega arith in
    let d : 48 + year % 100 % 10 ≡ 48 + year % 10 = omega arith in
    let later = 45 ∷ decimals 2 m.month ++ 45 ∷ decimals 2 m.day ++ 84 ∷ decimals 2 m.hour ++ 58 ∷ decimals 2 m.minute ++ 58 ∷ decimals 2 m.second ++ 90 ∷ [] in
    λ i. a i ∷ b i ∷ c i ∷ d i ∷ later

-- A date and a time of day with all numbers in range are a moment.
pub real_from : (m : CivilMoment) → 1970 ≤ m.year → m.year ≤ 9999 → 1 ≤ m.month → m.month ≤ 12 → 1 ≤ m.day → m.day ≤ days_of_month m.year m.month
    → m.hour ≤ 23 → m.minute ≤ 59 → m.second ≤ 59 → is_moment m ≡ true
unfolding is_moment
real_from m a b c d e f g h k =
    λ i. (le_true 1970 m.year a i && le_true m.year 9999 b i) && (le_true 1 m.month c i && le_true m.month 12 d i) && (le_true 1 m.day e i && le_true m.day (days_of_month m.year m.month) f i)
    && le_true m.hour 23 g i && le_true m.minute 59 h i && le_true m.second 59 k i
  where
    le_true : (a b : ℕ) → a ≤ b → nat_le a b ≡ true
    le_true a b h = grind (arith, nat_tests)

-- Days, hours, minutes and seconds add up to the number that they were divided from.
pub parts_of : (n : ℕ) → ((n / 86400 * 24 + n / 3600 % 24) * 60 + n / 60 % 60) * 60 + n % 60 ≡ n
parts_of n = omega arith

-- the bytes of the text of a moment, without separators
abbrev pub without_marks : List ℕ → List ℕ
without_marks text =
    slice_index_or text 0 0 ∷ slice_index_or text 1 0 ∷ slice_index_or text 2 0 ∷ slice_index_or text 3 0 ∷ slice_index_or text 5 0 ∷ slice_index_or text 6 0 ∷ slice_index_or text 8 0 ∷ slice_index_or text 9 0
    ∷ slice_index_or text 11 0 ∷ slice_index_or text 12 0 ∷ slice_index_or text 14 0 ∷ slice_index_or text 15 0 ∷ slice_index_or text 17 0 ∷ slice_index_or text 18 0 ∷ slice_index_or text 19 0 ∷ []

pub marks_dropped : (m : CivilMoment) → without_marks (time_text m) ≡ moment_text m
unfolding time_text moment_text moment_digits
marks_dropped m = refl

-- The moment that is read from the text of a second is of that second.
pub found_at : (m : CivilMoment) (seconds : ℕ) (found : Option CivilMoment) → IsAt m seconds → seconds ≤ last_second → found ≡ moment_in (moment_text m) → IsMomentAt seconds found
found_at m seconds found is_at within e =
    subst (IsMomentAt seconds) (sym (e ∙ text_found m is_at.real)) (within, is_at.real, omega (arith, is_at.counted, within))
