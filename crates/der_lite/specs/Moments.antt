-- Moments: a civil date with a time of day in UTC, of the years 1970 to 9999, and its text.
use Rattle.std.specs.Prelude.{◌≡◌, ℕ, zero, suc, ◌+◌, ◌-◌, ◌*◌, ◌/◌, ◌%◌, ◌^◌, Bool, true, not, ◌&&◌, ◌||◌, nat_le, ◌==◌, if◌then◌else◌, bytes_eq, List, [], ◌∷◌, ◌++◌, length, take, slice_range, Option, Some, None}
use Rattle.std.specs.Ordering.{is_lt, nat_cmp}
use Rattle.std.specs.Cmp.Lexicographic.{slice_cmp}
use Rattle.std.specs.declared.cmp.Ordering.{Ordering}

-- six numbers that may name a date and a time of day
pub record CivilMoment : Type 0 where
  pub year : ℕ
  pub month : ℕ
  pub day : ℕ
  pub hour : ℕ
  pub minute : ℕ
  pub second : ℕ

-- six numbers, as one value
abbrev pub told_moment : ℕ → ℕ → ℕ → ℕ → ℕ → ℕ → CivilMoment
told_moment year month day hour minute second = record {
  year = year;
  month = month;
  day = day;
  hour = hour;
  minute = minute;
  second = second;
}

-- n lies from least to most, both included
abbrev pub is_between : ℕ → ℕ → ℕ → Bool
is_between least most n = nat_le least n && nat_le n most

-- the Gregorian rule: every fourth year, but of the centuries only every fourth
abbrev pub is_leap : ℕ → Bool
is_leap year = year % 4 == 0 && (not (year % 100 == 0) || year % 400 == 0)

-- thirty days have September, April, June and November
abbrev pub days_of_month : ℕ → ℕ → ℕ
days_of_month year month =
    if month == 2 then (if is_leap year then 29 else 28)
    else (if month == 4 || month == 6 || month == 9 || month == 11 then 30 else 31)

-- A real date of the years 1970 to 9999, and a time of day without a leap second.
unfoldable pub is_moment : CivilMoment → Bool
is_moment m =
    is_between 1970 9999 m.year && is_between 1 12 m.month && is_between 1 (days_of_month m.year m.month) m.day
    && nat_le m.hour 23 && nat_le m.minute 59 && nat_le m.second 59

-- ---- order

-- the six numbers, the year first
abbrev pub numbers_of : CivilMoment → List ℕ
numbers_of m = m.year ∷ m.month ∷ m.day ∷ m.hour ∷ m.minute ∷ m.second ∷ []

-- the first numbers that differ decide
abbrev pub moment_cmp : CivilMoment → CivilMoment → Ordering
moment_cmp m n = slice_cmp nat_cmp (numbers_of m) (numbers_of n)

-- m is before n
unfoldable pub moment_before : CivilMoment → CivilMoment → Bool
moment_before m n = is_lt (moment_cmp m n)

-- ---- text

-- a number in a count of decimal digits, the highest first
abbrev pub decimals : ℕ → ℕ → List ℕ
decimals zero n = []
decimals (suc count) n = decimals count (n / 10) ++ (48 + n % 10) ∷ []

-- YYYYMMDDHHMMSS
unfoldable pub moment_digits : CivilMoment → List ℕ
moment_digits m =
    decimals 4 m.year ++ decimals 2 m.month ++ decimals 2 m.day
    ++ decimals 2 m.hour ++ decimals 2 m.minute ++ decimals 2 m.second

-- X.690 section 11.7, in the form of RFC 5280 section 4.1.2.5.2: the digits and Z, without a fraction of a second
unfoldable pub moment_text : CivilMoment → List ℕ
moment_text m = moment_digits m ++ 90 ∷ []

-- A content of GeneralizedTime is the text of a real moment.
pub record TimeSpells (m : CivilMoment) (content : List ℕ) : Type 0 where
  pub text : content ≡ moment_text m
  pub real : is_moment m ≡ true

-- The moment whose text this is, or that there is none
abbrev pub IsMomentOf : List ℕ → Option CivilMoment → Type 0
IsMomentOf text (Some m) = TimeSpells m text
IsMomentOf text None = (m : CivilMoment) → ¬ (TimeSpells m text)

-- ---- the test of a text

-- the number that decimal digits spell, the highest first
abbrev pub decimal_number : List ℕ → ℕ
decimal_number [] = 0
decimal_number (digit ∷ digits) = (digit - 48) * 10 ^ length digits + decimal_number digits

-- the numbers in a text where a moment's are
unfoldable pub moment_of : List ℕ → CivilMoment
moment_of text = record {
  year = decimal_number (take 4 text);
  month = decimal_number (slice_range text 4 6);
  day = decimal_number (slice_range text 6 8);
  hour = decimal_number (slice_range text 8 10);
  minute = decimal_number (slice_range text 10 12);
  second = decimal_number (slice_range text 12 14);
}

-- they are a real moment, and this is its text
unfoldable pub is_time : List ℕ → Bool
is_time text = is_moment (moment_of text) && bytes_eq text (moment_text (moment_of text))

-- six numbers, if they are a moment
abbrev pub if_real : CivilMoment → Option CivilMoment
if_real m = if is_moment m then Some m else None

-- the moment of a text, if it is one
unfoldable pub moment_in : List ℕ → Option CivilMoment
moment_in text = if is_time text then Some (moment_of text) else None
