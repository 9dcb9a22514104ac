-- A text is that of a moment exactly if it is fourteen digits and a Z, and the numbers that they spell are a moment.
use Rattle.std.proofs.Common.{◌≡◌, ℕ, zero, suc, ◌+◌, ◌-◌, ◌/◌, ◌%◌, ◌<◌, ◌≤◌, true, false, ◌&&◌, Bool, List, [], ◌∷◌, ◌++◌, length, length-drop, ap₂, if◌then◌else◌, take, drop, slice_range, bytes_eq, ℤ, pos, ◌≤ℤ◌, unsigned_abs, Option, Some, None, IfSome, refl, sym, ap, subst, ◌∙◌, arith, length-append}
use Rattle.std.specs.Char.{is_ascii_digit}
use Rattle.std.specs.List.{list_all}
use Rattle.std.proofs.lemmas.Bool.{and_parts, and_from, false_from_ne_true}
use Rattle.std.proofs.Math.Bool.{and-true}
use Rattle.std.proofs.Math.Seq.{drop-append_seam}
use Rattle.std.proofs.lemmas.List.{append_cancel_right, take-append-le, drop-append-le, take-append-drop, append-nil, nil_from_length, length-take-le}
use Rattle.std.proofs.lemmas.List.Folds.{list_all-append, drop_split}
use Rattle.std.proofs.lemmas.Slice.Eq.{bytes_eq-Decides}
use Rattle.der_lite.specs.Moments.{CivilMoment, told_moment, days_of_month, is_moment, decimals, decimal_number, moment_digits, moment_text, moment_of, is_time, if_real, moment_in, TimeSpells, IsMomentOf}
use Rattle.der_lite.specs.Civils.{civil_moment, HasWholeSecond, IsReal, real_from, whole_moment}
use Rattle.jiff.specs.Types.{DateTime}
use Rattle.jiff.specs.Words.{IsDate, IsTime, IsYmd, IsHms}
use Rattle.jiff.proofs.SpanFacts.{signed_arith}

-- ---- digits

-- the bounds of a digit
digit_bounds : (byte : ℕ) → is_ascii_digit byte ≡ true → (48 ≤ byte) × (byte ≤ 57)
digit_bounds byte h = grind arith

-- a digit that is written
digit_is : (n : ℕ) → is_ascii_digit (48 + n % 10) ≡ true
digit_is n = grind arith

-- a number is written in digits alone
all_decimals : (count n : ℕ) → list_all is_ascii_digit (decimals count n) ≡ true
all_decimals zero n = refl
all_decimals (suc count) n = list_all-append is_ascii_digit (decimals count (n / 10)) ((48 + n % 10) ∷ []) ∙ and_from _ _ (all_decimals count (n / 10)) (and_from _ _ (digit_is n) refl)

-- at most four digits are those of the number that they spell
pub decimals_again : (digits : List ℕ) → length digits ≤ 4 → list_all is_ascii_digit digits ≡ true → decimals (length digits) (decimal_number digits) ≡ digits
decimals_again [] short h = refl
decimals_again (a ∷ []) short h =
    let p = and_parts (is_ascii_digit a) true h in
    let x = digit_bounds a p.0 in
    let ea : 48 + decimal_number (a ∷ []) % 10 ≡ a = omega (arith, x) in
    rw ea refl
decimals_again (a ∷ b ∷ []) short h =
    let p = and_parts (is_ascii_digit a) (list_all is_ascii_digit (b ∷ [])) h in
    let q = and_parts (is_ascii_digit b) true p.1 in
    let x = digit_bounds a p.0 in
    let y = digit_bounds b q.0 in
    let n = decimal_number (a ∷ b ∷ []) in
    let ea : 48 + n / 10 % 10 ≡ a = omega (arith, x, y) in
    let eb : 48 + n % 10 ≡ b = omega (arith, x, y) in
    λ i. ea i ∷ eb i ∷ []
decimals_again (a ∷ b ∷ c ∷ []) short h =
    let p = and_parts (is_ascii_digit a) (list_all is_ascii_digit (b ∷ c ∷ [])) h in
    let q = and_parts (is_ascii_digit b) (list_all is_ascii_digit (c ∷ [])) p.1 in
    let r = and_parts (is_ascii_digit c) true q.1 in
    let x = digit_bounds a p.0 in
    let y = digit_bounds b q.0 in
    let z = digit_bounds c r.0 in
    let n = decimal_number (a ∷ b ∷ c ∷ []) in
    let ea : 48 + n / 10 / 10 % 10 ≡ a = omega (arith, x, y, z) in
    let eb : 48 + n / 10 % 10 ≡ b = omega (arith, x, y, z) in
    let ec : 48 + n % 10 ≡ c = omega (arith, x, y, z) in
    λ i. ea i ∷ eb i ∷ ec i ∷ []
decimals_again (a ∷ b ∷ c ∷ d ∷ []) short h =
    let p = and_parts (is_ascii_digit a) (list_all is_ascii_digit (b ∷ c ∷ d ∷ [])) h in
    let q = and_parts (is_ascii_digit b) (list_all is_ascii_digit (c ∷ d ∷ [])) p.1 in
    let r = and_parts (is_ascii_digit c) (list_all is_ascii_digit (d ∷ [])) q.1 in
    let s = and_parts (is_ascii_digit d) true r.1 in
    let x = digit_bounds a p.0 in
    let y = digit_bounds b q.0 in
    let z = digit_bounds c r.0 in
    let w = digit_bounds d s.0 in
    let n = decimal_number (a ∷ b ∷ c ∷ d ∷ []) in
    let ea : 48 + n / 10 / 10 / 10 % 10 ≡ a = omega (arith, x, y, z, w) in
    let eb : 48 + n / 10 / 10 % 10 ≡ b = omega (arith, x, y, z, w) in
    let ec : 48 + n / 10 % 10 ≡ c = omega (arith, x, y, z, w) in
    let ed : 48 + n % 10 ≡ d = omega (arith, x, y, z, w) in
    λ i. ea i ∷ eb i ∷ ec i ∷ ed i ∷ []
decimals_again (a ∷ b ∷ c ∷ d ∷ e ∷ more) short h = absurd (omega arith)

-- a part of digits is digits
front_digits : (xs ys : List ℕ) → list_all is_ascii_digit (xs ++ ys) ≡ true → (list_all is_ascii_digit xs ≡ true) × (list_all is_ascii_digit ys ≡ true)
front_digits xs ys h = and_parts (list_all is_ascii_digit xs) (list_all is_ascii_digit ys) (sym (list_all-append is_ascii_digit xs ys) ∙ h)

-- the next few of the digits, and those behind
record Cut (digits : List ℕ) (at end : ℕ) : Type 0 where
  here : decimals (end - at) (decimal_number (slice_range digits at end)) ≡ slice_range digits at end
  later : list_all is_ascii_digit (drop end digits) ≡ true
  parts : drop at digits ≡ slice_range digits at end ++ drop end digits

cut : (digits : List ℕ) (at end : ℕ) → at ≤ end → end ≤ at + 4 → end ≤ length digits → list_all is_ascii_digit (drop at digits) ≡ true → Cut digits at end
cut digits at end le few within h =
    let parts = drop_split digits at end le in
    let both = front_digits (slice_range digits at end) (drop end digits) (ap (list_all is_ascii_digit) (sym parts) ∙ h) in
    let len : length (slice_range digits at end) ≡ end - at = length-take-le (end - at) (drop at digits) (omega (arith, length-drop at digits)) in
    record {
      here = subst (λ (n : ℕ). decimals n (decimal_number (slice_range digits at end)) ≡ slice_range digits at end) len (decimals_again (slice_range digits at end) (omega (arith, len)) both.0);
      later = both.1;
      parts = parts;
    }

-- fourteen digits are those of the six numbers that they spell
pub digits_again : (digits : List ℕ) → length digits ≡ 14 → list_all is_ascii_digit digits ≡ true → moment_digits (moment_of digits) ≡ digits
unfolding moment_digits moment_of
digits_again digits len h =
    let year = cut digits 0 4 (omega arith) (omega arith) (omega (arith, len)) h in
    let month = cut digits 4 6 (omega arith) (omega arith) (omega (arith, len)) year.later in
    let day = cut digits 6 8 (omega arith) (omega arith) (omega (arith, len)) month.later in
    let hour = cut digits 8 10 (omega arith) (omega arith) (omega (arith, len)) day.later in
    let minute = cut digits 10 12 (omega arith) (omega arith) (omega (arith, len)) hour.later in
    let second = cut digits 12 14 (omega arith) (omega arith) (omega (arith, len)) minute.later in
    let end : drop 14 digits ≡ [] = nil_from_length (drop 14 digits) (omega (arith, len, length-drop 14 digits)) in
    let last : drop 12 digits ≡ slice_range digits 12 14 = second.parts ∙ ap (λ (l : List ℕ). slice_range digits 12 14 ++ l) end ∙ append-nil (slice_range digits 12 14) in
    sym (year.parts ∙ ap₂ ◌++◌ (sym year.here)
    (month.parts ∙ ap₂ ◌++◌ (sym month.here)
    (day.parts ∙ ap₂ ◌++◌ (sym day.here)
    (hour.parts ∙ ap₂ ◌++◌ (sym hour.here)
    (minute.parts ∙ ap₂ ◌++◌ (sym minute.here) (last ∙ sym second.here))))))

-- ---- texts

-- a part of the digits is that part of the text
slice_front : (xs ys : List ℕ) (at end : ℕ) → at ≤ end → end ≤ length xs → slice_range (xs ++ ys) at end ≡ slice_range xs at end
slice_front xs ys at end le within =
    ap (take (end - at)) (drop-append-le at xs ys (omega (arith, le, within))) ∙ take-append-le (end - at) (drop at xs) ys (omega (arith, length-drop at xs))

-- the numbers of the text are those of its digits
moment_of_digits : (digits : List ℕ) → length digits ≡ 14 → moment_of (digits ++ 90 ∷ []) ≡ moment_of digits
unfolding moment_of
moment_of_digits digits len = λ i. record {
  year = decimal_number (slice_front digits (90 ∷ []) 0 4 (omega arith) (omega (arith, len)) i);
  month = decimal_number (slice_front digits (90 ∷ []) 4 6 (omega arith) (omega (arith, len)) i);
  day = decimal_number (slice_front digits (90 ∷ []) 6 8 (omega arith) (omega (arith, len)) i);
  hour = decimal_number (slice_front digits (90 ∷ []) 8 10 (omega arith) (omega (arith, len)) i);
  minute = decimal_number (slice_front digits (90 ∷ []) 10 12 (omega arith) (omega (arith, len)) i);
  second = decimal_number (slice_front digits (90 ∷ []) 12 14 (omega arith) (omega (arith, len)) i);
}

-- if a text is that of its numbers, it is a time if they are a moment
time_if_real : (text : List ℕ) → text ≡ moment_text (moment_of text) → is_time text ≡ is_moment (moment_of text)
unfolding is_time
time_if_real text e = ap (λ (b : Bool). is_moment (moment_of text) && b) ((bytes_eq-Decides text (moment_text (moment_of text))).1 e) ∙ and-true (is_moment (moment_of text))

-- fourteen digits and a Z say the moment of their numbers, if they are one
pub read_digits : (digits : List ℕ) → length digits ≡ 14 → list_all is_ascii_digit digits ≡ true → moment_in (digits ++ 90 ∷ []) ≡ if_real (moment_of digits)
unfolding moment_in moment_text
read_digits digits len h =
    let text = digits ++ 90 ∷ [] in
    let same = moment_of_digits digits len in
    let again : text ≡ moment_text (moment_of text) = ap (λ (l : List ℕ). l ++ 90 ∷ []) (sym (digits_again digits len h)) ∙ ap moment_text (sym same) in
    ap (λ (b : Bool). if b then Some (moment_of text) else None) (time_if_real text again) ∙ ap if_real same

-- a text that is no time says no moment
pub not_time : (text : List ℕ) → (is_time text ≡ true → ⊥) → None ≡ moment_in text
unfolding moment_in
not_time text h = rw (false_from_ne_true (is_time text) h) refl

-- a time is the text of its moment, which is real
pub time_is : (text : List ℕ) → is_time text ≡ true → TimeSpells (moment_of text) text
unfolding is_time
time_is text h =
    let p = and_parts (is_moment (moment_of text)) (bytes_eq text (moment_text (moment_of text))) h in
    record { text = (bytes_eq-Decides text (moment_text (moment_of text))).0 p.1; real = p.0 }

-- digits behind digits
joined : (xs ys : List ℕ) → list_all is_ascii_digit xs ≡ true → list_all is_ascii_digit ys ≡ true → list_all is_ascii_digit (xs ++ ys) ≡ true
joined xs ys h g = list_all-append is_ascii_digit xs ys ∙ and_from _ _ h g

-- a moment is written in fourteen digits
all_moment_digits : (m : CivilMoment) → list_all is_ascii_digit (moment_digits m) ≡ true
unfolding moment_digits
all_moment_digits m =
    let seconds = decimals 2 m.second in
    let minutes = decimals 2 m.minute ++ seconds in
    let hours = decimals 2 m.hour ++ minutes in
    let days = decimals 2 m.day ++ hours in
    let h = joined (decimals 2 m.minute) seconds (all_decimals 2 m.minute) (all_decimals 2 m.second) in
    let g = joined (decimals 2 m.hour) minutes (all_decimals 2 m.hour) h in
    let f = joined (decimals 2 m.day) hours (all_decimals 2 m.day) g in
    joined (decimals 4 m.year) (decimals 2 m.month ++ days) (all_decimals 4 m.year) (joined (decimals 2 m.month) days (all_decimals 2 m.month) f)

length-moment_digits : (m : CivilMoment) → length (moment_digits m) ≡ 14
unfolding moment_digits
length-moment_digits m = refl

-- if the bytes before the Z are not fourteen digits, there is no moment
pub not_digits : (digits : List ℕ) → (length digits ≡ 14 → list_all is_ascii_digit digits ≡ true → ⊥) → None ≡ moment_in (digits ++ 90 ∷ [])
unfolding moment_text
not_digits digits h =
    not_time (digits ++ 90 ∷ []) (λ t.
    let m = moment_of (digits ++ 90 ∷ []) in
    let same : digits ≡ moment_digits m = append_cancel_right digits (moment_digits m) (90 ∷ []) (time_is (digits ++ 90 ∷ []) t).text in
    h (ap (λ (l : List ℕ). length l) same ∙ length-moment_digits m) (ap (list_all is_ascii_digit) same ∙ all_moment_digits m))

-- nor is there one without the Z
pub not_zone : (text : List ℕ) → bytes_eq (drop (length text - 1) text) (90 ∷ []) ≡ false → None ≡ moment_in text
unfolding moment_text
not_zone text h =
    not_time text (λ t.
    let digits = moment_digits (moment_of text) in
    let same = (time_is text t).text in
    let len : length text - 1 ≡ length digits = omega (arith, ap (λ (l : List ℕ). length l) same, length-append digits (90 ∷ [])) in
    let last : drop (length text - 1) text ≡ 90 ∷ [] = ap (λ (k : ℕ). drop k text) len ∙ ap (drop (length digits)) same ∙ drop-append_seam digits (90 ∷ []) in
    let no : true ≡ false = sym ((bytes_eq-Decides (drop (length text - 1) text) (90 ∷ [])).1 last) ∙ h in
    absurd cc)

-- a text that ends with the Z
pub zone_is : (text digits : List ℕ) → bytes_eq (drop (length text - 1) text) (90 ∷ []) ≡ true → digits ≡ take (length text - 1) text → text ≡ digits ++ 90 ∷ []
zone_is text digits h e =
    sym (take-append-drop (length text - 1) text)
    ∙ ap₂ ◌++◌ (sym e) ((bytes_eq-Decides (drop (length text - 1) text) (90 ∷ [])).0 h)

-- ---- numbers that are spelled

-- the six numbers of digits
pub told_digits : (digits : List ℕ) (year month day hour minute second : ℕ)
    → year ≡ decimal_number (take 4 digits) → month ≡ decimal_number (slice_range digits 4 6) → day ≡ decimal_number (slice_range digits 6 8)
    → hour ≡ decimal_number (slice_range digits 8 10) → minute ≡ decimal_number (slice_range digits 10 12) → second ≡ decimal_number (slice_range digits 12 14)
    → told_moment year month day hour minute second ≡ moment_of digits
unfolding moment_of
told_digits digits year month day hour minute second y m d h n s = λ i. told_moment (y i) (m i) (d i) (h i) (n i) (s i)

-- numbers that are no moment
pub not_real : (m : CivilMoment) → (IsReal m → ⊥) → None ≡ if_real m
not_real m h = rw (false_from_ne_true (is_moment m) (λ t. h (real_from m t))) refl

-- six signed numbers that are those of m
pub record AreTold (m : CivilMoment) (y mo d h mi s : ℤ) : Type 0 where
  pub year : y ≡ pos m.year
  pub month : mo ≡ pos m.month
  pub day : d ≡ pos m.day
  pub hour : h ≡ pos m.hour
  pub minute : mi ≡ pos m.minute
  pub second : s ≡ pos m.second

-- the date-time of numbers that are one
pub civil_real : (dt : DateTime) (m : CivilMoment) (year month day hour minute second : ℤ) → AreTold m year month day hour minute second
    → IsYmd year month day dt.date → IsHms hour minute second (pos 0) dt.time → 1970 ≤ m.year → Some (civil_moment dt) ≡ if_real m
civil_real dt m year month day hour minute second told_by date time low =
    let y = date.0 ∙ told_by.year in
    let whole : HasWholeSecond dt = record { year = subst (λ (y : ℤ). pos 1970 ≤ℤ y) (sym y) (omega (arith, signed_arith, low)); whole = ap unsigned_abs time.3 } in
    let same : civil_moment dt ≡ m = λ i. told_moment
    (unsigned_abs (y i))
    (unsigned_abs ((date.1 ∙ told_by.month) i))
    (unsigned_abs ((date.2 ∙ told_by.day) i))
    (unsigned_abs ((time.0 ∙ told_by.hour) i))
    (unsigned_abs ((time.1 ∙ told_by.minute) i))
    (unsigned_abs ((time.2 ∙ told_by.second) i)) in
    ap (λ (b : Bool). if b then Some (civil_moment dt) else None) (sym (whole_moment dt whole)) ∙ ap if_real same

-- numbers of a moment are a date and a time of day
pub real_civil : (m : CivilMoment) (year month day hour minute second : ℤ) → AreTold m year month day hour minute second → IsReal m
    → IsDate year month day × IsTime hour minute second (pos 0)
real_civil m year month day hour minute second told_by r =
    let between : (least most n : ℕ) → least ≤ n → n ≤ most → (pos least ≤ℤ pos n) × (pos n ≤ℤ pos most) = λ least most n a b. (omega (arith, signed_arith, a), omega (arith, signed_arith, b)) in
    rw (told_by.year, told_by.month, told_by.day, told_by.hour, told_by.minute, told_by.second) (
      ((omega (arith, signed_arith), omega (arith, signed_arith, r.year)), between 1 12 m.month r.month.0 r.month.1, between 1 (days_of_month m.year m.month) m.day r.day.0 r.day.1),
      (between 0 23 m.hour (omega arith) r.hour, between 0 59 m.minute (omega arith) r.minute, between 0 59 m.second (omega arith) r.second, between 0 999_999_999 0 (omega arith) (omega arith)),
    )

-- ---- a moment has one text, and a text one moment

-- four digits of a number, and two
number_of_four : (n : ℕ) → n < 10000 → decimal_number (decimals 4 n) ≡ n
number_of_four n h = omega (arith, h)

number_of_two : (n : ℕ) → n < 100 → decimal_number (decimals 2 n) ≡ n
number_of_two n h = omega (arith, h)

-- the days of a month are below 100
days_below : (year month day : ℕ) → day ≤ days_of_month year month → day < 100
days_below year month day h = grind arith

-- the numbers of a moment's text are those of the moment
pub text_said : (m : CivilMoment) → is_moment m ≡ true → moment_of (moment_text m) ≡ m
unfolding moment_of moment_text moment_digits
text_said m h =
    let r = real_from m h in
    λ i. told_moment
    (number_of_four m.year (omega (arith, r.year)) i)
    (number_of_two m.month (omega (arith, r.month)) i)
    (number_of_two m.day (days_below m.year m.month m.day r.day.1) i)
    (number_of_two m.hour (omega (arith, r.hour)) i)
    (number_of_two m.minute (omega (arith, r.minute)) i)
    (number_of_two m.second (omega (arith, r.second)) i)

-- what is spelled as a time is one, and of the moment that is found
pub spelled_is : (text : List ℕ) (m : CivilMoment) → TimeSpells m text → (is_time text ≡ true) × (moment_of text ≡ m)
spelled_is text m s =
    let same : moment_of text ≡ m = ap moment_of s.text ∙ text_said m s.real in
    let again : text ≡ moment_text (moment_of text) = s.text ∙ ap moment_text (sym same) in
    (time_if_real text again ∙ ap is_moment same ∙ s.real, same)

-- the moment that is found in a text is that of the text
pub says : (text : List ℕ) → IsMomentOf text (moment_in text)
unfolding moment_in
says text = by_time (is_time text) refl
  where
    by_time : (time : Bool) → is_time text ≡ time → IsMomentOf text (if time then Some (moment_of text) else None)
    by_time true e = time_is text e
    by_time false e = λ m s. let no : true ≡ false = sym (spelled_is text m s).0 ∙ e in absurd cc

-- the text, two digits after two
pub text_by_twos : (m : CivilMoment)
    → decimals 2 (m.year / 100) ++ decimals 2 (m.year % 100) ++ decimals 2 m.month ++ decimals 2 m.day ++ decimals 2 m.hour ++ decimals 2 m.minute ++ decimals 2 m.second ++ 90 ∷ [] ≡ moment_text m
unfolding moment_text moment_digits
text_by_twos m =
    let year = m.year in
    let a : 48 + year / 100 / 10 % 10 ≡ 48 + year / 10 / 10 / 10 % 10 = omega arith in
    let b : 48 + year / 100 % 10 ≡ 48 + year / 10 / 10 % 10 = omega arith in
    let c : 48 + year % 100 / 10 % 10 ≡ 48 + year / 10 % 10 = omega arith in
    let d : 48 + year % 100 % 10 ≡ 48 + year % 10 = omega arith in
    let later = decimals 2 m.month ++ decimals 2 m.day ++ decimals 2 m.hour ++ decimals 2 m.minute ++ decimals 2 m.second ++ 90 ∷ [] in
    λ i. a i ∷ b i ∷ c i ∷ d i ∷ later

-- the moment of a text is real
pub found_real : (text : List ℕ) (found : Option CivilMoment) → found ≡ moment_in text → IfSome found (λ m. is_moment m ≡ true)
found_real text None e = tt
found_real text (Some m) e = let s : IsMomentOf text (Some m) = subst (IsMomentOf text) (sym e) (says text) in s.real

-- what is found in a text is what it says
pub found_says : (text : List ℕ) (found : Option CivilMoment) → found ≡ moment_in text → IsMomentOf text found
found_says text found e = subst (IsMomentOf text) (sym e) (says text)

-- the moment that is found in its text
pub text_found : (m : CivilMoment) → is_moment m ≡ true → moment_in (moment_text m) ≡ Some m
unfolding moment_in
text_found m h =
    let s = spelled_is (moment_text m) m (record { text = refl; real = h }) in
    ap (λ (b : Bool). if b then Some (moment_of (moment_text m)) else None) s.0 ∙ ap (λ (n : CivilMoment). Some n) s.1
