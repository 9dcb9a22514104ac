-- Moments, worked out.
use Rattle.std.specs.Prelude.{◌≡◌, ℕ, ◌∷◌, [], List, ◌++◌, true, false, codes, Some, None, Ok, Err, refl}
use Rattle.der_lite.specs.Moments.{told_moment, is_moment, moment_before, moment_digits, moment_text, moment_of, is_time, moment_in}
use Rattle.der_lite.specs.Place.{Place, place_of}
use Rattle.der_lite.specs.Der.{head_rules, has_der_length, length_bytes, length_end, content_end, is_truncated}
use Rattle.der_lite.specs.DerReading.{content_place, next_place, element_at, content_at, time_at}

-- the last second of all
written : moment_text (told_moment 9999 12 31 23 59 59) ≡ codes "99991231235959Z"
unfolding moment_text moment_digits
written = refl

-- the first one, which has zeros in each number
written_first : moment_text (told_moment 1970 1 1 0 0 0) ≡ codes "19700101000000Z"
unfolding moment_text moment_digits
written_first = refl

read_first : moment_in (codes "19700101000000Z") ≡ Some (told_moment 1970 1 1 0 0 0)
unfolding moment_in is_time moment_of moment_text moment_digits is_moment
read_first = refl

read_last : moment_in (codes "99991231235959Z") ≡ Some (told_moment 9999 12 31 23 59 59)
unfolding moment_in is_time moment_of moment_text moment_digits is_moment
read_last = refl

-- 29 February in each fourth year, but of the centuries only in each fourth
february_1972 : moment_in (codes "19720229000000Z") ≡ Some (told_moment 1972 2 29 0 0 0)
unfolding moment_in is_time moment_of moment_text moment_digits is_moment
february_1972 = refl

february_2000 : moment_in (codes "20000229235959Z") ≡ Some (told_moment 2000 2 29 23 59 59)
unfolding moment_in is_time moment_of moment_text moment_digits is_moment
february_2000 = refl

february_2400 : moment_in (codes "24000229000000Z") ≡ Some (told_moment 2400 2 29 0 0 0)
unfolding moment_in is_time moment_of moment_text moment_digits is_moment
february_2400 = refl

february_2100 : moment_in (codes "21000229000000Z") ≡ None
unfolding moment_in is_time moment_of moment_text moment_digits is_moment
february_2100 = refl

february_2025 : moment_in (codes "20250229000000Z") ≡ None
unfolding moment_in is_time moment_of moment_text moment_digits is_moment
february_2025 = refl

-- April has thirty days
april : moment_in (codes "20250431000000Z") ≡ None
unfolding moment_in is_time moment_of moment_text moment_digits is_moment
april = refl

thirteenth_month : moment_in (codes "20251301000000Z") ≡ None
unfolding moment_in is_time moment_of moment_text moment_digits is_moment
thirteenth_month = refl

no_month : moment_in (codes "20250001000000Z") ≡ None
unfolding moment_in is_time moment_of moment_text moment_digits is_moment
no_month = refl

no_day : moment_in (codes "20250100000000Z") ≡ None
unfolding moment_in is_time moment_of moment_text moment_digits is_moment
no_day = refl

hour_24 : moment_in (codes "20250101240000Z") ≡ None
unfolding moment_in is_time moment_of moment_text moment_digits is_moment
hour_24 = refl

minute_60 : moment_in (codes "20250101006000Z") ≡ None
unfolding moment_in is_time moment_of moment_text moment_digits is_moment
minute_60 = refl

-- a leap second
second_60 : moment_in (codes "20161231235960Z") ≡ None
unfolding moment_in is_time moment_of moment_text moment_digits is_moment
second_60 = refl

year_1969 : moment_in (codes "19691231235959Z") ≡ None
unfolding moment_in is_time moment_of moment_text moment_digits is_moment
year_1969 = refl

-- 14 bytes, without the Z and without a digit
no_zone : moment_in (codes "20250101000000") ≡ None
unfolding moment_in is_time moment_of moment_text moment_digits is_moment
no_zone = refl

thirteen_digits : moment_in (codes "2025010100000Z") ≡ None
unfolding moment_in is_time moment_of moment_text moment_digits is_moment
thirteen_digits = refl

-- 16 bytes
sixteen : moment_in (codes "20250101000000ZZ") ≡ None
unfolding moment_in is_time moment_of moment_text moment_digits is_moment
sixteen = refl

-- a small letter, and a blank in place of a digit
small_letter : moment_in (codes "20250101000000z") ≡ None
unfolding moment_in is_time moment_of moment_text moment_digits is_moment
small_letter = refl

blank : moment_in (codes "2025 101000000Z") ≡ None
unfolding moment_in is_time moment_of moment_text moment_digits is_moment
blank = refl

-- a colon, which follows 9, is not read as ten
colon : moment_in (codes "202501:1000000Z") ≡ None
unfolding moment_in is_time moment_of moment_text moment_digits is_moment
colon = refl

-- one second before
before_new_year : moment_before (told_moment 2025 12 31 23 59 59) (told_moment 2026 1 1 0 0 0) ≡ true
unfolding moment_before
before_new_year = refl

not_before_itself : moment_before (told_moment 2026 1 1 0 0 0) (told_moment 2026 1 1 0 0 0) ≡ false
unfolding moment_before
not_before_itself = refl

-- the earlier number decides, not the sum of them
year_decides : moment_before (told_moment 2026 1 1 0 0 0) (told_moment 2025 12 31 23 59 59) ≡ false
unfolding moment_before
year_decides = refl

-- ---- elements

-- a tag and a content of 15 bytes, at offset 7, with a NULL behind them
place : ℕ → List ℕ → Place
place tag text = place_of 7 (tag ∷ 15 ∷ text ++ 5 ∷ 0 ∷ [])

read_noon : time_at (place 24 (codes "20250101120000Z")) ≡ Ok (told_moment 2025 1 1 12 0 0, place_of 24 (5 ∷ 0 ∷ []))
unfolding place time_at content_at element_at content_place next_place head_rules is_truncated has_der_length length_bytes length_end content_end moment_in is_time moment_of moment_text moment_digits is_moment
read_noon = refl

-- a UTCTime has another tag
utc_time : time_at (place 23 (codes "20250101120000Z")) ≡ Err (record { number = 2; offset = 7 })
unfolding place time_at content_at element_at content_place next_place head_rules is_truncated has_der_length length_bytes length_end content_end
utc_time = refl

common_february : time_at (place 24 (codes "20250229120000Z")) ≡ Err (record { number = 4; offset = 7 })
unfolding place time_at content_at element_at content_place next_place head_rules is_truncated has_der_length length_bytes length_end content_end is_time moment_of moment_text moment_digits is_moment
common_february = refl
