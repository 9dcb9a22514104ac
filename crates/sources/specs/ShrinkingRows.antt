-- When an export is too short, worked out.
use Rattle.std.specs.Prelude.{◌≡◌, true, false, Some, None, refl}
use Rattle.sources.specs.Shrinking.{is_guarded, is_too_short}

-- of 1,000 records 90 % may go
a_tenth_is_left : is_too_short 90 1000 100 ≡ false
a_tenth_is_left = refl

less_is_left : is_too_short 90 1000 99 ≡ true
less_is_left = refl

-- a file that had fewer than 1,000 may lose them all
few_are_gone : is_too_short 90 999 0 ≡ false
few_are_gone = refl

-- 700,000 records, and then 3
an_error_page : is_too_short 90 700000 3 ≡ true
an_error_page = refl

-- parts of a record count: 10 % of 1,009 are 100.9
part_of_one : is_too_short 90 1009 100 ≡ true
part_of_one = refl

all_of_them : is_too_short 99 1000 10 ≡ false
all_of_them = refl

almost_all : is_too_short 99 1000 9 ≡ true
almost_all = refl

a_hundredth : is_too_short 1 1000 990 ≡ false
a_hundredth = refl

more_than_that : is_too_short 1 1000 989 ≡ true
more_than_that = refl

longer : is_too_short 1 1000 2000 ≡ false
longer = refl

without_a_guard : is_guarded None 700000 0 ≡ false
without_a_guard = refl

with_a_guard : is_guarded (Some 90) 700000 3 ≡ true
with_a_guard = refl
