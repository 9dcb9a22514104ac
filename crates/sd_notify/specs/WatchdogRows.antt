-- Watchdogs, worked out.
use Rattle.std.specs.Prelude.{◌≡◌, true, false, refl}
use Rattle.sd_notify.specs.Watchdogs.{half_of, signalled}

half_a_minute : half_of 30000000 ≡ 15000
half_a_minute = refl

two_milliseconds : half_of 2000 ≡ 1
two_milliseconds = refl

less_than_that : half_of 1999 ≡ 1
less_than_that = refl

not_yet : signalled 24999 (15000, 10000) ≡ (false, (15000, 10000))
not_yet = refl

due : signalled 25000 (15000, 10000) ≡ (true, (15000, 25000))
due = refl
