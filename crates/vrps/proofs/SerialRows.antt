-- Serial numbers, worked out.
use Rattle.std.proofs.Common.{◌≡◌, true, false, refl}
use Rattle.vrps.specs.Serial.{is_before, serial_at}

half_way : is_before 5 2147483652 ≡ true
half_way = refl

past_half_way : is_before 5 2147483653 ≡ false
past_half_way = refl

same : is_before 5 5 ≡ false
same = refl

goes_round : is_before 4294967295 0 ≡ true
goes_round = refl

next_round : serial_at 4294967295 1 ≡ 0
next_round = refl
