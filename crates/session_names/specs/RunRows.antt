-- Runs, worked out.
use Rattle.std.specs.Prelude.{◌≡◌, ℕ, ◌+◌, true, false, None, Some, ◌∷◌, [], refl}
use Rattle.vrps.specs.Serial.{is_before}
use Rattle.session_names.specs.Runs.{Run, may_publish, serial_in}

-- a run that started at this second and published twice
abbrev run : ℕ → Run
run start = record { start = start; moments = start ∷ (start + 1) ∷ [] }

first_at_once : may_publish None 0 ≡ true
first_at_once = refl

same_second : may_publish (Some 1764096000) 1764096000 ≡ false
same_second = refl

second_after : may_publish (Some 1764096000) 1764096001 ≡ true
second_after = refl

clock_back : may_publish (Some 1764096000) 1764095999 ≡ false
clock_back = refl

second_version : serial_in (run 1764096000) 1 ≡ 1764096001
second_version = refl

-- both versions of a run, and the first of a run that started two seconds later
next_run : is_before (serial_in (run 1764096000) 1) (serial_in (run 1764096002) 0) ≡ true
next_run = refl

-- a run that started in the second of the last version has its serial
same_serial : is_before (serial_in (run 1764096000) 1) (serial_in (run 1764096001) 0) ≡ false
same_serial = refl

-- past 2^32, in the year 2106
round_inside : serial_in (run 4294967295) 1 ≡ 0
round_inside = refl

round_between : is_before (serial_in (run 4294967295) 0) (serial_in (run 4294967296) 0) ≡ true
round_between = refl

-- 2^31 - 1 seconds later, and 2^31
far : is_before (serial_in (run 1764096000) 0) (serial_in (run 3911579647) 0) ≡ true
far = refl

too_far : is_before (serial_in (run 1764096000) 0) (serial_in (run 3911579648) 0) ≡ false
too_far = refl
