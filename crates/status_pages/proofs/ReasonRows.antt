-- Whether a call on a file was slow, and whether a trust anchor shrank, worked out.
use Rattle.std.proofs.Common.{◌≡◌, None, Some, true, false, refl}
use Rattle.status_pages.specs.Reasons.{is_slow, is_under_half}

-- more than five seconds, and no less,
slow : is_slow 100 (Some (record { milliseconds = 5001; at = 100 })) ≡ true
slow = refl

fast : is_slow 100 (Some (record { milliseconds = 5000; at = 100 })) ≡ false
fast = refl

-- for an hour, and no longer,
recent : is_slow 3700 (Some (record { milliseconds = 5001; at = 100 })) ≡ true
recent = refl

past : is_slow 3701 (Some (record { milliseconds = 5001; at = 100 })) ≡ false
past = refl

-- and also if the clock was set back since. Without a call there is none.
ahead : is_slow 99 (Some (record { milliseconds = 5001; at = 100 })) ≡ true
ahead = refl

none : is_slow 100 None ≡ false
none = refl

-- A trust anchor that had 1,000 VRPs has shrunk if it has fewer than half of them,
under_half : is_under_half 499 (Some (record { vrps = 1000; until = 100 })) ≡ true
under_half = refl

half : is_under_half 500 (Some (record { vrps = 1000; until = 100 })) ≡ false
half = refl

-- also if it had an odd number of them,
under_odd_half : is_under_half 500 (Some (record { vrps = 1001; until = 100 })) ≡ true
under_odd_half = refl

over_odd_half : is_under_half 501 (Some (record { vrps = 1001; until = 100 })) ≡ false
over_odd_half = refl

-- or has vanished. One that had 999 has not, and none of which no earlier number is known.
vanished : is_under_half 0 (Some (record { vrps = 1000; until = 100 })) ≡ true
vanished = refl

small : is_under_half 0 (Some (record { vrps = 999; until = 100 })) ≡ false
small = refl

first : is_under_half 0 None ≡ false
first = refl
