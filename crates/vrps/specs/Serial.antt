-- Serial numbers, which count modulo 2^32 (RFC 1982; RFC 8210 section 2).
use Rattle.std.specs.Prelude.{ℕ, ◌+◌, ◌-◌, ◌%◌, ◌^◌, Bool, ◌&&◌, nat_lt, nat_le}

-- the serial of the version at a position, counted from the first one
abbrev pub serial_at : ℕ → ℕ → ℕ
serial_at start position = (start + position) % 2 ^ 32

-- how many versions b is ahead of a
abbrev pub steps_to : ℕ → ℕ → ℕ
steps_to a b = (b + 2 ^ 32 - a % 2 ^ 32) % 2 ^ 32

-- a is before b: b is 1 to 2^31 - 1 versions ahead (RFC 1982 section 3.2).
abbrev pub is_before : ℕ → ℕ → Bool
is_before a b = nat_le 1 (steps_to a b) && nat_lt (steps_to a b) (2 ^ 31)
