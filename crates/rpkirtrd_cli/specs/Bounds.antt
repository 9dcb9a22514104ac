-- Optional numbers.
use Rattle.std.specs.Prelude.{ℕ, Bool, true, ◌&&◌, nat_le, Option, Some, None}

-- The number is in this range, or there is none.
abbrev pub is_within : ℕ → ℕ → Option ℕ → Bool
is_within least most None = true
is_within least most (Some n) = nat_le least n && nat_le n most
