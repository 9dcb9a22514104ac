-- Times in milliseconds.
use Rattle.std.specs.Prelude.{ℕ, ◌+◌, min}

-- a time that is later by so much, in 64 bits
abbrev pub later_by : ℕ → ℕ → ℕ
later_by span millis = min (millis + span) 18446744073709551615
