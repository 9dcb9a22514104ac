-- Which serials there are, in whatever order.
use Rattle.std.specs.Prelude.{ℕ, List, ◌↔◌}
use Rattle.std.specs.List.{Contains}

-- two lists have the same members
abbrev pub SameMembers : List (List ℕ) → List (List ℕ) → Type 0
SameMembers these others = (serial : List ℕ) → Contains these serial ↔ Contains others serial
