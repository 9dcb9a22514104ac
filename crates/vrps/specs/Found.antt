-- The group that a search ends at.
use Rattle.std.specs.Prelude.{◌≡◌, ℕ, ◌-◌, ◌<◌, Option, Some, None}
use Rattle.vrps.specs.declared.groups.Group.{Group}
use Rattle.vrps.specs.declared.groups.Groups.{Groups}

-- the last of the groups at this many first places, if any
abbrev pub IsLastOf : Groups → ℕ → Option Group → Type 0
IsLastOf groups places None = places ≡ 0
IsLastOf groups places (Some group) = (0 < places) × (group.place ≡ places - 1) × (group.groups.now ≡ groups)
