-- What the newest version changed.
use Rattle.std.specs.Prelude.{ℕ, List, Option, take, slice_get}
use Rattle.vrps.specs.Steps.{steps_of}
use Rattle.vrps.specs.VrpSet.{VrpSet}
use Rattle.vrps.specs.declared.change.Change.{Change}

-- The step to the current version from the one before it, of a log that keeps this many
abbrev pub newest_step : ℕ → List VrpSet → Option Change
newest_step keep sets = slice_get (take keep (steps_of sets)) 0
