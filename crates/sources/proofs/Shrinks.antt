-- Content that is too short is refused.
use Rattle.std.proofs.Common.{◌≡◌, ℕ, List}
use Rattle.std.specs.Prelude.{Option, None, Some, Result, Ok, Err}
use Rattle.sources.specs.Served.{TakesExport}
use Rattle.sources.specs.Shrinking.{TakesWithin}
use Rattle.sources.specs.declared.fault.TakeFault.{TakeFault}
use Rattle.sources.specs.declared.fault.TakeFault.TheVariants.{NoSuchFile, Export, Ccr, Shrank}
use Rattle.sources.specs.declared.listed.Listed.{Listed}

-- Without a percentage nothing is too short.
pub without_guard : (max_age : Option ℕ) (bytes : List ℕ) (now i : ℕ) (r : Result ℕ TakeFault) (old new : List Listed) → TakesWithin max_age None bytes now i r old new → TakesExport max_age bytes now i r old new
without_guard max_age bytes now i (Ok expired) old new h = (h.0, (h.1.0, h.1.1, h.1.3))
without_guard max_age bytes now i (Err NoSuchFile) old new h = h
without_guard max_age bytes now i (Err (Export fault)) old new h = h
without_guard max_age bytes now i (Err (Ccr fault)) old new h = h
without_guard max_age bytes now i (Err (Shrank percent had has)) old new h = absurd (let never : None ≡ Some percent = h.0.0 in cc)
