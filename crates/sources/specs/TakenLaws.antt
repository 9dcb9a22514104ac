-- What is kept of a file says what it exports at later moments too.
use Rattle.std.specs.Prelude.{◌≡◌, ◌↔◌, ℕ, ◌+◌, ◌^◌, ◌<◌, ◌≤◌, cond, nat_le, false, List, [], ◌∷◌, Option, Some, Ok, Err}
use Rattle.vrps.specs.VrpSet.{empty, set_of, size}
use Rattle.exports.specs.Export.{IsExport}
use Rattle.exports.specs.declared.export.Export.{Export}
use Rattle.slurm.specs.declared.fault.SlurmFault.{SlurmFault}
use Rattle.slurm.specs.declared.unite_fault.UniteFault.{UniteFault}
use Rattle.slurm.specs.declared.unite_fault.UniteFault.TheVariants as unite
use Rattle.sources.specs.Ccrs.{last_of}
use Rattle.sources.specs.Served.{IsNothing, IsTaken, IsTakenCcr, TakesSlurm, TakesSlurms, counting_at, ends_between, expired_of}
use Rattle.sources.specs.declared.fault.SlurmSetFault.TheVariants.{File, Unite}
use Rattle.sources.specs.declared.listed.Listed.{Listed}
use Rattle.sources.specs.declared.slurms.AppliedSlurms.{AppliedSlurms}

-- The records of a file that count at a later second are exactly the set that its bytes export then.
abbrev pub StaysTaken : Type 0
StaysTaken =
    (bytes : List ℕ) (now expired : ℕ) (l : Listed) → IsTaken bytes now expired l → (at : ℕ) → now ≤ at → at < 2 ^ 64
    → ((y : Export) × IsExport bytes at y) × ((y : Export) → IsExport bytes at y → y.set ≡ counting_at at l)

-- The VRPs of a canonical cache representation count at a later second until it is older than the maximum age, and then none does.
abbrev pub CcrsEnd : Type 0
CcrsEnd =
    (max_age : Option ℕ) (bytes : List ℕ) (now expired : ℕ) (l : Listed) (taken : IsTakenCcr max_age bytes now expired l) (at : ℕ) → now ≤ at
    → counting_at at l ≡ cond (nat_le at (last_of taken.made taken.age)) (set_of taken.vrps.0) empty

-- Each payload that is kept counts at a second, or is counted as expired.
abbrev pub CountsExpired : Type 0
CountsExpired =
    (bytes : List ℕ) (now expired : ℕ) (l : Listed) → IsTaken bytes now expired l → (at : ℕ) → at < 2 ^ 64
    → size (counting_at at l) + expired_of at (Some l) ≡ size l.set

-- Of a list that has nothing no payload counts at any second, and none has expired.
abbrev pub NothingCounts : Type 0
NothingCounts = (l : Listed) → IsNothing l → (at : ℕ) → (counting_at at l ≡ empty) × (expired_of at (Some l) ≡ 0)

-- If no record of a file ends between two seconds, as many have expired at each second from the first to the last.
abbrev pub NothingEnds : Type 0
NothingEnds = (from to at : ℕ) (l : Option Listed) → ends_between from to l ≡ false → from ≤ at → at ≤ to → expired_of at l ≡ expired_of to l

-- One file is read alike by `TakesSlurm`, and by `TakesSlurms` as the only one.
abbrev pub OneSlurm : Type 0
OneSlurm =
    (bytes : List ℕ) (old new : Option AppliedSlurms)
    → (TakesSlurms (bytes ∷ []) (Ok tt) old new ↔ TakesSlurm bytes (Ok tt) old new)
    × ((fault : SlurmFault) → TakesSlurms (bytes ∷ []) (Err (File 0 fault)) old new ↔ TakesSlurm bytes (Err fault) old new)
    × ((fault : UniteFault) → TakesSlurms (bytes ∷ []) (Err (Unite fault)) old new → fault ≡ unite.Memory)
