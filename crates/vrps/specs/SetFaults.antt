-- The numbers of faults, and the set of a list if there is one.
use Rattle.std.specs.Prelude.{◌≡◌, ◌↔◌, ℕ, ◌<◌, List, Result, Err, IfOk, OnErr}
use Rattle.prefixes.specs.Payload.{Payload}
use Rattle.vrps.specs.VrpSet.{VrpSet, set_of, size}
use Rattle.vrps.specs.declared.path.PathFault.{PathFault}
use Rattle.vrps.specs.declared.path.PathFault.TheVariants.{EmptySequence}
use Rattle.vrps.specs.declared.set.SetFault.{SetFault}
use Rattle.vrps.specs.declared.set.SetFault.TheVariants.{TooMany, Memory}

abbrev pub set_fault_number : SetFault → ℕ
set_fault_number TooMany = 1
set_fault_number Memory = 2

abbrev pub path_fault_number : PathFault → ℕ
path_fault_number EmptySequence = 1

-- The set of a list. It is refused exactly if it has more members than a set may have.
abbrev pub IsSetOf : List Payload → Result VrpSet SetFault → Type 0
IsSetOf list result =
    IfOk result (λ s. s ≡ set_of list) × ((result ≡ Err TooMany) ↔ (16777215 < size (set_of list))) × OnErr result (result ≡ Err TooMany)
