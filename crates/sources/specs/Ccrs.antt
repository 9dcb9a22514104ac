-- Canonical cache representations (draft-ietf-sidrops-rpki-ccr) as the content of files.
use Rattle.std.specs.Prelude.{◌≡◌, ◌<◌, ◌+◌, ⊤, ℕ, min, List, Option, Some, None}
use Rattle.der_lite.specs.Seconds.{seconds_of}
use Rattle.vrps.specs.VrpSet.{set_of, size}
use Rattle.vrps.specs.declared.set.SetFault.{SetFault}
use Rattle.vrps.specs.declared.set.SetFault.TheVariants as set
use Rattle.ccr.specs.Ccr.{Ccr, CcrFaultAt, CcrSpells, Vrps}
use Rattle.ccr.specs.Faults.{fault_of}
use Rattle.ccr.specs.declared.fault.ReadCcrError.{ReadCcrError}
use Rattle.ccr.specs.declared.fault.ReadCcrError.TheVariants as read
use Rattle.sources.specs.declared.fault.TakeCcrFault.{TakeCcrFault}
use Rattle.sources.specs.declared.fault.TakeCcrFault.TheVariants.{NoMaxAge, Read, NoVrps, TooMany, Memory}

-- The bytes are a representation that was produced at this second, with this list of VRPs and its hash.
pub record Says (bytes : List ℕ) (made : ℕ) (vrps : Vrps) : Type 0 where
  pub ccr : Ccr
  pub spells : CcrSpells ccr bytes
  pub made_is : made ≡ seconds_of ccr.0
  pub vrps_are : ccr.1.1.0 ≡ Some vrps

-- The last second at which its records count, by a maximum age: at a later one it is older.
abbrev pub last_of : ℕ → ℕ → ℕ
last_of made age = min (made + age) 18446744073709551615

-- Why it is refused: there is no maximum age, its bytes have a fault, it has no list of VRPs, or they are too many. Or memory ran out.
abbrev pub IsCcrRefused : Option ℕ → List ℕ → TakeCcrFault → Type 0
IsCcrRefused None bytes NoMaxAge = ⊤
IsCcrRefused None bytes fault = ⊥
IsCcrRefused (Some age) bytes NoMaxAge = ⊥
IsCcrRefused (Some age) bytes (Read fault) = CcrFaultAt bytes (fault_of fault)
IsCcrRefused (Some age) bytes NoVrps = (ccr : Ccr) × CcrSpells ccr bytes × (ccr.1.1.0 ≡ None)
IsCcrRefused (Some age) bytes TooMany = (made : ℕ) × (vrps : Vrps) × Says bytes made vrps × (16777215 < size (set_of vrps.0))
IsCcrRefused (Some age) bytes Memory = ⊤

-- the fault of one that was read ..
abbrev pub of_read : ReadCcrError → TakeCcrFault
of_read (read.At fault) = Read fault
of_read read.Memory = Memory

-- .. and of the set of its VRPs
abbrev pub of_set : SetFault → TakeCcrFault
of_set set.TooMany = TooMany
of_set set.Memory = Memory
