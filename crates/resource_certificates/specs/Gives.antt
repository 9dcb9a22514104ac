-- What the functions that read give.
use Rattle.std.specs.Prelude.{◌≡◌, ℕ, List, Result, Ok, Err}
use Rattle.der_lite.specs.Place.{Place, Fault, place_of}
use Rattle.resource_certificates.specs.declared.fault.CertificateFault.{CertificateFault}
use Rattle.resource_certificates.specs.declared.fault.CrlFault.{CrlFault}
use Rattle.resource_certificates.specs.declared.fault.CrlFault.TheVariants.{At, Memory}
use Rattle.resource_certificates.specs.Faults.{fault_of}
use Rattle.resource_certificates.specs.Extensions.{Extension, Found, found_in}
use Rattle.resource_certificates.specs.Certificates.{Certificate, file}

-- What was read and the cursor's new place, or the first fault.
abbrev pub GivesNext : {X V : Type 0} → (X → V) → Result X CertificateFault → Place → Result (V × Place) Fault → Type 0
GivesNext view (Ok x) new read = read ≡ Ok (view x, new)
GivesNext view (Err e) new read = read ≡ Err (fault_of e)

-- What was read to the end, or the first fault.
abbrev pub GivesAll : {X V : Type 0} → (X → V) → Result X CertificateFault → Result V Fault → Type 0
GivesAll view (Ok x) read = read ≡ Ok (view x)
GivesAll view (Err e) read = read ≡ Err (fault_of e)

-- Extensions were read to the end, of which these values were found; or the first fault.
abbrev pub GivesFound : {X : Type 0} → (X → Found) → Result X CertificateFault → Result (List Extension) Fault → Type 0
GivesFound view (Ok x) read = (extensions : List Extension) × (read ≡ Ok extensions) × (view x ≡ found_in extensions)
GivesFound view (Err e) read = read ≡ Err (fault_of e)

-- The bytes are this certificate, or this is their first fault.
abbrev pub ReadsFile : {X : Type 0} → (X → Certificate) → Result X CertificateFault → List ℕ → Type 0
ReadsFile view (Ok x) bytes = file.Spells (view x) bytes
ReadsFile view (Err e) bytes = file.FaultAt (place_of 0 bytes) (fault_of e)

-- What was read, and the cursor's new place; or the first fault; or memory ran out.
abbrev pub GivesOrMemory : {X V : Type 0} → (X → V) → Result X CrlFault → Place → Result (V × Place) Fault → Type 0
GivesOrMemory view (Ok x) new read = read ≡ Ok (view x, new)
GivesOrMemory view (Err (At e)) new read = read ≡ Err (fault_of e)
GivesOrMemory view (Err Memory) new read = Unit {0}

-- What was read to the end; or the first fault; or memory ran out.
abbrev pub GivesAllOrMemory : {X V : Type 0} → (X → V) → Result X CrlFault → Result V Fault → Type 0
GivesAllOrMemory view (Ok x) read = read ≡ Ok (view x)
GivesAllOrMemory view (Err (At e)) read = read ≡ Err (fault_of e)
GivesAllOrMemory view (Err Memory) read = Unit {0}
