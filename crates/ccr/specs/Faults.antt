-- Faults by their numbers, and what the functions that read give.
use Rattle.std.specs.Prelude.{◌≡◌, ℕ, List, ◌++◌, Result, Ok, Err}
use Rattle.der_lite.specs.Place.{Place, Fault}
use Rattle.der_lite.specs.Cursors.{der_kind_number as element_number}
use Rattle.prefixes.specs.Payload.{Payload}
use Rattle.payloads.specs.Faults.{kind_number as roa_number}
use Rattle.ccr.specs.declared.fault.CcrFaultKind.{CcrFaultKind}
use Rattle.ccr.specs.declared.fault.CcrFaultKind.TheVariants.{Element, PayloadSet, ContentType, Version, HashAlgorithm, Hash, SetOrder}
use Rattle.ccr.specs.declared.fault.CcrFault.{CcrFault}
use Rattle.ccr.specs.declared.fault.ReadCcrError.{ReadCcrError}
use Rattle.ccr.specs.declared.fault.ReadCcrError.TheVariants.{At, Memory}
use Rattle.ccr.specs.Ccr.{Ccr, CcrSpells, CcrFaultAt}

-- the number of each kind of fault
abbrev pub kind_number : CcrFaultKind → ℕ
kind_number (Element kind) = element_number kind
kind_number (PayloadSet kind) = roa_number kind
kind_number ContentType = 21
kind_number Version = 22
kind_number HashAlgorithm = 23
kind_number Hash = 24
kind_number SetOrder = 25

-- a fault by its number
abbrev pub fault_of : CcrFault → Fault
fault_of fault = record { number = kind_number fault.kind; offset = fault.offset }

-- What was read and the cursor's new place, or the first fault.
abbrev pub GivesNext : {X V : Type 0} → (X → V) → Result X CcrFault → Place → Result (V × Place) Fault → Type 0
GivesNext view (Ok x) new read = read ≡ Ok (view x, new)
GivesNext view (Err e) new read = read ≡ Err (fault_of e)

-- What was read to the end, or the first fault.
abbrev pub GivesAll : {X V : Type 0} → (X → V) → Result X CcrFault → Result V Fault → Type 0
GivesAll view (Ok x) read = read ≡ Ok (view x)
GivesAll view (Err e) read = read ≡ Err (fault_of e)

-- What was read, and the cursor's new place; or the first fault; or memory ran out.
abbrev pub GivesOrMemory : {X V : Type 0} → (X → V) → Result X ReadCcrError → Place → Result (V × Place) Fault → Type 0
GivesOrMemory view (Ok x) new read = read ≡ Ok (view x, new)
GivesOrMemory view (Err (At e)) new read = read ≡ Err (fault_of e)
GivesOrMemory view (Err Memory) new read = Unit {0}

-- What was read to the end; or the first fault; or memory ran out.
abbrev pub GivesAllOrMemory : {X V : Type 0} → (X → V) → Result X ReadCcrError → Result V Fault → Type 0
GivesAllOrMemory view (Ok x) read = read ≡ Ok (view x)
GivesAllOrMemory view (Err (At e)) read = read ≡ Err (fault_of e)
GivesAllOrMemory view (Err Memory) read = Unit {0}

-- A part of what was read is this, and it ends at this place.
abbrev pub EndsAt : {X V W : Type 0} → (V → W) → (X → W) → Place → X → V × Place → Type 0
EndsAt part view new x read = (part read.0 ≡ view x) × (read.1 ≡ new)

-- What was read, whose payloads came after the others; or the first fault; or memory ran out.
abbrev pub ListsPayloads : {X V : Type 0} → (X → V → Type 0) → (V → List Payload) → Result X ReadCcrError → List Payload → List Payload → Result V Fault → Type 0
ListsPayloads {X} {V} Is payloads (Ok x) old new read = (v : V) × (read ≡ Ok v) × Is x v × (new ≡ old ++ payloads v)
ListsPayloads Is payloads (Err (At e)) old new read = read ≡ Err (fault_of e)
ListsPayloads Is payloads (Err Memory) old new read = Unit {0}

-- The bytes are this representation; or this is their first fault; or memory ran out.
abbrev pub ReadsCcr : {X : Type 0} → (X → Ccr) → Result X ReadCcrError → List ℕ → Type 0
ReadsCcr view (Ok x) bytes = CcrSpells (view x) bytes
ReadsCcr view (Err (At e)) bytes = CcrFaultAt bytes (fault_of e)
ReadsCcr view (Err Memory) bytes = Unit {0}
