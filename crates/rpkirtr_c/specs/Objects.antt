-- Payloads of signed objects that are decoded for C.
use Rattle.std.specs.Prelude.{◌≡◌, ℕ, ℤ, List, Option, Some, None}
use Rattle.payloads.specs.Faults.{kind_number}
use Rattle.payloads.specs.RoaValues.{RoaValue, RoaSpells, RoaFaultAt, payloads_of}
use Rattle.payloads.specs.declared.fault.GrammarFault.{GrammarFault}
use Rattle.payloads.specs.declared.fault.PayloadFault.{PayloadFault}
use Rattle.payloads.specs.declared.fault.PayloadFault.TheVariants.{At, Memory}
use Rattle.rpkirtr_c.specs.Answers.{number}
use Rattle.rpkirtr_c.specs.declared.authorization.Authorization.{Authorization}
use Rattle.rpkirtr_c.specs.declared.objects.CFault.{CFault}
use Rattle.rpkirtr_c.specs.declared.call_status.CallStatus.{CallStatus}
use Rattle.rpkirtr_c.specs.declared.call_status.CallStatus.TheVariants.{Done, Live, NoMemory, BadPayload}

abbrev pub no_fault : CFault
no_fault = record { offset = 0; kind = 0; zero_ = 0 }

-- a fault in C: the number of its kind, and the offset of the byte at which it shows
abbrev pub fault_of : GrammarFault → CFault
fault_of fault = record { offset = fault.offset; kind = kind_number fault.kind; zero_ = 0 }

abbrev pub told_fault : PayloadFault → CFault
told_fault (At fault) = fault_of fault
told_fault Memory = no_fault

abbrev pub payload_status : PayloadFault → CallStatus
payload_status (At fault) = BadPayload
payload_status Memory = NoMemory

-- These are the AS and the payloads of the ROA that the bytes spell.
abbrev pub IsAuthorization : List ℕ → Authorization → Type 0
IsAuthorization bytes a = (roa : RoaValue) × RoaSpells roa bytes × (a.asn.0 ≡ roa.asn) × (a.vrps.items ≡ payloads_of roa)

-- why there is no ROA: the bytes spell none, and this is their first fault; or they spell one, and memory ran out
abbrev pub IsRoaFault : List ℕ → PayloadFault → Type 0
IsRoaFault bytes (At fault) = RoaFaultAt bytes fault.offset (kind_number fault.kind)
IsRoaFault bytes Memory = (roa : RoaValue) × RoaSpells roa bytes

-- A payload is decoded in an empty handle, or it stays empty for a fault, which is written. A live handle stays as it is.
abbrev pub NewDecoded : {X : Type 0} → (X → Type 0) → (PayloadFault → Type 0) → Option X → Option X → ℤ → CFault → Type 0
NewDecoded Is IsFault None (Some x) answer told = (answer ≡ number Done) × Is x × (told ≡ no_fault)
NewDecoded Is IsFault None None answer told = (fault : PayloadFault) × IsFault fault × (answer ≡ number (payload_status fault)) × (told ≡ told_fault fault)
NewDecoded Is IsFault (Some x) (Some y) answer told = (answer ≡ number Live) × (y ≡ x) × (told ≡ no_fault)
NewDecoded Is IsFault (Some x) None answer told = ⊥

-- A ROA is decoded so.
abbrev pub NewRoa : List ℕ → Option Authorization → Option Authorization → ℤ → CFault → Type 0
NewRoa bytes old new answer told = NewDecoded (IsAuthorization bytes) (IsRoaFault bytes) old new answer told
