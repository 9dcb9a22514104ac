-- A reader of PDUs, as contracts see it.
use Rattle.std.specs.Prelude.{◌≡◌, ◌⊎◌, ℕ, ◌<◌, Bool, true, false, nat_lt, List, [], ◌++◌, length, Option, Some, None, if◌then◌else◌, MatchOption, ⊤}
use Rattle.rtr_pdu.specs.Version.{header_version, version_in}
use Rattle.rtr_pdu.specs.declared.version.Version.{Version}
use Rattle.rtr_pdu.specs.declared.unit.Unit.{Unit}
use Rattle.rtr_pdu.specs.declared.unit.UnitFault.{UnitFault}
use Rattle.rtr_pdu.specs.declared.unit.UnitFault.TheVariants as faults
use Rattle.rtr_pdu.specs.declared.unit.Next.{Next}
use Rattle.rtr_pdu.specs.declared.unit.Next.TheVariants as next
use Rattle.rtr_pdu.specs.Unit.{Reads, fits}
use Rattle.rtr_pdu.specs.Stream.{as_read, length_of, IsPartial, Shows, IsShortest, end_fault, is_notify}

-- The version of the PDUs that were read, or the one expected from the start, and the bytes that no PDU has given back. `any` and `later`:
-- whether a Serial Notify among these bytes, and one after them, may show any version. And the fault, once one was found.
pub record Reader : Type 0 where
  pub version : Option Version
  pub held : List ℕ
  pub any : Bool
  pub later : Bool
  pub fault : Option UnitFault

-- How many bytes are held at a fault: the header, the whole PDU, or what there was
abbrev pub fault_size : UnitFault → List ℕ → ℕ
fault_size faults.Record bytes = length_of bytes
fault_size faults.ErrorReport bytes = length_of bytes
fault_size faults.Truncated bytes = length bytes
fault_size _ bytes = 8

-- This fault shows in these bytes, and not in fewer.
pub record IsFaulty (version : Version) (any : Bool) (bytes : List ℕ) (fault : UnitFault) : Type 0 where
  pub shows : Shows version (as_read version any bytes) fault
  pub shortest : IsShortest version any bytes
  pub size : length bytes ≡ fault_size fault (as_read version any bytes)

-- These bytes are this PDU, and no fewer are one.
pub record IsRead (version : Version) (any : Bool) (bytes : List ℕ) (u : Unit) : Type 0 where
  pub reads : Reads version u (as_read version any bytes)
  pub shortest : IsShortest version any bytes

-- What these bytes of a PDU are, if this is left of the piece
abbrev pub Judges : Version → Bool → List ℕ → Next → List ℕ → Type 0
Judges version any bytes (next.Unit u) rest = IsRead version any bytes u
Judges version any bytes next.NeedMore rest = IsPartial version (as_read version any bytes) × (rest ≡ [])
Judges version any bytes (next.Fault fault) rest = IsFaulty version any bytes fault

-- Behind these bytes some of the piece are consumed, and this is left.
pub record Advances (version : Version) (any : Bool) (held piece : List ℕ) (answer : Next) (rest now : List ℕ) : Type 0 where
  pub taken : List ℕ
  pub piece_is : piece ≡ taken ++ rest
  pub now_is : now ≡ held ++ taken
  pub judged : Judges version any now answer rest

-- What holds of each reader
abbrev pub ReaderStands : Version → Bool → List ℕ → UnitFault → Type 0
ReaderStands version any bytes faults.Truncated = IsPartial version (as_read version any bytes) × (0 < length bytes)
ReaderStands version any bytes fault = IsFaulty version any bytes fault

-- It holds the beginning of a PDU, or a fault and the bytes that show it.
abbrev pub IsReader : Version → Reader → Type 0
IsReader version r = MatchOption r.fault (IsPartial version (as_read version r.any r.held)) (ReaderStands version r.any r.held)

-- A reader of this version, or of that of the first header, which holds nothing
abbrev pub fresh : Option Version → Bool → Reader
fresh version any = record { version = version; held = []; any = any; later = any; fault = None }

-- The version of a reader, once a header has come whole or if it was known from the start
abbrev pub known_version : Reader → Option Version
known_version r = header_version r.version r.held

-- The version of the current PDU, if these bytes follow
abbrev pub version_with : Reader → List ℕ → Version
version_with r bytes = version_in r.version (r.held ++ bytes)

-- The PDU that is answered is one of this version.
abbrev pub FitsAnswer : Version → Next → Type 0
FitsAnswer version (next.Unit u) = fits version u ≡ true
FitsAnswer version answer = ⊤

-- The reader after an answer for which this was consumed
abbrev pub ReaderGives : Version → Reader → List ℕ → Next → List ℕ → Reader → Type 0
ReaderGives version old taken (next.Unit u) rest new = (old.fault ≡ None) × IsRead version old.any (old.held ++ taken) u × (new ≡ fresh (Some version) old.later)
ReaderGives version old taken next.NeedMore rest new =
    (old.fault ≡ None) × IsPartial version (as_read version old.any (old.held ++ taken)) × (rest ≡ []) × (new ≡ record old { held = old.held ++ taken })
ReaderGives version old taken (next.Fault fault) rest new =
    ((old.fault ≡ None) × IsFaulty version old.any (old.held ++ taken) fault × (new ≡ record old { held = old.held ++ taken; fault = Some fault }))
    ⊎ ((old.fault ≡ Some fault) × (taken ≡ []) × (new ≡ old))

-- A call of `next`: what it consumes is at the front of the piece, and nothing else changes.
pub record ReaderTakes (version : Version) (old : Reader) (piece : List ℕ) (answer : Next) (rest : List ℕ) (new : Reader) : Type 0 where
  pub taken : List ℕ
  pub piece_is : piece ≡ taken ++ rest
  pub gives : ReaderGives version old taken answer rest new

-- A header that has not come whole is read as after agreement.
abbrev pub after_agreed : Reader → Reader
after_agreed r = record r { any = (if nat_lt (length r.held) 8 then false else r.any); later = false }

-- At a router, a PDU that is no Serial Notify is agreement.
abbrev pub told : Unit → Reader → Reader
told u r = elim (is_notify u) [ true ↦ r | false ↦ after_agreed r ]

-- The fault of the input if it ends at the reader's place
abbrev pub at_end : Reader → Option UnitFault
at_end r = end_fault r.held r.fault
