-- One PDU from a reader, and one to a writer (RFC 8210 section 5).
use Rattle.std.specs.Prelude.{◌≡◌, ℕ, ◌+◌, ◌-◌, ◌<◌, ◌≤◌, false, nat_lt, List, [], ◌∷◌, ◌++◌, length, take, Option, Some, None, Result, Ok, Err, if◌then◌else◌, ⊤}
use Rattle.std.specs.Io.KnownBytes.{Appends, Consumes, IsAtEnd}
use Rattle.rtr_pdu.specs.declared.version.Version.{Version}
use Rattle.rtr_pdu.specs.declared.unit.Unit.{Unit}
use Rattle.rtr_pdu.specs.declared.unit.UnitFault.{UnitFault}
use Rattle.rtr_pdu.specs.declared.unit.UnitFault.TheVariants as faults
use Rattle.rtr_pdu.specs.declared.device.ReadFault.{ReadFault}
use Rattle.rtr_pdu.specs.declared.device.ReadFault.TheVariants as read_faults
use Rattle.rtr_pdu.specs.declared.counted.Counted.{Counted}
use Rattle.rtr_pdu.specs.Counted.{calls_of, failures_of, HasFailed}
use Rattle.rtr_pdu.specs.Stream.{as_read, length_of, IsPartial, Splits, end_fault}
use Rattle.rtr_pdu.specs.Reader.{IsFaulty, IsRead}

-- What these bytes are: exactly a PDU, or nothing, or the beginning of a PDU, or exactly the bytes that show a fault. If it is known that
-- the input ends, they are the last ones.
abbrev pub ReadAnswers : Version → List ℕ → Option (List ℕ) → Result (Option Unit) ReadFault → Type 0
ReadAnswers version bytes left (Ok (Some u)) = IsRead version false bytes u
ReadAnswers version bytes left (Ok None) = (bytes ≡ []) × IsAtEnd left
ReadAnswers version bytes left (Err (read_faults.Fault faults.Truncated)) = IsPartial version (as_read version false bytes) × (0 < length bytes) × IsAtEnd left
ReadAnswers version bytes left (Err (read_faults.Fault fault)) = IsFaulty version false bytes fault
ReadAnswers version bytes left (Err read_faults.ReadFailed) = IsPartial version (as_read version false bytes)

-- Of what a reader at a cache had left, what this answer speaks of was read, in at most one call for each byte and one more.
pub record ReadsUnit (version : Version) (before left : Option (List ℕ)) (calls now : ℕ) (answer : Result (Option Unit) ReadFault) : Type 0 where
  pub bytes : List ℕ
  pub consumed : Consumes before left bytes
  pub answers : ReadAnswers version bytes left answer
  pub calls_most : now ≤ calls + length bytes + 1

-- No failure was counted and some call was. If the answer is that the reader failed, it did.
abbrev pub CountsRead : {D : Type 0} → Counted D → Counted D → Result (Option Unit) ReadFault → Type 0
CountsRead old new (Err read_faults.ReadFailed) = HasFailed old new
CountsRead old new answer = (failures_of new ≡ failures_of old) × (calls_of old < calls_of new)

-- What this answer, after these bytes were read and if this is left, says of the split of what there was. That is its first PDU, and then
-- the PDUs of what is left; or no PDU, and this fault at its end; or nothing at all.
abbrev pub SaysOfSplit : Version → List ℕ → List ℕ → Result (Option Unit) ReadFault → Type 0
SaysOfSplit version bytes left (Ok (Some u)) =
    (units : List Unit) (rest : List ℕ) (fault : Option UnitFault) → Splits version false left units rest fault → Splits version false (bytes ++ left) (u ∷ units) rest fault
SaysOfSplit version bytes left (Ok None) = bytes ++ left ≡ []
SaysOfSplit version bytes left (Err (read_faults.Fault fault)) =
    (shown : Option UnitFault) × Splits version false (bytes ++ left) [] (bytes ++ left) shown × (end_fault (bytes ++ left) shown ≡ Some fault)
SaysOfSplit version bytes left (Err read_faults.ReadFailed) = ⊤

-- An answer gives the first PDU or fault of the split, if the reader's bytes are known.
abbrev pub TellsFirst : Type 0
TellsFirst = (version : Version) (bytes left : List ℕ) (answer : Result (Option Unit) ReadFault) → ReadAnswers version bytes (Some left) answer → SaysOfSplit version bytes left answer

-- A beginning of these bytes has gone out, and not all of them.
abbrev pub GoesOutInPart : Option (List ℕ) → Option (List ℕ) → List ℕ → Type 0
GoesOutInPart before now bytes = (n : ℕ) × (n < length bytes) × Appends before now (take n bytes)

-- How many bytes are needed behind these of a PDU: to the end of its header, or of the whole
abbrev pub wanted : List ℕ → ℕ
wanted held = if nat_lt (length held) 8 then 8 - length held else length_of held - length held

-- What is answered at the end of the input
abbrev pub end_answer : Option UnitFault → Result (Option Unit) ReadFault
end_answer None = Ok None
end_answer (Some fault) = Err (read_faults.Fault fault)
