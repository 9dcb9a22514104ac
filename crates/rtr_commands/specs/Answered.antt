-- What the cache answers to bytes, line by line.
use Rattle.std.specs.Prelude.{◌≡◌, ℕ, ◌-◌, Bool, false, List, [], ◌∷◌, ◌++◌, length, string_bytes, Option, Some, None, MatchBool, ⊤}
use Rattle.std.specs.List.{AllByRecursion}
use Rattle.vrps.specs.Instance.{Instance}
use Rattle.rtr_pdu.specs.Version.{first_version}
use Rattle.rtr_pdu.specs.Stream.{Splits}
use Rattle.rtr_pdu.specs.declared.unit.Unit.{Unit}
use Rattle.rtr_pdu.specs.declared.unit.UnitFault.{UnitFault}
use Rattle.rtr_ends.specs.Connection.{Connection, ConnMoment, Read, Wanting, Fault, Notify, Pull, IsHistory, after_all, in_version, opened, replies_from}
use Rattle.rtr_ends.specs.Timing.{default_intervals}
use Rattle.rtr_commands.specs.declared.answering.Answered.{Answered}
use Rattle.rtr_commands.specs.Lines.{lines_of}

-- PDUs are read and answered as the cache is, bytes show a fault, or bytes are pulled. Nothing else happens: memory does not run out.
abbrev pub IsOf : Instance → ConnMoment → Type 0
IsOf i (Read version cache unit bytes) = cache ≡ i
IsOf i (Wanting version cache unit bytes) = ⊥
IsOf i (Fault version fault bytes) = ⊤
IsOf i (Notify version cache held) = ⊥
IsOf i (Pull count) = ⊤

abbrev pub at_input_end : Instance → List ConnMoment → Connection
at_input_end i moments = after_all 1 default_intervals (opened i) moments

-- Bytes are received on a connection of this cache to the last, or to its end, and all that is due is pulled. These PDUs, in the version of
-- the first header, are its replies, and this says whether it has ended.
pub record Replies (i : Instance) (bytes : List ℕ) (units : List Unit) (ended : Bool) : Type 0 where
  pub moments : List ConnMoment
  pub came : List ℕ
  pub rest : List ℕ
  pub whole : bytes ≡ came ++ rest
  pub history : IsHistory 1 default_intervals (opened i) moments came
  pub own : AllByRecursion (IsOf i) moments
  pub pulled : (at_input_end i moments).due ≡ []
  pub ended_is : (at_input_end i moments).ended ≡ ended
  pub all : ended ≡ false → rest ≡ []
  pub units_are : in_version (first_version bytes) units ≡ replies_from 1 default_intervals None moments

-- the place of the beginning of a PDU that follows the PDUs of a stream
abbrev pub offset_of : ℕ → List ℕ → Option UnitFault → Option ℕ
offset_of size (b ∷ rest) None = Some (size - length (b ∷ rest))
offset_of size rest fault = None

pub record LeavesOff (bytes : List ℕ) (left : Option ℕ) : Type 0 where
  pub units : List Unit
  pub rest : List ℕ
  pub fault : Option UnitFault
  pub splits : Splits (first_version bytes) false bytes units rest fault
  pub left_is : left ≡ offset_of (length bytes) rest fault

-- A line shows each PDU of the replies. What is left is nothing if the connection has ended.
pub record AnswersBytes (i : Instance) (bytes : List ℕ) (answered : Answered) : Type 0 where
  pub units : List Unit
  pub ended : Bool
  pub replies : Replies i bytes units ended
  pub lines : string_bytes answered.lines ≡ lines_of (first_version bytes) units
  pub left : MatchBool ended (answered.left ≡ None) (LeavesOff bytes answered.left)
