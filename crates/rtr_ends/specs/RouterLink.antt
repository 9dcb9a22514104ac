-- The link of a router to its cache, how it ends, and what is seen of it (RFC 8210 sections 5 to 8).
use Rattle.std.specs.Prelude.{ℕ, Bool, true, false, not, nat_lt, List, ◌++◌, Option, Some, None, Result, Ok, Err, codes, ⊤}
use Rattle.std.specs.Fmt.{decimal}
use Rattle.rtr_pdu.specs.declared.version.Version.{Version}
use Rattle.rtr_ends.specs.Transcript.{Question, Begun, Committed}
use Rattle.rtr_ends.specs.declared.link.AskFault.{AskFault}
use Rattle.rtr_ends.specs.declared.link.AskFault.TheVariants.{Busy, NotConnected}
use Rattle.rtr_ends.specs.declared.link.End.{End}
use Rattle.rtr_ends.specs.declared.link.End.TheVariants as ends
use Rattle.rtr_ends.specs.declared.link.Link as code
use Rattle.rtr_ends.specs.declared.link.Link.TheVariants as links

-- A link is closed; or idle; or its question is not answered yet; or an answer has begun; or it has ended and is still to be closed.
pub data Link : Type 0 where
  Closed : Link
  Idle : Link
  Asked : (question : Question) → Link
  Answering : (answer : Begun) → Link
  Ended : (end : End) → Link

-- Bytes are read unless it is closed or has ended.
abbrev pub is_reading : Link → Bool
is_reading Closed = false
is_reading (Ended end) = false
is_reading link = true

abbrev pub is_closed : Link → Bool
is_closed Closed = true
is_closed link = false

-- An idle one is due to ask from that moment on.
abbrev pub is_due : Link → Option ℕ → ℕ → Bool
is_due Idle (Some due) now = not (nat_lt now due)
is_due link due now = false

abbrev pub is_idle : Link → Bool
is_idle Idle = true
is_idle link = false

abbrev pub ask_fault_number : AskFault → ℕ
ask_fault_number Busy = 1
ask_fault_number NotConnected = 2

abbrev pub end_number : End → ℕ
end_number (ends.Reported code) = 1
end_number (ends.Told code) = 2
end_number ends.Malformed = 3
end_number ends.Memory = 4
end_number ends.Expired = 5
end_number ends.TooMany = 6

-- A sentence for how a link ended
abbrev pub end_text : End → List ℕ
end_text (ends.Reported code) = codes "the cache was sent an Error Report of code " ++ decimal code
end_text (ends.Told code) = codes "the cache sent an Error Report of code " ++ decimal code
end_text ends.Malformed = codes "the cache sent a malformed Error Report"
end_text ends.Memory = codes "out of memory"
end_text ends.Expired = codes "the committed version expired"
end_text ends.TooMany = codes "the answer has more than 16777215 records"

abbrev pub told_link : Link → code.Link
told_link Closed = links.Closed
told_link Idle = links.Idle
told_link (Asked question) = links.Asked
told_link (Answering answer) = links.Answering
told_link (Ended end) = links.Ended end

-- A question is asked on an idle link alone.
abbrev pub asked_on : Link → Result ⊤ AskFault
asked_on Closed = Err NotConnected
asked_on Idle = Ok tt
asked_on (Asked question) = Err Busy
asked_on (Answering answer) = Err Busy
asked_on (Ended end) = Err NotConnected

abbrev pub name_of : Option Committed → Option (Version × ℕ × ℕ)
name_of None = None
name_of (Some version) = Some (version.version, version.session, version.serial)
