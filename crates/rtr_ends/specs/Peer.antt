-- A connection at the cache, as the machine of connections sees it.
use Rattle.std.specs.Prelude.{◌≡◌, ℕ, ◌-◌, ◌≤◌, Bool, true, false, not, ◌&&◌, List, [], ◌∷◌, length, Option, Some, None, IfSome, if◌then◌else◌}
use Rattle.std.specs.List.{list_any}
use Rattle.vrps.specs.Instance.{Instance, versions}
use Rattle.vrps.specs.Stores.{newest}
use Rattle.rtr_pdu.specs.Unit.{MAX_UNIT_LEN}
use Rattle.rtr_pdu.specs.Code.{INTERNAL_ERROR}
use Rattle.rtr_pdu.specs.Reader.{fresh, known_version}
use Rattle.rtr_pdu.specs.declared.unit.Unit.{Unit}
use Rattle.rtr_pdu.specs.declared.unit.UnitFault.{UnitFault}
use Rattle.rtr_pdu.specs.declared.version.Version.{Version}
use Rattle.rtr_ends.specs.Answer.{Reply, and_on, and_end, answer, report, sent_all, serial_answer, session_in}
use Rattle.rtr_ends.specs.Cache.{Conn, conn_pulled, conn_takes}
use Rattle.rtr_ends.specs.Connection.{fault_report, is_wanting, spoken_in, takes_memory}
use Rattle.rtr_ends.specs.Sender.{PullsBytes, KeepsRoom, Sends, StaysBut, due_of, newest_of, ready_in}
use Rattle.rtr_ends.specs.Timing.{Intervals}
use Rattle.rtr_ends.specs.declared.peer.Peer.{Peer}
use Rattle.rtr_ends.specs.declared.sender.Sender.{Sender}

-- What is sent is of this instance, and a share of its current version is ready.
pub record Knows (t : Intervals) (i : Instance) (s : Sender) : Type 0 where
  pub session : s.sessions.v1 ≡ i.session
  pub session0 : s.sessions.v0 ≡ i.session0
  pub timing : s.timing ≡ t
  pub newest : newest_of s ≡ newest (versions i)

-- The bytes that a connection holds: those received that are not yet a whole PDU, and those ready to be pulled
pub record Held : Type 0 where
  pub received : ℕ
  pub ready : ℕ

abbrev pub held_by_peer : Peer → Held
held_by_peer p = record { received = length p.reader.held; ready = ready_in p.sender }

-- They are at most 4,096 each.
pub record HasBufferRoom (h : Held) : Type 0 where
  pub received : h.received ≤ MAX_UNIT_LEN
  pub ready : h.ready ≤ MAX_UNIT_LEN

-- The machine's connection is shown by this one, at a cache with these intervals and this instance.
pub record ShowsPeer (t : Intervals) (i : Instance) (o : Conn) (p : Peer) : Type 0 where
  pub reader : p.reader ≡ record { version = o.state.version; held = o.held; any = false; later = false; fault = None }
  pub ended : p.ended ≡ o.state.ended
  pub due : due_of p.sender ≡ o.state.due
  pub knows : Knows t i p.sender
  pub room : HasBufferRoom (held_by_peer p)

-- These PDUs are sent, and the connection ends.
pub record EndsConnection (old : Peer) (units : List Unit) (new : Peer) : Type 0 where
  pub reader : new.reader ≡ old.reader
  pub ended : new.ended ≡ true
  pub sends : Sends old.sender units new.sender

-- This reply is sent.
pub record SendsReply (t : Intervals) (i : Instance) (r : Reply) (old new : Peer) : Type 0 where
  pub reader : new.reader ≡ old.reader
  pub ended : new.ended ≡ not r.goes_on
  pub due : due_of new.sender ≡ sent_all old.sender.version r.units
  pub knows : Knows t i new.sender
  pub room : KeepsRoom old.sender new.sender

-- Out of memory is an Internal Error, and ends the connection.
abbrev pub no_memory : Reply
no_memory = and_end (report INTERNAL_ERROR [] ∷ [])

abbrev pub since_reply : Version → ℕ → Intervals → Instance → Bool → ℕ → Reply
since_reply version keep t i memory serial =
    if memory then and_on (serial_answer version (session_in version i) keep t serial (versions i)) else no_memory

abbrev pub read_reply : Version → ℕ → Intervals → Instance → Bool → Unit → Reply
read_reply version keep t i memory u = if takes_memory version i u && not memory then no_memory else answer version i keep t u

-- A fault is reported, if it is.
pub record ReportsFault (old : Peer) (fault : UnitFault) (new : Peer) : Type 0 where
  pub reader : new.reader ≡ fresh (Some (spoken_in (known_version old.reader))) false
  pub ended : new.ended ≡ true
  pub due : due_of new.sender ≡ sent_all (spoken_in (known_version old.reader)) (fault_report old.reader.version fault old.reader.held)
  pub stays : StaysBut old.sender new.sender

abbrev pub maybe : Option Unit → List Unit
maybe None = []
maybe (Some u) = u ∷ []

-- Memory runs out at this PDU of a piece: the PDU is read, and its answer allocates memory.
abbrev pub is_wanted_by_peer : ℕ → Intervals → Instance → Conn → List ℕ → ℕ → Bool
is_wanted_by_peer keep t i o piece unit = list_any is_wanting (conn_takes keep t i (Some unit) piece o).machine.moments

-- A piece is received. At one PDU of it, if at any, memory runs out.
pub record Receives (keep : ℕ) (t : Intervals) (i : Instance) (o : Conn) (piece : List ℕ) (consumed : ℕ) (new : Peer) : Type 0 where
  pub wanting : Option ℕ
  pub wanted : IfSome wanting (λ unit. is_wanted_by_peer keep t i o piece unit ≡ true)
  pub shows : ShowsPeer t i (conn_takes keep t i wanting piece o).machine.conn new
  pub consumed_is : consumed ≡ length piece - length (conn_takes keep t i wanting piece o).rest

-- Bytes due are pulled.
pub record Pulls (keep : ℕ) (t : Intervals) (i : Instance) (o : Conn) (out : List ℕ) (count : ℕ) (now : List ℕ) (new : Peer) : Type 0 where
  pub gives : PullsBytes o.state.due out count now (conn_pulled keep t (length out) o).state.due
  pub shows : ShowsPeer t i (conn_pulled keep t (length out) o) new
