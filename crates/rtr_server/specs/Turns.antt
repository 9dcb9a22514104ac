-- What is done for one client, step by step, and how its turn ends (RFC 8210 sections 5, 7, 8 and 12).
use Rattle.std.specs.Prelude.{◌≡◌, ◌⊎◌, ℕ, ◌+◌, ◌-◌, ◌<◌, ◌≤◌, ◌==◌, Bool, true, false, not, ◌&&◌, List, [], ◌∷◌, ◌++◌, length, slice_get, take, drop, Option, Some, None, IfSome, if◌then◌else◌, ⊤}
use Rattle.std.specs.Io.KnownBytes.{Appends, Consumes, IsAtEnd}
use Rattle.vrps.specs.Instance.{Instance}
use Rattle.rtr_pdu.specs.Code.{INTERNAL_ERROR}
use Rattle.rtr_pdu.specs.Payloads.{AreBytes}
use Rattle.rtr_pdu.specs.Unit.{MAX_UNIT_LEN}
use Rattle.rtr_pdu.specs.declared.version.Version.{Version}
use Rattle.rtr_ends.specs.Answer.{report, sent_all}
use Rattle.rtr_ends.specs.Cache.{Gives, Notifies as Notified, Serving, Takes, can_notify, conn_takes, serve}
use Rattle.rtr_ends.specs.CacheState.{CacheState, ShowsCache, with_conn}
use Rattle.rtr_ends.specs.Connection.{Connection}
use Rattle.rtr_ends.specs.Peer.{is_wanted_by_peer}
use Rattle.rtr_ends.specs.Timing.{Intervals}
use Rattle.rtr_ends.specs.declared.cache.Cache.{Cache}
use Rattle.rtr_server.specs.Counting.{capped, counted, counted_on, first_byte, none_counted}
use Rattle.rtr_server.specs.Streams.{IsRoom, Logged}
use Rattle.rtr_server.specs.declared.stream.Call.{Call}
use Rattle.rtr_server.specs.declared.stream.Call.TheVariants as calls
use Rattle.rtr_server.specs.declared.stream.Progress.{Progress}
use Rattle.rtr_server.specs.declared.stream.Progress.TheVariants.{Bytes, Waits, Interrupted, Failed}
use Rattle.rtr_server.specs.declared.turn.CloseReason.TheVariants.{CacheEnded, PeerClosed, ReadFailed, Truncated, WriteFailed}
use Rattle.rtr_server.specs.declared.turn.Next.{Next}
use Rattle.rtr_server.specs.declared.turn.Next.TheVariants.{Nothing, Read, Write}
use Rattle.rtr_server.specs.declared.turn.Slot.{Slot}
use Rattle.rtr_server.specs.declared.turn.Traffic.{Traffic}
use Rattle.rtr_server.specs.declared.turn.Turn.{Turn}
use Rattle.rtr_server.specs.declared.turn.Turn.TheVariants.{Busy, Gone, WaitsToRead, WaitsToWrite}

-- A client: its connection, what was read of its stream and is not consumed, and what was pulled and is not written. And whether a notify
-- to it is pending, and what is counted of it.
pub record ClientState : Type 0 where
  pub serving : Serving
  pub unread : List ℕ
  pub unwritten : List ℕ
  pub owed : Bool
  pub traffic : Traffic

-- What is done for a client. The cache receives what was read; memory runs out at this PDU of it, if at any. At most this many bytes of
-- what is due are pulled. Its router is notified. These bytes are read of its stream. This many are written to it.
pub data ClientStep : Type 0 where
  HandsIn : (wanting : Option ℕ) → ClientStep
  Pulls : (most : ℕ) → ClientStep
  Notifies : ClientStep
  Reads : (bytes : List ℕ) → ClientStep
  Writes : (count : ℕ) → ClientStep

-- how many bytes of a piece a connection consumes
abbrev pub consumed_of : ℕ → Intervals → Option ℕ → List ℕ → Serving → ℕ
consumed_of keep t wanting piece s = length piece - length (conn_takes keep t s.cache wanting piece s.conn).rest

-- the router of this connection can be notified
abbrev pub can_be_told : Serving → Bool
can_be_told s = can_notify s.cache s.conn

-- What is counted of a client that has just come
abbrev pub no_traffic : Traffic
no_traffic = record { carried = record { read = 0; written = 0 }; received = none_counted; sent = none_counted; asked = None }

abbrev pub and_read : ℕ → Traffic → Traffic
and_read count t = record t { carried = record t.carried { read = capped (t.carried.read + count) } }

abbrev pub and_received : List ℕ → Traffic → Traffic
and_received bytes t = record t { received = counted_on t.received bytes; asked = first_byte t.asked bytes }

abbrev pub and_written : ℕ → List ℕ → Traffic → Traffic
and_written count bytes t = record t { carried = record t.carried { written = capped (t.carried.written + count) }; sent = counted_on t.sent bytes }

abbrev pub client_wrote : ℕ → ClientState → ClientState
client_wrote count s = record s { unwritten = drop count s.unwritten; traffic = and_written count (take count s.unwritten) s.traffic }

abbrev pub client_after : ℕ → Intervals → ClientStep → ClientState → ClientState
client_after keep t (HandsIn wanting) s = record s {
  serving = serve keep t (Takes wanting s.unread) s.serving;
  unread = drop (consumed_of keep t wanting s.unread s.serving) s.unread;
  traffic = and_received (take (consumed_of keep t wanting s.unread s.serving) s.unread) s.traffic;
}
client_after keep t (Pulls most) s = record s { serving = serve keep t (Gives most) s.serving; unwritten = take most s.serving.conn.state.due }
client_after keep t Notifies s = record s { serving = serve keep t Notified s.serving; owed = s.owed && not (can_be_told s.serving) }
client_after keep t (Reads bytes) s = record s { unread = bytes; traffic = and_read (length bytes) s.traffic }
client_after keep t (Writes count) s = client_wrote count s

-- All that was pulled is written, nothing is due, and no notify is pending that can be sent.
pub record IsSettled (s : ClientState) : Type 0 where
  pub all_written : s.unwritten ≡ []
  pub none_due : s.serving.conn.state.due ≡ []
  pub told : s.owed ≡ true → can_be_told s.serving ≡ false

-- It is settled, all that was read is consumed, and its connection continues.
pub record IsIdle (s : ClientState) : Type 0 where
  pub settled : IsSettled s
  pub all_consumed : s.unread ≡ []
  pub goes_on : s.serving.conn.state.ended ≡ false

-- Its connection has ended, and all that was due on it is written.
pub record IsOver (s : ClientState) : Type 0 where
  pub all_written : s.unwritten ≡ []
  pub none_due : s.serving.conn.state.due ≡ []
  pub ended : s.serving.conn.state.ended ≡ true

-- If nothing is left to be written, nothing is due.
abbrev pub NoneDue : ClientState → Type 0
NoneDue s = s.unwritten ≡ [] → s.serving.conn.state.due ≡ []

-- If nothing is left to be written, it is settled.
abbrev pub MaySettle : ClientState → Type 0
MaySettle s = s.unwritten ≡ [] → IsSettled s

-- A notify was sent, and none is pending; or it is settled.
abbrev pub settles : Bool → ClientState → Type 0
settles true s = s.owed ≡ false
settles false s = IsSettled s

-- Something is left to be written.
abbrev pub IsToWrite : ClientState → Type 0
IsToWrite s = 0 < length s.unwritten

-- memory runs out at this PDU of what is received: it is read, and its answer allocates memory
abbrev pub IsWanted : ℕ → Intervals → ClientState → ℕ → Type 0
IsWanted keep t s unit = is_wanted_by_peer keep t s.serving.cache s.serving.conn s.unread unit ≡ true

-- When a step may be made. Nothing is received or read while anything is due or yet to be written, or a notify is pending and could be
-- sent. Nothing is read before all that was read is consumed. Nothing is pulled before all that was pulled is written, and then as far as
-- there is room. No router is notified unless a notify to it is pending.
abbrev pub MayStep : ℕ → Intervals → ClientStep → ClientState → Type 0
MayStep keep t (HandsIn wanting) s = AreBytes s.unread × IsSettled s × IfSome wanting (IsWanted keep t s)
MayStep keep t (Pulls most) s = (s.unwritten ≡ []) × IsRoom most
MayStep keep t Notifies s = s.owed ≡ true
MayStep keep t (Reads bytes) s = IsIdle s × (length bytes ≤ MAX_UNIT_LEN)
MayStep keep t (Writes count) s = IsToWrite s

-- It holds at most 4,096 bytes that were read and not consumed, and at most 32,768 that were pulled and not written.
pub record HasRoom (s : ClientState) : Type 0 where
  pub unread : length s.unread ≤ MAX_UNIT_LEN
  pub unwritten : length s.unwritten ≤ 32768

-- A connection ended, and an Error Report of code 1, Internal Error, is due on it, and nothing else.
pub record EndsByReport (c : Connection) : Type 0 where
  pub ended : c.ended ≡ true
  pub version : Version
  pub due : c.due ≡ sent_all version (report INTERNAL_ERROR [] ∷ [])

-- If memory runs out at a PDU that is received, the client's connection ends so (RFC 8210 section 12).
abbrev pub MemoryEnds : Type 0
MemoryEnds =
    (keep : ℕ) (t : Intervals) (unit : ℕ) (s : ClientState) → MayStep keep t (HandsIn (Some unit)) s → EndsByReport (client_after keep t (HandsIn (Some unit)) s).serving.conn.state

-- after these steps, the last first
abbrev pub steps_after : ℕ → Intervals → List ClientStep → ClientState → ClientState
steps_after keep t [] s = s
steps_after keep t (step ∷ steps) s = client_after keep t step (steps_after keep t steps s)

abbrev pub MaySteps : ℕ → Intervals → List ClientStep → ClientState → Type 0
MaySteps keep t [] s = ⊤
MaySteps keep t (step ∷ steps) s = MayStep keep t step (steps_after keep t steps s) × MaySteps keep t steps s

-- What was read of the stream since it came is what its connection consumed, and then the bytes that are not consumed. What was pulled is
-- what was written to it, and then the bytes that are not written. This many are counted. The PDUs that are counted are those of what its
-- connection consumed, and of what was written. The version of its first header is the first byte of what was consumed.
pub record Flow (before left had has : Option (List ℕ)) (s : ClientState) : Type 0 where
  pub read : Consumes before left (s.serving.came ++ s.unread)
  pub written : List ℕ
  pub given : s.serving.given ≡ written ++ s.unwritten
  pub out : Appends had has written
  pub all_read : s.traffic.carried.read ≡ capped (length (s.serving.came ++ s.unread))
  pub all_written : s.traffic.carried.written ≡ capped (length written)
  pub all_received : s.traffic.received ≡ counted s.serving.came
  pub all_sent : s.traffic.sent ≡ counted written
  pub all_asked : s.traffic.asked ≡ slice_get s.serving.came 0

-- what a slot is, with this connection
abbrev pub client_of : {T : Type 0} → Serving → Slot T → ClientState
client_of s slot = record { serving = s; unread = slot.unread; unwritten = slot.unwritten; owed = slot.is_owed; traffic = slot.traffic }

-- The cache shows this state, if this is the connection under the number.
pub record StandsSo {S : Type 0} (holds : ℕ → Instance → S → Type 0) (m : CacheState) (c : ℕ) (s : Serving) (cache : Cache S) : Type 0 where
  pub shows : ShowsCache holds m cache
  pub at : m.at c ≡ Some s.conn
  pub now : s.cache ≡ m.cache

-- Steps were made, each of which could be. They led from a client to what the slot is with this connection, and its stream. So it is, and
-- all else at the cache is as it was.
pub record Goes {S T : Type 0} (holds : ℕ → Instance → S → Type 0) (remaining contents : T → Option (List ℕ)) (m : CacheState) (c : ℕ) (before had : Option (List ℕ)) (start : ClientState) (new : Slot T) (cache : Cache S) (So : ClientState → Type 0) : Type 0 where
  pub steps : List ClientStep
  pub may : MaySteps m.keep m.timing steps start
  pub now : Serving
  pub leads : steps_after m.keep m.timing steps start ≡ client_of now new
  pub shows : ShowsCache holds (with_conn c (Some now.conn) m) cache
  pub flow : Flow before (remaining new.stream) had (contents new.stream) (client_of now new)
  pub so : So (client_of now new)

-- What a part of a turn does to a client, of which this holds before, and to the cache
abbrev pub GoesFrom : {S T : Type 0} → (ℕ → Instance → S → Type 0) → (T → Option (List ℕ)) → (T → Option (List ℕ)) → (ClientState → Type 0) → Slot T → Cache S → Slot T → Cache S → (ClientState → Type 0) → Type 0
GoesFrom holds remaining contents From old cache new after To =
    (m : CacheState) (s : Serving) (before had : Option (List ℕ)) → StandsSo holds m old.conn.0 s cache → From (client_of s old)
    → Flow before (remaining old.stream) had (contents old.stream) (client_of s old) → Goes holds remaining contents m old.conn.0 before had (client_of s old) new after To

abbrev pub Anyhow : ClientState → Type 0
Anyhow s = ⊤

-- This many bytes of what was pulled were written, and that led to what the slot is, and its stream; so it is.
pub record Wrote {T : Type 0} (remaining contents : T → Option (List ℕ)) (before had : Option (List ℕ)) (s : Serving) (old new : Slot T) (So : ClientState → Type 0) : Type 0 where
  pub count : ℕ
  pub leads : client_wrote count (client_of s old) ≡ client_of s new
  pub flow : Flow before (remaining new.stream) had (contents new.stream) (client_of s new)
  pub so : So (client_of s new)

-- What a write does to a client, of which this holds before
abbrev pub WritesFrom : {T : Type 0} → (T → Option (List ℕ)) → (T → Option (List ℕ)) → (ClientState → Type 0) → Slot T → Slot T → (ClientState → Type 0) → Type 0
WritesFrom remaining contents From old new To =
    (s : Serving) (before had : Option (List ℕ)) → From (client_of s old) → Flow before (remaining old.stream) had (contents old.stream) (client_of s old)
    → Wrote remaining contents before had s old new To

-- This is the next step of a client in this state.
abbrev pub StandsFor : Next → ClientState → Type 0
StandsFor Write s = IsToWrite s
StandsFor Read s = IsIdle s
StandsFor Nothing s = IsOver s

-- When a turn comes to its result, if this is left of the stream. It waits to read if nothing is due or left, and to write if something is
-- left to be written. The stream ended while nothing was due or left, at the end of a PDU or inside one. Or the cache ended the connection,
-- and its last report is written. Or a call failed.
abbrev pub EndsSo : Turn → Option (List ℕ) → ClientState → Type 0
EndsSo WaitsToRead left s = IsIdle s
EndsSo WaitsToWrite left s = IsToWrite s
EndsSo Busy left s = ⊤
EndsSo (Gone PeerClosed) left s = IsIdle s × (s.serving.conn.held ≡ []) × IsAtEnd left
EndsSo (Gone Truncated) left s = IsIdle s × (0 < length s.serving.conn.held) × IsAtEnd left
EndsSo (Gone CacheEnded) left s = IsOver s
EndsSo (Gone ReadFailed) left s = IsIdle s
EndsSo (Gone WriteFailed) left s = IsToWrite s

-- or the turn continues
abbrev pub GoesOrEnds : Option Turn → Option (List ℕ) → ClientState → Type 0
GoesOrEnds None left s = ⊤
GoesOrEnds (Some turn) left s = EndsSo turn left s

abbrev pub LastIs : Call → List Call → Type 0
LastIs call [] = ⊥
LastIs call (last ∷ earlier) = last ≡ call

-- What the last call of the stream was and answered, if a turn came to this. It is a read or a write that would block, a read at the end,
-- or a call that failed. A write of no byte is a failure.
abbrev pub ToldSo : Turn → List Call → Type 0
ToldSo WaitsToRead answers = LastIs (calls.Read Waits) answers
ToldSo WaitsToWrite answers = LastIs (calls.Write Waits) answers
ToldSo Busy answers = ⊤
ToldSo (Gone PeerClosed) answers = LastIs (calls.Read (Bytes 0)) answers
ToldSo (Gone Truncated) answers = LastIs (calls.Read (Bytes 0)) answers
ToldSo (Gone CacheEnded) answers = ⊤
ToldSo (Gone ReadFailed) answers = LastIs (calls.Read Failed) answers
ToldSo (Gone WriteFailed) answers = LastIs (calls.Write (Bytes 0)) answers ⊎ LastIs (calls.Write Failed) answers

-- As many calls of the stream were made as are allowed, or fewer.
abbrev pub FitsBudget : ℕ → Turn → ℕ → Type 0
FitsBudget budget Busy count = count ≡ budget
FitsBudget budget turn count = count ≤ budget

-- The answers continue so by one call of the stream, or none, if the turn continues or comes to this.
abbrev pub StepTold : Option Turn → List Call → Type 0
StepTold None answers = length answers ≡ 1
StepTold (Some Busy) answers = ⊥
StepTold (Some turn) answers = (length answers ≤ 1) × ToldSo turn answers

pub record AnswersStep (turn : Option Turn) (before after : Option (List Call)) : Type 0 where
  pub since : List Call
  pub logged : Logged since before after
  pub told : StepTold turn since

-- They continue so in a turn. At most as many calls were made as are allowed, exactly as many if it is Busy, and the last says what the
-- turn came to.
pub record AnswersTurn (budget : ℕ) (turn : Turn) (before after : Option (List Call)) : Type 0 where
  pub since : List Call
  pub logged : Logged since before after
  pub fits : FitsBudget budget turn (length since)
  pub told : ToldSo turn since

-- The result of a read or a write: none if the turn continues
abbrev pub after_read : Progress → Bool → Option Turn
after_read (Bytes n) is_within = if n == 0 then Some (Gone (if is_within then Truncated else PeerClosed)) else None
after_read Waits is_within = Some WaitsToRead
after_read Interrupted is_within = None
after_read Failed is_within = Some (Gone ReadFailed)

abbrev pub after_write : Progress → Option Turn
after_write (Bytes n) = if n == 0 then Some (Gone WriteFailed) else None
after_write Waits = Some WaitsToWrite
after_write Interrupted = None
after_write Failed = Some (Gone WriteFailed)
