-- What a poll of a connection to a cache does, step by step, and how it ends (RFC 8210 sections 5, 7, 8 and 12).
use Rattle.std.specs.Prelude.{◌≡◌, ◌⊎◌, ℕ, ◌-◌, ◌<◌, ◌≤◌, ◌==◌, Bool, true, false, List, [], ◌∷◌, ◌++◌, length, take, drop, Option, Some, None, IfSome, if◌then◌else◌, ⊤}
use Rattle.std.specs.List.{AllByRecursion}
use Rattle.std.specs.Io.KnownBytes.{Appends, Consumes, IsAtEnd}
use Rattle.rtr_pdu.specs.Payloads.{AreBytes}
use Rattle.rtr_pdu.specs.Unit.{MAX_UNIT_LEN}
use Rattle.rtr_ends.specs.Consumed.{IsRouterCall, came}
use Rattle.rtr_ends.specs.LinkRules as rules
use Rattle.rtr_ends.specs.Router.{RouterCall, Receives, played, receives}
use Rattle.rtr_ends.specs.Router as routers
use Rattle.rtr_ends.specs.RouterLaws.{pulled_by}
use Rattle.rtr_ends.specs.RouterLink.{Link, Ended, is_closed, is_reading}
use Rattle.rtr_ends.specs.RouterShown.{CallsLead, is_wanted_by_router}
use Rattle.rtr_ends.specs.declared.link.End.{End}
use Rattle.rtr_ends.specs.declared.router.Router.{Router}
use Rattle.rtr_server.specs.Clients.{Begun}
use Rattle.rtr_server.specs.Counting.{capped, counted}
use Rattle.rtr_server.specs.Streams.{Logged}
use Rattle.rtr_server.specs.Turns.{LastIs, and_read, and_received, and_written}
use Rattle.rtr_server.specs.declared.stream.Call.{Call}
use Rattle.rtr_server.specs.declared.stream.Call.TheVariants as calls
use Rattle.rtr_server.specs.declared.stream.Progress.{Progress}
use Rattle.rtr_server.specs.declared.stream.Progress.TheVariants.{Bytes, Waits, Interrupted, Failed}
use Rattle.rtr_server.specs.declared.turn.ByteCounts.{ByteCounts}
use Rattle.rtr_server.specs.declared.turn.Traffic.{Traffic}
use Rattle.upstreams.specs.Notes.{asked_again, noted, ticked_notes}
use Rattle.upstreams.specs.declared.connection.Connection.{Connection}
use Rattle.upstreams.specs.declared.connection.DisconnectReason.TheVariants.{LinkEnded, PeerClosed, ReadFailed, Stalled, TimedOut, WriteFailed}
use Rattle.upstreams.specs.declared.connection.NextCall.{NextCall}
use Rattle.upstreams.specs.declared.connection.NextCall.TheVariants.{NoCall, Read, Write}
use Rattle.upstreams.specs.declared.connection.PollOutcome.{PollOutcome}
use Rattle.upstreams.specs.declared.connection.PollOutcome.TheVariants.{Busy, Disconnected, NotConnected, WaitsToRead, WaitsToWrite}
use Rattle.upstreams.specs.declared.notes.Notes.{Notes}

-- A connection: the calls that led to its router, the last first. What was read of its stream and is not consumed. What was pulled of the
-- router and is not written. And what is counted of it.
pub record ConnectionState : Type 0 where
  pub calls : List RouterCall
  pub unread : List ℕ
  pub unwritten : List ℕ
  pub traffic : Traffic

abbrev pub router_of : ConnectionState → rules.Router
router_of s = (played s.calls).router

-- A step. The router receives what was read; memory runs out at this PDU of it, if at any. What the router has to send is pulled. These bytes
-- are read of the stream. This many are written to it.
pub data Step : Type 0 where
  HandsIn : (wanting : Option ℕ) → Step
  Pulls : Step
  Reads : (bytes : List ℕ) → Step
  Writes : (count : ℕ) → Step

-- how many bytes of what was read the router consumes at this time
abbrev pub consumed_count : ℕ → Option ℕ → ConnectionState → ℕ
consumed_count now wanting s = length s.unread - length (receives now wanting s.unread (router_of s)).rest

abbrev pub no_bytes : ByteCounts
no_bytes = record { read = 0; written = 0 }

abbrev pub state_after : ℕ → Step → ConnectionState → ConnectionState
state_after now (HandsIn wanting) s = record s {
  calls = Receives now wanting s.unread ∷ s.calls;
  unread = drop (consumed_count now wanting s) s.unread;
  traffic = and_received (take (consumed_count now wanting s) s.unread) s.traffic;
}
state_after now Pulls s = record s { calls = routers.Pulls MAX_UNIT_LEN ∷ s.calls; unwritten = take MAX_UNIT_LEN (router_of s).out }
state_after now (Reads bytes) s = record s { unread = bytes; traffic = and_read (length bytes) s.traffic }
state_after now (Writes count) s = record s { unwritten = drop count s.unwritten; traffic = and_written count (take count s.unwritten) s.traffic }

-- All that was pulled is written, and the router has nothing to send.
pub record IsFlushed (s : ConnectionState) : Type 0 where
  pub all_written : s.unwritten ≡ []
  pub none_due : (router_of s).out ≡ []

-- It is flushed, all that was read is consumed, and the link is open.
pub record AwaitsBytes (s : ConnectionState) : Type 0 where
  pub flushed : IsFlushed s
  pub all_consumed : s.unread ≡ []
  pub open_link : is_reading (router_of s).link ≡ true

-- The link has ended so, and all that the router had to send is written.
pub record HasEnded (end : End) (s : ConnectionState) : Type 0 where
  pub flushed : IsFlushed s
  pub ended : (router_of s).link ≡ Ended end

abbrev pub IsOver : ConnectionState → Type 0
IsOver s = (end : End) × HasEnded end s

-- Something is left to be written.
abbrev pub HasUnwritten : ConnectionState → Type 0
HasUnwritten s = 0 < length s.unwritten

-- If nothing is left to be written, it is flushed.
abbrev pub MayBeFlushed : ConnectionState → Type 0
MayBeFlushed s = s.unwritten ≡ [] → IsFlushed s

-- When a step may be made. The router receives bytes only if all that it had to send is written. Nothing is pulled before all that was
-- pulled is written. Nothing is read before all that was read is consumed, and no more than the buffer holds.
abbrev pub MayStep : ℕ → Step → ConnectionState → Type 0
MayStep now (HandsIn wanting) s = AreBytes s.unread × IsFlushed s × IfSome wanting (λ unit. is_wanted_by_router now s.unread (router_of s) unit ≡ true)
MayStep now Pulls s = s.unwritten ≡ []
MayStep now (Reads bytes) s = AwaitsBytes s × (length bytes ≤ MAX_UNIT_LEN)
MayStep now (Writes count) s = HasUnwritten s

-- after these steps, the last first
abbrev pub steps_after : ℕ → List Step → ConnectionState → ConnectionState
steps_after now [] s = s
steps_after now (step ∷ steps) s = state_after now step (steps_after now steps s)

abbrev pub MaySteps : ℕ → List Step → ConnectionState → Type 0
MaySteps now [] s = ⊤
MaySteps now (step ∷ steps) s = MayStep now step (steps_after now steps s) × MaySteps now steps s

-- What was read of the stream since the connection was made is what the router consumed on it, and then the bytes that are not consumed. What
-- was pulled is what was written to it, and then the bytes that are not written. This many are counted. The PDUs that are counted are those
-- of what the router consumed, and of what was written.
pub record Flow (b : Begun) (left has : Option (List ℕ)) (s : ConnectionState) : Type 0 where
  pub read : Consumes b.before left (came s.calls ++ s.unread)
  pub written : List ℕ
  pub given : pulled_by s.calls ≡ written ++ s.unwritten
  pub out : Appends b.had has written
  pub all_read : s.traffic.carried.read ≡ capped (length (came s.calls ++ s.unread))
  pub all_written : s.traffic.carried.written ≡ capped (length written)
  pub all_received : s.traffic.received ≡ counted (came s.calls)
  pub all_sent : s.traffic.sent ≡ counted written

-- what a connection is if these calls led to its router
abbrev pub state_of : {T : Type 0} → List RouterCall → Connection T → ConnectionState
state_of calls c = record { calls = calls; unread = c.unread; unwritten = c.unwritten; traffic = c.traffic }

-- What is noted of the latest connection, once that is dropped
abbrev pub notes_of : {T : Type 0} → Option (Connection T) → Notes → Notes
notes_of None last = last
notes_of (Some c) last = c.notes

-- The clock was advanced to this time; the link was idle before, or not.
abbrev pub with_tick : {T : Type 0} → ℕ → Bool → rules.Router → Option (Connection T) → Option (Connection T)
with_tick now idle r None = None
with_tick now idle r (Some c) = Some (record c { notes = ticked_notes now idle r c.notes })

-- A query was put at this time.
abbrev pub with_ask : {T : Type 0} → ℕ → Option (Connection T) → Option (Connection T)
with_ask now None = None
with_ask now (Some c) = Some (record c { notes = asked_again now c.notes })

-- a connection, over whose stream went what these calls say
pub record Carries {T : Type 0} (remaining contents : T → Option (List ℕ)) (calls : List RouterCall) (b : Begun) (c : Connection T) : Type 0 where
  pub is_open : is_closed (played calls).router.link ≡ false
  pub noted : c.notes ≡ noted calls
  pub flow : Flow b (remaining c.stream) (contents c.stream) (state_of calls c)

-- The link is closed exactly if there is no connection.
abbrev pub CarriesIf : {T : Type 0} → (T → Option (List ℕ)) → (T → Option (List ℕ)) → List RouterCall → Begun → Option (Connection T) → Type 0
CarriesIf remaining contents calls b None = is_closed (played calls).router.link ≡ true
CarriesIf remaining contents calls b (Some c) = Carries remaining contents calls b c

-- These calls led to this router and to its connection, if there is one. The stream of the latest connection was so when that was made.
pub record Runs {T : Type 0} (remaining contents : T → Option (List ℕ)) (calls : List RouterCall) (b : Begun) (router : Router) (c : Option (Connection T)) : Type 0 where
  pub leads : CallsLead calls router
  pub can_be : AllByRecursion IsRouterCall calls
  pub carries : CarriesIf remaining contents calls b c

-- Steps were made at this time, each of which could be. They led to what the connection and its router are. So it is.
pub record Goes {T : Type 0} (remaining contents : T → Option (List ℕ)) (now : ℕ) (b : Begun) (start : ConnectionState) (router : Router) (c : Connection T) (So : ConnectionState → Type 0) : Type 0 where
  pub steps : List Step
  pub may : MaySteps now steps start
  pub calls : List RouterCall
  pub leads : steps_after now steps start ≡ state_of calls c
  pub runs : Runs remaining contents calls b router (Some c)
  pub so : So (state_of calls c)

-- What a part of a poll does to a connection, of which this holds before
abbrev pub GoesFrom : {T : Type 0} → (T → Option (List ℕ)) → (T → Option (List ℕ)) → ℕ → (ConnectionState → Type 0) → Router → Connection T → Router → Connection T → (ConnectionState → Type 0) → Type 0
GoesFrom remaining contents now From before old router new To =
    (calls : List RouterCall) (b : Begun) → Runs remaining contents calls b before (Some old) → From (state_of calls old) → Goes remaining contents now b (state_of calls old) router new To

abbrev pub Anyhow : ConnectionState → Type 0
Anyhow s = ⊤

-- The next call of the stream in this state
abbrev pub StandsFor : NextCall → ConnectionState → Type 0
StandsFor Read s = AwaitsBytes s
StandsFor Write s = HasUnwritten s
StandsFor (NoCall end) s = HasEnded end s

-- the next call if all is written and consumed
abbrev pub next_on : Link → NextCall
next_on (Ended end) = NoCall end
next_on link = Read

-- When a poll of a connection comes to its outcome, if this is left of the stream. It waits to read if nothing is due or left, and to write
-- if something is left to be written. The stream ended while nothing was due or left. Or the link ended, and what the router had to send is
-- written. Or a call failed.
abbrev pub EndsSo : PollOutcome → Option (List ℕ) → ConnectionState → Type 0
EndsSo NotConnected left s = ⊥
EndsSo WaitsToRead left s = AwaitsBytes s
EndsSo WaitsToWrite left s = HasUnwritten s
EndsSo Busy left s = ⊤
EndsSo (Disconnected PeerClosed) left s = AwaitsBytes s × IsAtEnd left
EndsSo (Disconnected (LinkEnded end)) left s = HasEnded end s
EndsSo (Disconnected ReadFailed) left s = AwaitsBytes s
EndsSo (Disconnected WriteFailed) left s = HasUnwritten s
EndsSo (Disconnected Stalled) left s = ⊥
EndsSo (Disconnected TimedOut) left s = ⊥

-- or the poll continues
abbrev pub GoesOrEnds : Option PollOutcome → Option (List ℕ) → ConnectionState → Type 0
GoesOrEnds None left s = ⊤
GoesOrEnds (Some outcome) left s = EndsSo outcome left s

-- What the last call of the stream was and answered, if a poll came to this. It is a read or a write that would block, a read at the end, or a
-- call that failed. A write of no byte is a failure.
abbrev pub ToldSo : PollOutcome → List Call → Type 0
ToldSo WaitsToRead answers = LastIs (calls.Read Waits) answers
ToldSo WaitsToWrite answers = LastIs (calls.Write Waits) answers
ToldSo (Disconnected PeerClosed) answers = LastIs (calls.Read (Bytes 0)) answers
ToldSo (Disconnected ReadFailed) answers = LastIs (calls.Read Failed) answers
ToldSo (Disconnected WriteFailed) answers = LastIs (calls.Write (Bytes 0)) answers ⊎ LastIs (calls.Write Failed) answers
ToldSo outcome answers = ⊤

-- As many calls of the stream were made as are allowed, or fewer.
abbrev pub FitsBudget : ℕ → PollOutcome → ℕ → Type 0
FitsBudget budget Busy count = count ≡ budget
FitsBudget budget outcome count = count ≤ budget

-- The answers continue so by one call of the stream, or none, if the poll continues or comes to this.
abbrev pub StepTold : Option PollOutcome → List Call → Type 0
StepTold None answers = length answers ≡ 1
StepTold (Some Busy) answers = ⊥
StepTold (Some outcome) answers = (length answers ≤ 1) × ToldSo outcome answers

pub record AnswersStep (outcome : Option PollOutcome) (before after : Option (List Call)) : Type 0 where
  pub since : List Call
  pub logged : Logged since before after
  pub told : StepTold outcome since

-- They continue so in a poll. At most as many calls were made as are allowed, exactly as many if it is Busy, and the last says what the
-- poll came to.
pub record AnswersPoll (budget : ℕ) (outcome : PollOutcome) (before after : Option (List Call)) : Type 0 where
  pub since : List Call
  pub logged : Logged since before after
  pub fits : FitsBudget budget outcome (length since)
  pub told : ToldSo outcome since

-- What a read or a write comes to: none if the poll continues
abbrev pub after_read : Progress → Option PollOutcome
after_read (Bytes n) = if n == 0 then Some (Disconnected PeerClosed) else None
after_read Waits = Some WaitsToRead
after_read Interrupted = None
after_read Failed = Some (Disconnected ReadFailed)

abbrev pub after_write : Progress → Option PollOutcome
after_write (Bytes n) = if n == 0 then Some (Disconnected WriteFailed) else None
after_write Waits = Some WaitsToWrite
after_write Interrupted = None
after_write Failed = Some (Disconnected WriteFailed)

-- A poll of a connection of at most this many calls of its stream, which ended so
pub record Polled {T : Type 0} (remaining contents : T → Option (List ℕ)) (answers : T → Option (List Call)) (now budget : ℕ) (before : Router) (old : Connection T) (outcome : PollOutcome) (router : Router) (new : Connection T) : Type 0 where
  pub goes : GoesFrom remaining contents now Anyhow before old router new (EndsSo outcome (remaining new.stream))
  pub told : AnswersPoll budget outcome (answers old.stream) (answers new.stream)

-- A poll of the connection, if there is one. Otherwise nothing changes.
abbrev pub PollsIf : {T : Type 0} → (T → Option (List ℕ)) → (T → Option (List ℕ)) → (T → Option (List Call)) → ℕ → ℕ → Router → Option (Connection T) → PollOutcome → Router → Option (Connection T) → Type 0
PollsIf remaining contents answers now budget before (Some old) outcome router (Some new) = Polled remaining contents answers now budget before old outcome router new
PollsIf remaining contents answers now budget before None NotConnected router None = router ≡ before
PollsIf remaining contents answers now budget before old outcome router new = ⊥
