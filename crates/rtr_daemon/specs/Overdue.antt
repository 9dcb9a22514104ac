-- When a client is overdue: it is stalled, slow or silent. Times are milliseconds of the monotonic clock.
use Rattle.std.specs.Prelude.{◌+◌, ◌-◌, ◌==◌, ◌||◌, ◌&&◌, ℕ, nat_le, nat_lt, not, Bool, false, Option, None, Some, unwrap_or, if◌then◌else◌}
use Rattle.rtr_pdu.specs.declared.kind.Kind.TheVariants.{SerialNotify, SerialQuery, ResetQuery, EndOfData, CacheReset, ErrorReport}
use Rattle.rtr_server.specs.Counting.{capped, count_of, has_query}
use Rattle.rtr_server.specs.declared.tally.PdusByKind.{PdusByKind}
use Rattle.rtr_server.specs.declared.turn.Slot.{Slot}
use Rattle.rtr_server.specs.declared.turn.Turn.{Turn}
use Rattle.rtr_server.specs.declared.turn.Turn.TheVariants.{WaitsToWrite}
use Rattle.rtr_daemon.specs.declared.client_entry.ClientEntry.{ClientEntry}
use Rattle.rtr_daemon.specs.declared.client_entry.TurnOutcome.{TurnOutcome}
use Rattle.rtr_daemon.specs.declared.daemon.Plan.{Plan}
use Rattle.rtr_daemon.specs.declared.outstanding.Outstanding.{Outstanding}

-- since when a client is blocked on writing after a turn at a time, if it is: since the first turn that had to wait after the last byte that went out
abbrev pub blocked_after : Option ℕ → ℕ → Turn → ℕ → ℕ → Option ℕ
blocked_after before written WaitsToWrite now_written now = if now_written == written then Some (unwrap_or before now) else Some now
blocked_after before written turn now_written now = None

-- It has been blocked on writing for this long.
abbrev pub is_stalled : Option ℕ → ℕ → ℕ → Bool
is_stalled None now stall = false
is_stalled (Some since) now stall = nat_le stall (now - since)

-- How many queries are among these PDUs (RFC 8210 sections 5.3 and 5.4)
abbrev pub queries_in : PdusByKind → ℕ
queries_in pdus = capped (count_of pdus SerialQuery + count_of pdus ResetQuery)

-- How many answers end among these PDUs. An answer is one of RFC 8210 section 8: it ends by End of Data, or is a Cache Reset or an Error Report.
abbrev pub answers_in : PdusByKind → ℕ
answers_in pdus = capped (count_of pdus EndOfData + capped (count_of pdus CacheReset + count_of pdus ErrorReport))

-- The answer to a query keeps its time, and another one begins now.
abbrev pub begun : Option Outstanding → ℕ → ℕ → Outstanding
begun None query now = record { query = query; since = now }
begun (Some answer) query now = if answer.query == query then answer else record { query = query; since = now }

-- The answer that is outstanding after this number of queries and answers: that to the last query. The cache reads no query before the answer to
-- the one before has left.
abbrev pub outstanding_after : Option Outstanding → ℕ → ℕ → ℕ → Option Outstanding
outstanding_after before queries answers now = if nat_lt answers queries then Some (begun before queries now) else None

-- Its answer has been outstanding for this long.
abbrev pub is_slow : Option Outstanding → ℕ → ℕ → Bool
is_slow None now slow = false
is_slow (Some answer) now slow = nat_le slow (now - answer.since)

-- A client that sent no whole query within this time is silent.
abbrev pub first_query : ℕ
first_query = 60000

abbrev pub is_silent : ClientEntry → ℕ → Bool
is_silent entry now = not entry.has_asked && nat_le first_query (now - entry.came)

-- whether there is a client, and it is stalled
abbrev pub is_stalled_client : Option ClientEntry → ℕ → ℕ → Bool
is_stalled_client None now stall = false
is_stalled_client (Some entry) now stall = is_stalled entry.blocked now stall

-- whether there is a client, and it is slow
abbrev pub is_slow_client : Option ClientEntry → ℕ → ℕ → Bool
is_slow_client None now slow = false
is_slow_client (Some entry) now slow = is_slow entry.answering now slow

-- whether there is a client, and it is silent
abbrev pub is_silent_client : Option ClientEntry → ℕ → Bool
is_silent_client None now = false
is_silent_client (Some entry) now = is_silent entry now

-- whether there is a client, and it is overdue by the settings
abbrev pub is_overdue : ℕ → Plan → Option ClientEntry → Bool
is_overdue now plan client = is_stalled_client client now plan.stall || is_slow_client client now plan.slow || is_silent_client client now

-- what is known of a client after overdue ones are closed
abbrev pub unless_overdue : ℕ → Plan → Option ClientEntry → Option ClientEntry
unless_overdue now plan client = if is_overdue now plan client then None else client

-- Whether a client was notified, and has sent nothing since, after a turn: a notify more was written to it, or it was so before and no byte came.
abbrev pub is_notified_after : ClientEntry → TurnOutcome → Bool
is_notified_after entry outcome = nat_lt entry.notifies outcome.notifies || (entry.is_notified && (outcome.carried.read == entry.carried.read))

-- what is known of a client after a turn at a time
abbrev pub turned : ℕ → TurnOutcome → ClientEntry → ClientEntry
turned now outcome entry = record entry {
  has_asked = entry.has_asked || outcome.has_asked;
  blocked = blocked_after entry.blocked entry.carried.written outcome.turn outcome.carried.written now;
  answering = outstanding_after entry.answering outcome.queries outcome.answers now;
  notifies = outcome.notifies;
  is_notified = is_notified_after entry outcome;
  unanswered = if is_notified_after entry outcome then entry.unanswered else None;
  carried = outcome.carried;
}

-- what a turn came to, by what was counted of its client
abbrev pub outcome_of : {T : Type 0} → Turn → Slot T → TurnOutcome
outcome_of turn slot = record {
  turn = turn;
  carried = slot.traffic.carried;
  queries = queries_in slot.traffic.received.pdus;
  answers = answers_in slot.traffic.sent.pdus;
  notifies = count_of slot.traffic.sent.pdus SerialNotify;
  has_asked = has_query slot.traffic.received.pdus;
}
