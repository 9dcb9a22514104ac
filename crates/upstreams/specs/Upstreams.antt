-- A router of another cache, over one connection after another (RFC 8210 sections 5 to 8 and 10).
use Rattle.std.specs.Prelude.{◌≡◌, ℕ, ◌+◌, ◌/◌, ◌^◌, ◌<◌, Bool, false, not, ◌&&◌, ◌||◌, nat_lt, min, List, ◌∷◌, ◌++◌, Option, Some, None, is_some, if◌then◌else◌, unwrap_or}
use Rattle.std.specs.List.{AllByRecursion}
use Rattle.vrps.specs.VrpSet.{VrpSet}
use Rattle.rtr_pdu.specs.declared.kind.Kind.{Kind}
use Rattle.rtr_pdu.specs.declared.version.Version.{Version}
use Rattle.rtr_ends.specs.Consumed.{IsRouterCall, IsSplit, came, fault_in, units_read_in}
use Rattle.rtr_ends.specs.FetchStream.{is_asking}
use Rattle.rtr_ends.specs.LinkRules as rules
use Rattle.rtr_ends.specs.Router.{RouterCall, AsksNow, Closes, Connects, Speaks, Ticks, called, played}
use Rattle.rtr_ends.specs.RouterLaws.{HasSaid, IsKept, pulled_by}
use Rattle.rtr_ends.specs.RouterLink.{is_closed, is_idle}
use Rattle.rtr_ends.specs.RouterShown.{CallsLead}
use Rattle.rtr_ends.specs.Transcript.{Committed, Kept, due, is_over, kept, sum_of}
use Rattle.rtr_ends.specs.declared.router.Router.{Router}
use Rattle.rtr_server.specs.Clients.{Begun}
use Rattle.rtr_server.specs.Counting.{capped, count_of, units_of}
use Rattle.rtr_server.specs.declared.stream.Call.{Call}
use Rattle.rtr_server.specs.declared.tally.PdusByKind.{PdusByKind}
use Rattle.rtr_server.specs.declared.turn.ByteCounts.{ByteCounts}
use Rattle.upstreams.specs.Notes.{after, asked_at, has_ended, has_flushed, heard_at, noted}
use Rattle.upstreams.specs.Polls.{CarriesIf, PollsIf, notes_of}
use Rattle.upstreams.specs.Versions.{asks_for_version_0}
use Rattle.upstreams.specs.declared.connection.Connection.{Connection}
use Rattle.upstreams.specs.declared.connection.DisconnectReason.{DisconnectReason}
use Rattle.upstreams.specs.declared.connection.DisconnectReason.TheVariants.{Stalled, TimedOut}
use Rattle.upstreams.specs.declared.connection.PollOutcome.{PollOutcome}
use Rattle.upstreams.specs.declared.connection.PollOutcome.TheVariants.{Disconnected}
use Rattle.upstreams.specs.declared.upstream.Upstream.{Upstream}

-- These calls led to the upstream's router, to its connection, if there is one, and to what is noted. The stream of the latest connection was
-- so when that was made.
pub record ShowsUpstream {T : Type 0} (remaining contents : T → Option (List ℕ)) (calls : List RouterCall) (b : Begun) (u : Upstream T) : Type 0 where
  pub leads : CallsLead calls u.router
  pub can_be : AllByRecursion IsRouterCall calls
  pub carries : CarriesIf remaining contents calls b u.connection
  pub noted : notes_of u.connection u.notes ≡ noted calls

-- It holds of each list of calls that led to the upstream.
abbrev pub LedTo : {T : Type 0} → (T → Option (List ℕ)) → (T → Option (List ℕ)) → Upstream T → (List RouterCall → Type 0) → Type 0
LedTo remaining contents u Holds = (calls : List RouterCall) (b : Begun) → ShowsUpstream remaining contents calls b u → Holds calls

-- the calls that connect a router in a version ..
abbrev pub connecting : ℕ → Version → List RouterCall → List RouterCall
connecting now version calls = Connects now ∷ Speaks version ∷ calls

-- .. and the router after them
abbrev pub connected : ℕ → Version → rules.Router → rules.Router
connected now version r = (called (Connects now) (called (Speaks version) r).router).router

-- One call on the router leads on, over which no bytes go.
abbrev pub CallsOn : {T : Type 0} → (T → Option (List ℕ)) → (T → Option (List ℕ)) → RouterCall → Upstream T → Upstream T → Type 0
CallsOn remaining contents call old new = (calls : List RouterCall) (b : Begun) → ShowsUpstream remaining contents calls b old → ShowsUpstream remaining contents (call ∷ calls) b new

-- The bytes that went over the latest connection
abbrev pub carried_by : {T : Type 0} → Option (Connection T) → ByteCounts → ByteCounts
carried_by None last = last
carried_by (Some c) last = c.traffic.carried

-- The PDUs that came on it, and those that were sent, by type
abbrev pub received_by : {T : Type 0} → Option (Connection T) → PdusByKind → PdusByKind
received_by None last = last
received_by (Some c) last = c.traffic.received.pdus

abbrev pub sent_by : {T : Type 0} → Option (Connection T) → PdusByKind → PdusByKind
sent_by None last = last
sent_by (Some c) last = c.traffic.sent.pdus

-- A connection was polled to its end, and then dropped: the router is notified, and what was counted of it is kept.
pub record Leaves {T : Type 0} (remaining contents : T → Option (List ℕ)) (answers : T → Option (List Call)) (now budget : ℕ) (old : Upstream T) (reason : DisconnectReason) (new : Upstream T) : Type 0 where
  pub last : Connection T
  pub between : Router
  pub polled : PollsIf remaining contents answers now budget old.router old.connection (Disconnected reason) between (Some last)
  pub gone : new.connection ≡ None
  pub closed : (calls : List RouterCall) → CallsLead calls between → CallsLead (Closes now ∷ calls) new.router
  pub noted : new.notes ≡ last.notes
  pub counted : new.carried ≡ last.traffic.carried
  pub received : new.received ≡ last.traffic.received.pdus
  pub sent : new.sent ≡ last.traffic.sent.pdus
  pub stall : new.stall ≡ old.stall
  pub limit : new.answer_limit ≡ old.answer_limit
  pub fallback : new.fallback ≡ old.fallback

-- A connection was polled and stays, or there is none.
pub record Stays {T : Type 0} (remaining contents : T → Option (List ℕ)) (answers : T → Option (List Call)) (now budget : ℕ) (old : Upstream T) (outcome : PollOutcome) (new : Upstream T) : Type 0 where
  pub polled : PollsIf remaining contents answers now budget old.router old.connection outcome new.router new.connection
  pub noted : new.notes ≡ old.notes
  pub counted : new.carried ≡ old.carried
  pub received : new.received ≡ old.received
  pub sent : new.sent ≡ old.sent
  pub stall : new.stall ≡ old.stall
  pub limit : new.answer_limit ≡ old.answer_limit
  pub fallback : new.fallback ≡ old.fallback

-- What became of an upstream by a poll
abbrev pub Polls : {T : Type 0} → (T → Option (List ℕ)) → (T → Option (List ℕ)) → (T → Option (List Call)) → ℕ → ℕ → Upstream T → PollOutcome → Upstream T → Type 0
Polls remaining contents answers now budget old (Disconnected reason) new = Leaves remaining contents answers now budget old reason new
Polls remaining contents answers now budget old outcome new = Stays remaining contents answers now budget old outcome new

-- Calls more lead on, on the same connection or without one.
abbrev pub GoesOn : {T : Type 0} → (T → Option (List ℕ)) → (T → Option (List ℕ)) → Upstream T → Upstream T → Type 0
GoesOn remaining contents old new =
    (calls : List RouterCall) (b : Begun) → ShowsUpstream remaining contents calls b old → (more : List RouterCall) × ShowsUpstream remaining contents (more ++ calls) b new

-- the first of two times, if there is any
abbrev pub soonest : Option ℕ → Option ℕ → Option ℕ
soonest None other = other
soonest (Some one) None = Some one
soonest (Some one) (Some other) = Some (min one other)

-- Data are asked for again before they expire, whatever refresh interval the cache gives (RFC 8210 section 6): when half of expire has passed since
-- the commit. A query that was put since then counts instead.
abbrev pub early_due : Option Committed → ℕ → Option ℕ
early_due None asked = None
early_due (Some version) asked = let half = sum_of version.moment (version.intervals.expire / 2) in if nat_lt asked half then Some half else None

-- When the cache is asked again: by its refresh or retry interval, or earlier
abbrev pub refresh_due : List RouterCall → Option ℕ
refresh_due calls = soonest (due (played calls).items) (early_due (kept (played calls).items).version (asked_at calls))

-- An idle link sends its next query.
abbrev pub question_due : List RouterCall → Option ℕ
question_due calls = if is_idle (after calls).link then refresh_due calls else None

-- The answer to a query has a limit: this many seconds without a byte, and this many in all.
abbrev pub answer_due : (stall limit : ℕ) → List RouterCall → Option ℕ
answer_due stall limit calls = if is_asking (after calls).link then Some (min (sum_of (heard_at calls) stall) (sum_of (asked_at calls) limit)) else None

-- Without a connection the next one is made at once if none was made yet (RFC 8210 section 5.1). So it is if the session changed on the latest one, or
-- if the cache asked for version 0 (section 7).
abbrev pub attempt_at : List RouterCall → ℕ
attempt_at calls = if has_flushed calls || asks_for_version_0 calls then 0 else unwrap_or (refresh_due calls) 0

abbrev pub attempt_due : List RouterCall → Option ℕ
attempt_due calls = if is_closed (after calls).link then Some (attempt_at calls) else None

-- A link that has ended is closed at once.
abbrev pub end_due : List RouterCall → Option ℕ
end_due calls = if has_ended (after calls).link then Some 0 else None

abbrev pub second_after : ℕ → Option ℕ
second_after last = if nat_lt last 18446744073709551615 then Some (last + 1) else None

-- The first second at which the data are dropped: more than expire has passed since the commit (RFC 8210 section 6). Moments are u64.
abbrev pub expiry_of : Option Committed → Option ℕ
expiry_of None = None
expiry_of (Some version) = second_after (sum_of version.moment version.intervals.expire)

-- What is due next is the first of these.
abbrev pub next_due : (stall limit : ℕ) → List RouterCall → Option ℕ
next_due stall limit calls =
    soonest (soonest (answer_due stall limit calls) (question_due calls)) (soonest (soonest (attempt_due calls) (end_due calls)) (expiry_of (kept (played calls).items).version))

abbrev pub is_past : Option ℕ → ℕ → Bool
is_past None now = false
is_past (Some at) now = not (nat_lt now at)

-- Data are over if and only if that second has come.
abbrev pub ExpiresExactly : Type 0
ExpiresExactly = (version : Committed) (now : ℕ) → now < 2 ^ 64 → is_over (Some version) now ≡ is_past (expiry_of (Some version)) now

-- A query is outstanding that has brought no byte for so long.
abbrev pub is_stalled : ℕ → ℕ → List RouterCall → Bool
is_stalled stall now calls = is_asking (after calls).link && is_past (Some (sum_of (heard_at calls) stall)) now

-- A query is outstanding for so long.
abbrev pub is_overdue : ℕ → ℕ → List RouterCall → Bool
is_overdue limit now calls = is_asking (after calls).link && is_past (Some (sum_of (asked_at calls) limit)) now

-- Then the connection is lost.
abbrev pub lost_at : (stall limit now : ℕ) → List RouterCall → Option DisconnectReason
lost_at stall limit now calls = if is_stalled stall now calls then Some Stalled else if is_overdue limit now calls then Some TimedOut else None

-- An idle link is asked earlier than by its router's timer.
abbrev pub asks_early : ℕ → List RouterCall → Bool
asks_early now calls = is_past (question_due calls) now

-- A connection that is lost is dropped. Otherwise the router's clock is advanced, and a query that is due then is put.
abbrev pub ticked : (stall limit now : ℕ) → List RouterCall → List RouterCall
ticked stall limit now calls =
    if is_some (lost_at stall limit now calls) then Closes now ∷ calls
    else if asks_early now (Ticks now ∷ calls) then AsksNow ∷ Ticks now ∷ calls
    else Ticks now ∷ calls

abbrev pub TicksOn : {T : Type 0} → (T → Option (List ℕ)) → (T → Option (List ℕ)) → ℕ → Upstream T → Option DisconnectReason → Upstream T → Type 0
TicksOn remaining contents now old outcome new =
    (calls : List RouterCall) (b : Begun) → ShowsUpstream remaining contents calls b old →
    (outcome ≡ lost_at old.stall old.answer_limit now calls) × ShowsUpstream remaining contents (ticked old.stall old.answer_limit now calls) b new

-- The data of a cache: the table that the transcript keeps, if that keeps a version
abbrev pub table_if : Option Committed → VrpSet → Option VrpSet
table_if None table = None
table_if (Some version) table = Some table

abbrev pub data_of : Kept → Option VrpSet
data_of k = table_if k.version k.table

-- Whatever a cache sent: what was passed to the router is what was read, as `ShowsUpstream` says. The PDUs of the transcript are the split
-- of it. What is held is what the transcript keeps. What was pulled and written are the router's questions, and its Error Report if it sent
-- one.
pub record Holds {T : Type 0} (remaining contents : T → Option (List ℕ)) (calls : List RouterCall) (b : Begun) (u : Upstream T) : Type 0 where
  pub shown : ShowsUpstream remaining contents calls b u
  pub split : IsSplit (played calls).router (played calls).items (came calls)
  pub kept : IsKept (played calls).router (played calls).items
  pub said : HasSaid (played calls).router (played calls).items (pulled_by calls)

abbrev pub EachHolds : {T : Type 0} → (T → Option (List ℕ)) → (T → Option (List ℕ)) → Upstream T → Type 0
EachHolds remaining contents u =
    (calls : List RouterCall) (b : Begun) → ShowsUpstream remaining contents calls b u → Holds remaining contents calls b u

-- As long as no fault shows in what came on a connection, the PDUs that are counted as received are those of the transcript's split, by type.
abbrev pub CountsReceived : {T : Type 0} → (T → Option (List ℕ)) → (T → Option (List ℕ)) → Upstream T → Type 0
CountsReceived {T = T} remaining contents u =
    (calls : List RouterCall) (b : Begun) (c : Connection T) → ShowsUpstream remaining contents calls b u → u.connection ≡ Some c → fault_in (played calls).items ≡ None
    → (kind : Kind) → count_of c.traffic.received.pdus kind ≡ capped (units_of kind (units_read_in (played calls).items))
