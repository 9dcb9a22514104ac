-- One connection of a router over a reader and a writer (RFC 8210 sections 5 to 8).
use Rattle.std.specs.Prelude.{◌≡◌, ℕ, ◌+◌, ◌*◌, ◌<◌, ◌≤◌, Bool, true, false, List, [], ◌∷◌, ◌++◌, length, take, Option, Some, None, Result, Ok, Err, if◌then◌else◌, ⊤}
use Rattle.std.specs.List.{AllByRecursion}
use Rattle.std.specs.Io.KnownBytes.{Appends, Consumes, IsAtEnd}
use Rattle.rtr_pdu.specs.Unit.{MAX_UNIT_LEN}
use Rattle.rtr_pdu.specs.Device.{GoesOutInPart}
use Rattle.rtr_pdu.specs.Payloads.{AreBytes}
use Rattle.rtr_pdu.specs.declared.device.WriteFailed.{WriteFailed as Failed}
use Rattle.rtr_ends.specs.Consumed.{came}
use Rattle.rtr_ends.specs.LinkRules.{Router}
use Rattle.rtr_ends.specs.Router.{RouterCall, Connects, Receives, Pulls, Closes, AsksNow, Ticks, Speaks, Configures, played}
use Rattle.rtr_ends.specs.RouterLink.{Link, Idle, Asked, Answering, Ended, is_reading}
use Rattle.rtr_ends.specs.RouterShown.{CallsLead, Led}
use Rattle.rtr_ends.specs.declared.fetching.Fetched.{Fetched}
use Rattle.rtr_ends.specs.declared.fetching.Fetched.TheVariants as outcomes
use Rattle.rtr_ends.specs.declared.router.Router as code
use Rattle.rtr_ends.specs.declared.streams.StreamFault.{StreamFault}
use Rattle.rtr_ends.specs.declared.streams.StreamFault.TheVariants.{ReadFailed, WriteFailed, Memory}

-- What a stream calls on its router while it is connected: it passes in bytes at this moment, and pulls.
abbrev pub IsFetchCall : ℕ → RouterCall → Type 0
IsFetchCall now (Receives at wanting piece) = (at ≡ now) × AreBytes piece
IsFetchCall now (Pulls most) = ⊤
IsFetchCall now (Connects at) = ⊥
IsFetchCall now (Closes at) = ⊥
IsFetchCall now AsksNow = ⊥
IsFetchCall now (Ticks at) = ⊥
IsFetchCall now (Speaks version) = ⊥
IsFetchCall now (Configures config) = ⊥

-- The bytes that these calls, the last first, pulled on the latest connection: questions and reports
abbrev pub pulled_by : List RouterCall → List ℕ
pulled_by [] = []
pulled_by (Connects now ∷ calls) = []
pulled_by (Pulls most ∷ calls) = pulled_by calls ++ take most (played calls).router.out
pulled_by (call ∷ calls) = pulled_by calls

-- A question is outstanding.
abbrev pub is_asking : Link → Bool
is_asking (Asked question) = true
is_asking (Answering answer) = true
is_asking link = false

-- The state of a link that has no question outstanding: it became idle by an End of Data, or by code 2, No Data Available; or it has ended.
abbrev pub reached_by : Link → Bool → Option Fetched
reached_by Idle no_data = Some (if no_data then outcomes.NoData else outcomes.Committed)
reached_by (Ended end) no_data = Some (outcomes.Ended end)
reached_by link no_data = None

abbrev pub IsReached : Fetched → Type 0
IsReached outcomes.Committed = ⊤
IsReached outcomes.NoData = ⊤
IsReached (outcomes.Ended end) = ⊤
IsReached outcomes.PeerClosed = ⊥
IsReached outcomes.Limit = ⊥

-- All that was pulled has gone out, and nothing is pending.
abbrev pub AllAsked : List RouterCall → Option (List ℕ) → Option (List ℕ) → Type 0
AllAsked calls had has = ((played calls).router.out ≡ []) × Appends had has (pulled_by calls)

-- All that was read is consumed, and a question is outstanding.
abbrev pub StillAsks : List RouterCall → List ℕ → Type 0
StillAsks calls unread = (unread ≡ []) × (is_asking (played calls).router.link ≡ true)

-- How a stream ended: these calls led to its router, these bytes were read and not consumed, and this is left of the input. What ended the
-- link consumes nothing after it. If the writer failed, a beginning of what was pulled has gone out.
abbrev pub FetchEnds : List RouterCall → List ℕ → Option (List ℕ) → Option (List ℕ) → Option (List ℕ) → Result Fetched StreamFault → Type 0
FetchEnds calls unread left had has (Ok outcomes.Committed) =
    AllAsked calls had has × (unread ≡ []) × ((played calls).router.link ≡ Idle) × ((played calls).router.no_data ≡ false)
FetchEnds calls unread left had has (Ok outcomes.NoData) =
    AllAsked calls had has × (unread ≡ []) × ((played calls).router.link ≡ Idle) × ((played calls).router.no_data ≡ true)
FetchEnds calls unread left had has (Ok (outcomes.Ended end)) = AllAsked calls had has × ((played calls).router.link ≡ Ended end)
FetchEnds calls unread left had has (Ok outcomes.PeerClosed) = AllAsked calls had has × StillAsks calls unread × IsAtEnd left
FetchEnds calls unread left had has (Ok outcomes.Limit) = AllAsked calls had has × StillAsks calls unread
FetchEnds calls unread left had has (Err ReadFailed) = AllAsked calls had has × StillAsks calls unread
FetchEnds calls unread left had has (Err WriteFailed) = GoesOutInPart had has (pulled_by calls)
FetchEnds calls unread left had has (Err Memory) = ⊥

-- The calls on a router to which these calls led, and which was connected then
abbrev pub calls_since : List RouterCall → ℕ → List RouterCall → List RouterCall
calls_since turns now calls = turns ++ Connects now ∷ calls

-- What was read on a connection, in this many calls of at most 4,096 bytes each, was consumed but for what is reported; and so it ended.
pub record FetchesSo (now : ℕ) (calls : List RouterCall) (before left : Option (List ℕ)) (reads : ℕ) (had has : Option (List ℕ)) (result : Result Fetched StreamFault) : Type 0 where
  pub turns : List RouterCall
  pub each : AllByRecursion (IsFetchCall now) turns
  pub unread : List ℕ
  pub consumed : Consumes before left (came (calls_since turns now calls) ++ unread)
  pub few : length (came (calls_since turns now calls) ++ unread) ≤ MAX_UNIT_LEN * reads
  pub ends : FetchEnds (calls_since turns now calls) unread left had has result

-- Its connection is still to be closed.
abbrev pub FetchedAs : ℕ → List RouterCall → Option (List ℕ) → Option (List ℕ) → ℕ → Option (List ℕ) → Option (List ℕ) → Result Fetched StreamFault → code.Router → Type 0
FetchedAs now calls before left reads had has result new =
    (f : FetchesSo now calls before left reads had has result) × CallsLead (calls_since f.turns now calls) new

-- The router was connected, and is where that, what was read and the end of the connection lead.
abbrev pub Fetches : ℕ → List RouterCall → Option (List ℕ) → Option (List ℕ) → ℕ → Option (List ℕ) → Option (List ℕ) → Result Fetched StreamFault → code.Router → Type 0
Fetches now calls before left reads had has result new =
    (f : FetchesSo now calls before left reads had has result) × Led (Closes now ∷ calls_since f.turns now calls) new

-- The number of reads, if at most this many were allowed
abbrev pub FetchReads : ℕ → ℕ → ℕ → Result Fetched StreamFault → Type 0
FetchReads limit before now (Ok outcomes.Limit) = now ≡ before + limit
FetchReads limit before now (Ok outcomes.PeerClosed) = (before < now) × (now ≤ before + limit)
FetchReads limit before now result = (before ≤ now) × (now ≤ before + limit)

-- How a piece was consumed by a router to which these calls led. All of it is consumed, or the link has ended; and all bytes to be pulled
-- have gone out, or the writer failed.
abbrev pub TakesSo : Router → List ℕ → List ℕ → Option (List ℕ) → Option (List ℕ) → Result ⊤ Failed → Type 0
TakesSo r unread sent had has (Ok done) = (r.out ≡ []) × (0 < length unread → is_reading r.link ≡ false) × Appends had has sent
TakesSo r unread sent had has (Err failed) = GoesOutInPart had has sent

-- with the calls after those, in front of them
pub record Taken (now : ℕ) (calls : List RouterCall) (piece : List ℕ) (had has : Option (List ℕ)) (result : Result ⊤ Failed) (new : code.Router) : Type 0 where
  pub more : List RouterCall
  pub each : AllByRecursion (IsFetchCall now) more
  pub leads : CallsLead (more ++ calls) new
  pub unread : List ℕ
  pub came_is : came (more ++ calls) ++ unread ≡ came calls ++ piece
  pub sent : List ℕ
  pub pulled_is : pulled_by (more ++ calls) ≡ pulled_by calls ++ sent
  pub takes : TakesSo (played (more ++ calls)).router unread sent had has result

-- This much of a piece is consumed, and all that was pulled has gone out.
pub record TakenPart (now : ℕ) (calls : List RouterCall) (piece : List ℕ) (had has : Option (List ℕ)) (new : code.Router) : Type 0 where
  pub more : List RouterCall
  pub each : AllByRecursion (IsFetchCall now) more
  pub leads : CallsLead (more ++ calls) new
  pub came_is : came (more ++ calls) ≡ came calls ++ piece
  pub sent : List ℕ
  pub pulled_is : pulled_by (more ++ calls) ≡ pulled_by calls ++ sent
  pub out : Appends had has sent

-- A router that is connected, between two reads
pub record Awaits (now : ℕ) (calls : List RouterCall) (before left : Option (List ℕ)) (reads : ℕ) (had has : Option (List ℕ)) (router : code.Router) : Type 0 where
  pub turns : List RouterCall
  pub each : AllByRecursion (IsFetchCall now) turns
  pub leads : CallsLead (calls_since turns now calls) router
  pub unread : List ℕ
  pub consumed : Consumes before left (came (calls_since turns now calls) ++ unread)
  pub few : length (came (calls_since turns now calls) ++ unread) ≤ MAX_UNIT_LEN * reads
  pub all_read : 0 < length unread → is_reading (played (calls_since turns now calls)).router.link ≡ false
  pub asked : AllAsked (calls_since turns now calls) had has
