-- One connection of a cache over a reader and a writer (RFC 8210 sections 5, 7, 8 and 12).
use Rattle.std.specs.Prelude.{◌≡◌, ℕ, ◌+◌, ◌*◌, ◌<◌, ◌≤◌, Bool, true, false, not, List, [], ◌++◌, length, Option, Some, None, Result, Ok, Err, ⊤}
use Rattle.std.specs.List.{AllByRecursion}
use Rattle.std.specs.Io.KnownBytes.{Appends, Consumes, IsAtEnd}
use Rattle.vrps.specs.Instance.{Instance, IsInstance}
use Rattle.rtr_pdu.specs.Unit.{MAX_UNIT_LEN}
use Rattle.rtr_pdu.specs.Device.{GoesOutInPart}
use Rattle.rtr_pdu.specs.Payloads.{AreBytes}
use Rattle.rtr_pdu.specs.declared.device.WriteFailed.{WriteFailed as Failed}
use Rattle.rtr_ends.specs.Cache.{ConnCall, Conn, Gives, IsServed, Notifies, Publishes, Serving, Takes, is_none, serving}
use Rattle.rtr_ends.specs.CacheState.{CacheState, ShowsCache, with_conn}
use Rattle.rtr_ends.specs.declared.cache.Cache.{Cache}
use Rattle.rtr_ends.specs.declared.serving.Served.{Served}
use Rattle.rtr_ends.specs.declared.serving.Served.TheVariants.{PeerClosed, Truncated, CacheEnded, Limit}
use Rattle.rtr_ends.specs.declared.streams.StreamFault.{StreamFault}
use Rattle.rtr_ends.specs.declared.streams.StreamFault.TheVariants.{ReadFailed, WriteFailed, Memory}

-- What a stream calls on its connection: it passes in bytes, and pulls what is due. It publishes nothing, and notifies no router.
abbrev pub IsTurn : ConnCall → Type 0
IsTurn (Publishes set) = ⊥
IsTurn (Takes wanting piece) = AreBytes piece
IsTurn (Gives most) = ⊤
IsTurn Notifies = ⊥

-- the connection that was opened at this cache, after these calls, the last first
abbrev pub stood : CacheState → List ConnCall → Serving
stood m calls = serving m.keep m.timing m.cache calls

-- It is so under this number of the cache, and all else is as it was.
abbrev pub StandsAt : {S : Type 0} → (ℕ → Instance → S → Type 0) → CacheState → ℕ → List ConnCall → Cache S → Type 0
StandsAt holds m c calls cache = ShowsCache holds (with_conn c (Some (stood m calls).conn) m) cache

-- bytes of a PDU that has not come whole
abbrev pub is_within : Option Conn → Bool
is_within None = false
is_within (Some o) = not (is_none o.held)

abbrev pub ended_within : Bool → Served
ended_within true = Truncated
ended_within false = PeerClosed

-- All that was pulled has gone out, and nothing is due: what has gone out are the replies.
abbrev pub AllOut : Serving → Option (List ℕ) → Option (List ℕ) → Type 0
AllOut s had has = (s.conn.state.due ≡ []) × Appends had has s.given

-- All that was read is consumed, and the connection continues.
abbrev pub ConnectionGoesOn : Serving → List ℕ → Type 0
ConnectionGoesOn s unread = (unread ≡ []) × (s.conn.state.ended ≡ false)

-- How a stream ended whose connection is so, if these bytes were read and not consumed and this is left of the input. It ended at the end
-- of the input, at a PDU's end or inside a PDU. Or a reply ended the connection, which consumes nothing after it. Or as many reads were
-- made as are allowed, or a device failed. If the writer failed, a beginning of what was pulled has gone out. Without memory for a
-- connection nothing was read or written.
abbrev pub EndsSo : Serving → List ℕ → Option (List ℕ) → Option (List ℕ) → Option (List ℕ) → Result Served StreamFault → Type 0
EndsSo s unread left had has (Ok PeerClosed) = AllOut s had has × ConnectionGoesOn s unread × (s.conn.held ≡ []) × IsAtEnd left
EndsSo s unread left had has (Ok Truncated) = AllOut s had has × ConnectionGoesOn s unread × (0 < length s.conn.held) × IsAtEnd left
EndsSo s unread left had has (Ok CacheEnded) = AllOut s had has × (s.conn.state.ended ≡ true)
EndsSo s unread left had has (Ok Limit) = AllOut s had has × ConnectionGoesOn s unread
EndsSo s unread left had has (Err ReadFailed) = AllOut s had has × ConnectionGoesOn s unread
EndsSo s unread left had has (Err WriteFailed) = GoesOutInPart had has s.given
EndsSo s unread left had has (Err Memory) = (unread ≡ []) × (s.came ≡ []) × (s.given ≡ [])

-- One connection that was opened at this cache. What was read, in this many calls of at most 4,096 bytes each, was consumed but for what is
-- reported. That made the connection's history (`IsServed`), by which what it pulled is its replies. And so it ended.
pub record ServesConnection (m : CacheState) (before left : Option (List ℕ)) (reads : ℕ) (had has : Option (List ℕ)) (result : Result Served StreamFault) : Type 0 where
  pub calls : List ConnCall
  pub turns : AllByRecursion IsTurn calls
  pub served : IsInstance m.cache → IsServed m.keep m.timing m.cache (stood m calls)
  pub unread : List ℕ
  pub consumed : Consumes before left ((stood m calls).came ++ unread)
  pub few : length ((stood m calls).came ++ unread) ≤ MAX_UNIT_LEN * reads
  pub ends : EndsSo (stood m calls) unread left had has result

-- and its connection is still under this number
abbrev pub EndedAs : {S : Type 0} → (ℕ → Instance → S → Type 0) → CacheState → ℕ → Option (List ℕ) → Option (List ℕ) → ℕ → Option (List ℕ) → Option (List ℕ) → Result Served StreamFault → Cache S → Type 0
EndedAs holds m c before left reads had has result new =
    (s : ServesConnection m before left reads had has result) × StandsAt holds m c s.calls new

-- The number of reads, if at most this many were allowed
abbrev pub ReadsWithin : ℕ → ℕ → ℕ → Result Served StreamFault → Type 0
ReadsWithin limit before now (Ok Limit) = now ≡ before + limit
ReadsWithin limit before now (Ok served) = (before < now) × (now ≤ before + limit)
ReadsWithin limit before now (Err fault) = (before ≤ now) × (now ≤ before + limit)

-- How the piece of a connection was answered, after these calls. All of it is consumed, or the connection has ended; and all that became
-- due has gone out, or the writer failed.
abbrev pub AnswersSo : Serving → List ℕ → List ℕ → Option (List ℕ) → Option (List ℕ) → Result ⊤ Failed → Type 0
AnswersSo s unread sent had has (Ok done) = (s.conn.state.due ≡ []) × (0 < length unread → s.conn.state.ended ≡ true) × Appends had has sent
AnswersSo s unread sent had has (Err failed) = GoesOutInPart had has sent

-- with the calls after it, those before it included
pub record Answered {S : Type 0} (holds : ℕ → Instance → S → Type 0) (m : CacheState) (c : ℕ) (calls : List ConnCall) (piece : List ℕ) (had has : Option (List ℕ)) (result : Result ⊤ Failed) (new : Cache S) : Type 0 where
  pub later : List ConnCall
  pub turns : AllByRecursion IsTurn later
  pub stands : StandsAt holds m c later new
  pub unread : List ℕ
  pub came : (stood m later).came ++ unread ≡ (stood m calls).came ++ piece
  pub sent : List ℕ
  pub given : (stood m later).given ≡ (stood m calls).given ++ sent
  pub answers : AnswersSo (stood m later) unread sent had has result

-- A connection after these calls, with this much of a piece consumed, and all that was pulled gone out
pub record Partly {S : Type 0} (holds : ℕ → Instance → S → Type 0) (m : CacheState) (c : ℕ) (calls : List ConnCall) (piece : List ℕ) (had has : Option (List ℕ)) (cache : Cache S) : Type 0 where
  pub later : List ConnCall
  pub turns : AllByRecursion IsTurn later
  pub stands : StandsAt holds m c later cache
  pub came : (stood m later).came ≡ (stood m calls).came ++ piece
  pub sent : List ℕ
  pub given : (stood m later).given ≡ (stood m calls).given ++ sent
  pub out : Appends had has sent

-- A connection between two reads
pub record Waits {S : Type 0} (holds : ℕ → Instance → S → Type 0) (m : CacheState) (c : ℕ) (before left : Option (List ℕ)) (reads : ℕ) (had has : Option (List ℕ)) (cache : Cache S) : Type 0 where
  pub calls : List ConnCall
  pub turns : AllByRecursion IsTurn calls
  pub stands : StandsAt holds m c calls cache
  pub consumed : Consumes before left (stood m calls).came
  pub few : length (stood m calls).came ≤ MAX_UNIT_LEN * reads
  pub goes_on : (stood m calls).conn.state.ended ≡ false
  pub all_out : AllOut (stood m calls) had has
