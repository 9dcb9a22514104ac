-- What a connection at the cache has to send: the PDU in its buffer, and what is left of an answer under way.
use Rattle.std.specs.Prelude.{◌≡◌, Bool, true, false, ℕ, ◌+◌, ◌-◌, ◌≤◌, List, [], ◌∷◌, ◌++◌, length, take, drop, min, Option, Some, None}
use Rattle.vrps.specs.Instance.{NumberedSet}
use Rattle.rtr_pdu.specs.Unit.{MAX_UNIT_LEN, IsUnitOf}
use Rattle.rtr_pdu.specs.declared.unit.Unit.{Unit}
use Rattle.rtr_pdu.specs.declared.unit.Unit.TheVariants.{CacheResponse}
use Rattle.rtr_ends.specs.declared.sender.Records.{Records}
use Rattle.rtr_ends.specs.declared.sender.Records.TheVariants.{Whole, Step}
use Rattle.rtr_ends.specs.declared.sender.Sender.{Sender}
use Rattle.rtr_ends.specs.declared.sender.Share.{Share}
use Rattle.rtr_ends.specs.declared.sender.AnswerCursor.{AnswerCursor}
use Rattle.rtr_ends.specs.declared.sessions.Sessions.{Sessions}
use Rattle.rtr_pdu.specs.declared.version.Version.{Version}
use Rattle.rtr_pdu.specs.declared.version.Version.TheVariants.{V0, V1}
use Rattle.rtr_ends.specs.Answer.{announcements, end_of_data, withdrawals, sent, sent_all}
use Rattle.rtr_ends.specs.Timing.{Intervals}

abbrev pub numbered_of : Share → NumberedSet
numbered_of s = record { serial = s.serial.0; set = s.set.value }

abbrev pub units_in : Records → List Unit
units_in (Whole share) = announcements share.set.value
units_in (Step serial change) = withdrawals change.withdraw ++ announcements change.announce

abbrev pub serial_in : Records → ℕ
serial_in (Whole share) = share.serial.0
serial_in (Step serial change) = serial.0

-- the session in a version, and in that in which is sent
abbrev pub session_by : Version → Sessions → ℕ
session_by V0 s = s.v0
session_by V1 s = s.v1

abbrev pub own_session : Sender → ℕ
own_session s = session_by s.version s.sessions

-- the PDUs that are left of an answer
abbrev pub left_in : Version → ℕ → Intervals → Option AnswerCursor → List Unit
left_in version session t None = []
left_in version session t (Some a) = drop a.place (units_in a.records) ++ end_of_data version session (serial_in a.records) t ∷ []

unfoldable pub left : Sender → List Unit
left s = left_in s.version (own_session s) s.timing s.answer

-- the bytes due
unfoldable pub due_of : Sender → List ℕ
due_of s = drop s.pulled s.buffer.items ++ sent_all s.version (left s)

-- how many bytes in the buffer are ready to be pulled
unfoldable pub ready_in : Sender → ℕ
ready_in s = length (drop s.pulled s.buffer.items)

-- the version of which there is a share
abbrev pub shared_in : Records → Option NumberedSet
shared_in (Whole share) = Some (numbered_of share)
shared_in (Step serial change) = None

abbrev pub newest_in : Option Share → Option AnswerCursor → Option NumberedSet
newest_in (Some share) answer = Some (numbered_of share)
newest_in None None = None
newest_in None (Some a) = shared_in a.records

unfoldable pub newest_of : Sender → Option NumberedSet
newest_of s = newest_in s.ready s.answer

-- If at most the bytes of one PDU were ready, at most these are.
abbrev pub KeepsRoom : Sender → Sender → Type 0
KeepsRoom old new = ready_in old ≤ MAX_UNIT_LEN → ready_in new ≤ MAX_UNIT_LEN

-- the rest stays, but for the version in which is sent
pub record StaysBut (old new : Sender) : Type 0 where
  pub sessions : new.sessions ≡ old.sessions
  pub timing : new.timing ≡ old.timing
  pub newest : newest_of new ≡ newest_of old
  pub room : KeepsRoom old new

-- the rest stays
pub record Stays (old new : Sender) : Type 0 where
  pub version : new.version ≡ old.version
  pub sessions : new.sessions ≡ old.sessions
  pub timing : new.timing ≡ old.timing
  pub newest : newest_of new ≡ newest_of old
  pub room : KeepsRoom old new

-- From now on is sent in this version. Nothing is due.
pub record Speaks (version : Version) (old new : Sender) : Type 0 where
  pub version_is : new.version ≡ version
  pub due : due_of new ≡ []
  pub stays : StaysBut old new

-- these PDUs are due
pub record Sends (old : Sender) (units : List Unit) (new : Sender) : Type 0 where
  pub due : due_of new ≡ sent_all old.version units
  pub stays : Stays old new

-- Its Cache Response is due, and then the rest of the answer.
pub record BeginsAnswer (old : Sender) (records : Records) (new : Sender) : Type 0 where
  pub version : new.version ≡ old.version
  pub sessions : new.sessions ≡ old.sessions
  pub timing : new.timing ≡ old.timing
  pub ready : new.ready ≡ old.ready
  pub answer : new.answer ≡ Some (record { records = records; place = 0 })
  pub due : due_of new ≡ sent_all old.version (CacheResponse (own_session old) ∷ units_in records ++ end_of_data old.version (own_session old) (serial_in records) old.timing ∷ [])
  pub room : ready_in new ≤ MAX_UNIT_LEN

-- the records of an answer that has ended
pub record KeepsRecords (old : Sender) (records : Records) (new : Sender) : Type 0 where
  pub version : new.version ≡ old.version
  pub sessions : new.sessions ≡ old.sessions
  pub timing : new.timing ≡ old.timing
  pub buffer : new.buffer ≡ old.buffer
  pub pulled : new.pulled ≡ old.pulled
  pub answer : new.answer ≡ None
  pub ready : newest_in new.ready None ≡ newest_in old.ready (Some (record { records = records; place = 0 }))

-- A PDU is written into a buffer, which then has these bytes, if there is a PDU.
abbrev pub Writes : {B : Type 0} → Version → Option Unit → Bool → B → List ℕ → B → Type 0
Writes version None written old bytes new = (written ≡ false) × (new ≡ old)
Writes version (Some u) written old bytes new = (written ≡ true) × (bytes ≡ sent version u) × IsUnitOf version u

-- The first PDU that was left is in the buffer, and the others are left.
pub record Hands (old new : Sender) : Type 0 where
  pub first : Unit
  pub was : left old ≡ first ∷ left new
  pub bytes : new.buffer.items ≡ sent old.version first
  pub pulled : new.pulled ≡ 0
  pub stays : Stays old new

abbrev pub as_list : Option NumberedSet → List NumberedSet
as_list None = []
as_list (Some v) = v ∷ []

-- bytes are pulled
pub record PullsBytes (due out : List ℕ) (count : ℕ) (now rest : List ℕ) : Type 0 where
  pub count_is : count ≡ min (length out) (length due)
  pub now_is : now ≡ take count due ++ drop count out
  pub rest_is : rest ≡ drop count due

-- bytes of the buffer are moved behind those that are filled
pub record GivesFrom (old : Sender) (out : List ℕ) (filled result : ℕ) (now : List ℕ) (new : Sender) : Type 0 where
  pub count : ℕ
  pub count_is : count ≡ min (length (drop old.pulled old.buffer.items)) (length out - filled)
  pub result_is : result ≡ filled + count
  pub now_is : now ≡ take filled out ++ take count (drop old.pulled old.buffer.items) ++ drop (filled + count) out
  pub left : drop new.pulled new.buffer.items ≡ drop count (drop old.pulled old.buffer.items)
  pub version : new.version ≡ old.version
  pub sessions : new.sessions ≡ old.sessions
  pub timing : new.timing ≡ old.timing
  pub ready : new.ready ≡ old.ready
  pub answer : new.answer ≡ old.answer

-- This many of these PDUs, from the first, are written behind the bytes that are filled.
pub record FillsWith (version : Version) (units : List Unit) (out : List ℕ) (filled count result : ℕ) (now : List ℕ) : Type 0 where
  pub within : count ≤ length units
  pub result_is : result ≡ filled + length (sent_all version (take count units))
  pub low : result ≤ length out
  pub now_is : now ≡ take filled out ++ sent_all version (take count units) ++ drop result out

-- Records of an answer from its place are written so, and it continues behind them.
pub record FillsFrom (version : Version) (old : AnswerCursor) (out : List ℕ) (filled result : ℕ) (now : List ℕ) (new : AnswerCursor) : Type 0 where
  pub count : ℕ
  pub fills : FillsWith version (drop old.place (units_in old.records)) out filled count result now
  pub records : new.records ≡ old.records
  pub place : new.place ≡ old.place + count

abbrev pub FillsAnswer : Version → Option AnswerCursor → List ℕ → ℕ → ℕ → List ℕ → Option AnswerCursor → Type 0
FillsAnswer version None out filled result now new = (result ≡ filled) × (now ≡ out) × (new ≡ None)
FillsAnswer version (Some old) out filled result now new = (cursor : AnswerCursor) × (new ≡ Some cursor) × FillsFrom version old out filled result now cursor

-- So are records of the answer under way, and the rest stays.
pub record FillsOn (old : Sender) (out : List ℕ) (filled result : ℕ) (now : List ℕ) (new : Sender) : Type 0 where
  pub version : new.version ≡ old.version
  pub sessions : new.sessions ≡ old.sessions
  pub timing : new.timing ≡ old.timing
  pub ready : new.ready ≡ old.ready
  pub buffer : new.buffer ≡ old.buffer
  pub pulled : new.pulled ≡ old.pulled
  pub answer : FillsAnswer old.version old.answer out filled result now new.answer
