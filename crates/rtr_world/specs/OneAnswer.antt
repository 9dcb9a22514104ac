-- What is on its way to a router is at most one answer (RFC 8210 sections 5 and 8).
use Rattle.std.specs.Prelude.{◌≡◌, ◌⊎◌, ℕ, ◌==◌, Bool, true, false, List, [], ◌∷◌, ◌++◌, find, map, Option, Some, None, IsSome, ⊤}
use Rattle.std.specs.List.{AllByRecursion}
use Rattle.prefixes.specs.Payload.{Payload}
use Rattle.vrps.specs.Instance.{Instance, named}
use Rattle.vrps.specs.VrpSet.{VrpSet}
use Rattle.rtr_pdu.specs.Code.{INTERNAL_ERROR}
use Rattle.rtr_pdu.specs.declared.unit.Unit.{Unit}
use Rattle.rtr_pdu.specs.declared.unit.Unit.TheVariants.{SerialNotify, CacheResponse, Prefix, EndOfData, EndOfData0, RouterKey}
use Rattle.rtr_pdu.specs.declared.version.Version.{Version}
use Rattle.rtr_pdu.specs.declared.version.Version.TheVariants.{V1}
use Rattle.rtr_ends.specs.Answer.{answer, report, sent, sent_all, session_in}
use Rattle.rtr_ends.specs.Commit.{Commits}
use Rattle.rtr_ends.specs.Connection.{IsLater, Sent, bytes_sent, takes_memory}
use Rattle.rtr_ends.specs.RouterLink.{Link, Closed, Idle, Asked, Answering, Ended}
use Rattle.rtr_ends.specs.Transcript.{Question, AskReset, AskSerial, query, Item, At, Reads, Committed, base_of, of_version, under_way}
use Rattle.rtr_world.specs.World.{Side, World, instances, timing}
use Rattle.rtr_world.specs.History.{conn_due}

-- the PDUs that are no notifies
abbrev pub without_notifies : List Unit → List Unit
without_notifies [] = []
without_notifies (SerialNotify session serial ∷ units) = without_notifies units
without_notifies (unit ∷ units) = unit ∷ without_notifies units

-- each notify is of this session
abbrev pub NotifiesOf : ℕ → List Unit → Type 0
NotifiesOf one [] = ⊤
NotifiesOf one (SerialNotify session serial ∷ units) = (session ≡ one) × NotifiesOf one units
NotifiesOf one (unit ∷ units) = NotifiesOf one units

-- These bytes are a beginning of the first PDU, and not all of it.
abbrev pub IsPart : List ℕ → List Sent → Type 0
IsPart [] units = ⊤
IsPart (b ∷ held) [] = ⊥
IsPart (b ∷ held) (first ∷ units) = (next : ℕ) × (rest : List ℕ) × ((b ∷ held) ++ next ∷ rest ≡ sent first.version first.unit)

-- the PDUs of the answer that were read so far, the first one first
abbrev pub answered : List Item → List Unit
answered [] = []
answered (Reads (CacheResponse session) ∷ items) = CacheResponse session ∷ []
answered (Reads (Prefix announce v) ∷ items) = answered items ++ Prefix announce v ∷ []
answered (Reads (SerialNotify session serial) ∷ items) = answered items
answered (Reads (RouterKey key) ∷ items) = answered items
answered (At now ∷ items) = answered items
answered (item ∷ items) = []

-- The connection's instance was like this at some time after the connection was made.
pub record WasSo (w : World) (home cache : Instance) : Type 0 where
  pub since : IsLater home cache
  pub latest : Instance
  pub found : find (λ i. i.session == home.session) (instances w) ≡ Some latest
  pub until : IsLater cache latest

-- These PDUs are its answer, as it was when the question was read,
pub record IsAnswer (w : World) (version : Version) (home : Instance) (read : Option Instance) (question : Question) (units : List Unit) : Type 0 where
  pub cache : Instance
  pub was : WasSo w home cache
  pub read_so : read ≡ Some cache
  pub are : units ≡ (answer version cache w.keep timing (query question)).units

-- or Error Report 1 in the place of one that may allocate memory.
pub record IsWantingAnswer (w : World) (version : Version) (home : Instance) (read : Option Instance) (question : Question) (units : List Unit) : Type 0 where
  pub cache : Instance
  pub was : WasSo w home cache
  pub read_so : read ≡ Some cache
  pub takes : takes_memory version cache (query question) ≡ true
  pub are : units ≡ report INTERNAL_ERROR [] ∷ []

abbrev pub IsReply : World → Version → Instance → Option Instance → Question → List Unit → Type 0
IsReply w version home read question units = IsAnswer w version home read question units ⊎ IsWantingAnswer w version home read question units

-- the records of an answer
abbrev pub withdrawn_in : List Unit → List Payload
withdrawn_in [] = []
withdrawn_in (Prefix false v ∷ units) = v ∷ withdrawn_in units
withdrawn_in (unit ∷ units) = withdrawn_in units

abbrev pub announced_in : List Unit → List Payload
announced_in [] = []
announced_in (Prefix true v ∷ units) = v ∷ announced_in units
announced_in (unit ∷ units) = announced_in units

-- the last PDU is an End of Data of this version
abbrev pub EndsWith : ℕ → ℕ → List Unit → Type 0
EndsWith session serial [] = ⊥
EndsWith session serial (EndOfData one number refresh retry expire ∷ []) = (one ≡ session) × (number ≡ serial)
EndsWith session serial (EndOfData0 one number ∷ []) = (one ≡ session) × (number ≡ serial)
EndsWith session serial (unit ∷ units) = EndsWith session serial units

-- The records of an answer lead from a base to the set that was published under the name of its End of Data.
pub record LeadsToPublished (all : List Instance) (version : Version) (base : VrpSet) (session : ℕ) (units : List Unit) : Type 0 where
  pub serial : ℕ
  pub ends : EndsWith session serial units
  pub set : VrpSet
  pub commits : Commits base (withdrawn_in units) (announced_in units) set
  pub published : named (session_in version) all session serial ≡ Some set

abbrev pub IfResponse : List Instance → Version → VrpSet → List Unit → Type 0
IfResponse all version base (CacheResponse session ∷ units) = LeadsToPublished all version base session units
IfResponse all version base units = ⊤

-- One whole answer to this question, over this table
abbrev pub IsWholeAnswer : World → Version → Instance → Option Instance → Question → VrpSet → List Unit → Type 0
IsWholeAnswer w version home read question table units = IsReply w version home read question units × IfResponse (instances w) version (base_of question table) units

-- a question is of what is committed in its version
abbrev pub Fits : Question → Option Committed → Type 0
Fits AskReset version = ⊤
Fits (AskSerial session serial) None = ⊥
Fits (AskSerial session serial) (Some version) = (session ≡ version.session) × (serial ≡ version.serial)

-- What is still to come, notifies aside, and what a cut removed of it: nothing on an idle link. If a question is outstanding, nothing yet
-- or the whole answer. And the rest of one that has begun. What is staged is what was read of it.
abbrev pub ComesOn : World → Instance → Side → Link → List Unit → Type 0
ComesOn w home s Idle rest = rest ≡ []
ComesOn w home s (Asked question) rest =
    Fits question (of_version s.router.spoken s.router.version) × ((rest ≡ []) ⊎ IsWholeAnswer w s.router.spoken home s.read_at question s.router.table rest)
ComesOn w home s (Answering a) rest =
    Fits a.question (of_version s.router.spoken s.router.version) × (under_way s.items ≡ Some a)
    × IsWholeAnswer w s.router.spoken home s.read_at a.question s.router.table (answered s.items ++ rest)
ComesOn w home s link rest = ⊤

abbrev pub units_in : List Sent → List Unit
units_in coming = map (λ (p : Sent). p.unit) coming

-- Each PDU is in this version, and each notify of the session that the instance has in it.
abbrev pub AreIn : Version → Instance → List Sent → Type 0
AreIn version home coming = AllByRecursion (λ (p : Sent). p.version ≡ version) coming × NotifiesOf (session_in version home) (units_in coming)

-- PDUs come in the version of the connection; until it is agreed on, notifies of version 1 may come first (RFC 8210 section 7).
abbrev pub OwnNotifies : Bool → Version → Instance → List Sent → Type 0
OwnNotifies true version home coming = AreIn version home coming
OwnNotifies false version home [] = ⊤
OwnNotifies false version home (first ∷ coming) =
    AreIn version home (first ∷ coming)
    ⊎ ((serial : ℕ) × (first ≡ record { version = V1; unit = SerialNotify (session_in V1 home) serial }) × OwnNotifies false version home coming)

-- the bytes that the router holds, those on the wire, those still to be pulled, and those lost by a cut or a restart
abbrev pub in_flight : Side → List ℕ → List ℕ
in_flight s lost = s.router.held ++ (s.down ++ (conn_due s.conn ++ lost))

-- The bytes in flight are the PDUs to come: notifies of the connection, and the rest of one answer. Nothing is lost while it is open.
pub record OneAnswer (w : World) (s : Side) : Type 0 where
  pub home : Instance
  pub home_is : s.home ≡ Some home
  pub coming : List Sent
  pub lost : List ℕ
  pub bytes : in_flight s lost ≡ bytes_sent coming
  pub part : IsPart s.router.held coming
  pub whole : IsSome s.conn → lost ≡ []
  pub notifies : OwnNotifies s.router.agreed s.router.spoken home coming
  pub rest : ComesOn w home s s.router.link (without_notifies (units_in coming))

-- Between events a closed link holds nothing, nothing is pending on it, and nothing is on the wire to it. No link has ended, and on any
-- other there is one answer.
abbrev pub Between : World → Side → Link → Type 0
Between w s Closed = (s.router.held ≡ []) × (s.router.out ≡ []) × (s.down ≡ [])
Between w s (Ended end) = ⊥
Between w s link = OneAnswer w s

-- What is due if a question was read just now: the answer of the cache as it is now. If memory runs out at a PDU, it is Error Report 1 in
-- the place of one that may allocate memory.
abbrev pub IsOfNow : Version → Instance → ℕ → Option ℕ → Link → List ℕ → Type 0
IsOfNow version cache keep wanting (Asked question) due =
    (due ≡ sent_all version (answer version cache keep timing (query question)).units)
    ⊎ (IsSome wanting × (takes_memory version cache (query question) ≡ true) × (due ≡ sent_all version (report INTERNAL_ERROR [] ∷ [])))
IsOfNow version cache keep wanting link due = ⊥
