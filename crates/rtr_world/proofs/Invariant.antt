-- What holds of a router, its connection and the wires between two bytes.
use Rattle.rtr_world.proofs.Words.{◌≡◌, ◌⊎◌, ℕ, ◌+◌, ◌≤◌, Bool, true, false, List, [], ◌∷◌, ◌++◌, length, Option, Some, None, ⊤, Payload, Instance, VrpSet, Unit, header_version, SerialNotify, CacheResponse, Prefix, EndOfData, EndOfData0, CacheReset, Version, V1, answer, report, session_in, Conn, Commits, IsLater, Sent, in_version, takes_memory, AllByRecursion, Router, Staged, Stays, stage, Link, Closed, Idle, Asked, Answering, Ended, Begun, Committed, Question, AskReset, AskSerial, query, base_of, led_to, of_version, default_config}
use Rattle.rtr_world.specs.History.{conn_due}
use Rattle.rtr_world.specs.OneAnswer.{EndsWith, OwnNotifies, announced_in, units_in, withdrawn_in, without_notifies}
use Rattle.rtr_world.specs.World.{Side, timing}
use Rattle.rtr_world.proofs.Places.{Ordered}
use Rattle.rtr_world.proofs.UnitStreams.{MaySpeak, Stream}
use Rattle.rtr_world.proofs.Versions.{Stands, TableAt, find_session, Seen, IsReadAt, IsSeen}

abbrev pub after_stage : Staged → (Begun → Type 0) → Type 0
after_stage (Stays a) Goes = Goes a
after_stage _ Goes = ⊥

-- These PDUs are the rest of an answer: they lead from the base, and from what is staged, to a set under a session and a serial.
abbrev pub Leads : VrpSet → Begun → List Unit → ℕ → ℕ → VrpSet → Type 0
Leads base a (Prefix announce v ∷ units) session serial set = after_stage (stage 16777215 base a announce v) (λ b. Leads base b units session serial set)
Leads base a (EndOfData one number refresh retry expire ∷ units) session serial set =
    (units ≡ []) × (one ≡ session) × (number ≡ serial) × (led_to base a.withdrawn a.announced ≡ set)
Leads base a (EndOfData0 one number ∷ units) session serial set =
    (units ≡ []) × (one ≡ session) × (number ≡ serial) × (led_to base a.withdrawn a.announced ≡ set)
Leads base a _ session serial set = ⊥

-- what is committed is of this session
abbrev pub Mine : ℕ → Option Committed → Type 0
Mine session None = ⊤
Mine session (Some version) = version.session ≡ session

abbrev pub OwnSession : ℕ → Option ℕ → Type 0
OwnSession session None = ⊤
OwnSession session (Some one) = one ≡ session

-- An outstanding question is of what is committed.
abbrev pub QuestionFits : ℕ → Question → Option Committed → Type 0
QuestionFits session AskReset version = Mine session version
QuestionFits session (AskSerial one serial) None = ⊥
QuestionFits session (AskSerial one serial) (Some version) = (one ≡ version.session) × (serial ≡ version.serial)

abbrev pub IsOwn : ℕ → Question → Type 0
IsOwn session AskReset = ⊤
IsOwn session (AskSerial one serial) = one ≡ session

-- the PDUs of records, the last first
abbrev pub records_of : Bool → List Payload → List Unit
records_of announce [] = []
records_of announce (v ∷ vs) = records_of announce vs ++ Prefix announce v ∷ []

-- what was read of an answer that withdraws first
abbrev pub read_of : Begun → List Unit
read_of a = CacheResponse a.session ∷ (records_of false a.withdrawn ++ records_of true a.announced)

abbrev pub NoneWithdrawn : List Unit → Type 0
NoneWithdrawn [] = ⊤
NoneWithdrawn (Prefix false v ∷ units) = ⊥
NoneWithdrawn (unit ∷ units) = NoneWithdrawn units

abbrev pub WithdrawsFirst : List Unit → Type 0
WithdrawsFirst [] = ⊤
WithdrawsFirst (Prefix true v ∷ units) = NoneWithdrawn units
WithdrawsFirst (unit ∷ units) = WithdrawsFirst units

abbrev pub InOrder : Begun → List Unit → Type 0
InOrder a rest = WithdrawsFirst rest × ((a.announced ≡ []) ⊎ NoneWithdrawn rest)

-- The connection's instance was like this at some time after the connection was made, when the cache read a PDU on it.
pub record WasCache (all : List Instance) (home : Seen) (cache : Instance) : Type 0 where
  pub since : IsLater home.made cache
  pub latest : Instance
  pub found : find_session V1 home.made.session all ≡ Some latest
  pub until : IsLater cache latest
  pub read : home.read ≡ Some cache

-- These PDUs are its answer then.
pub record FromCache (all : List Instance) (pv : Version) (home : Seen) (q : Question) (units : List Unit) : Type 0 where
  pub cache : Instance
  pub was : WasCache all home cache
  pub are : units ≡ (answer pv cache home.keep timing (query q)).units

-- Its answer then allocates memory.
pub record Lacked (all : List Instance) (pv : Version) (home : Seen) (q : Question) : Type 0 where
  pub cache : Instance
  pub was : WasCache all home cache
  pub takes : takes_memory pv cache (query q) ≡ true

abbrev pub OneReply : List Instance → Version → Seen → Question → List Unit → Type 0
OneReply all pv home q units = FromCache all pv home q units ⊎ (Lacked all pv home q × (units ≡ report 1 [] ∷ []))

-- The rest of an answer is to a version that was current when the connection was made, or later.
pub record OfAnswer (all : List Instance) (pv : Version) (home : Seen) (base : VrpSet) (a : Begun) (rest : List Unit) : Type 0 where
  pub serial : ℕ
  pub set : VrpSet
  pub stands : Stands all pv home.session serial set
  pub leads : Leads base a rest home.session serial set
  pub since : length home.sets ≤ length stands.older + 1
  pub from : FromCache all pv home a.question (read_of a ++ rest)
  pub ends : EndsWith home.session serial (read_of a ++ rest)
  pub commits : Commits base (withdrawn_in (read_of a ++ rest)) (announced_in (read_of a ++ rest)) set
  pub order : InOrder a rest

abbrev pub nothing_yet : Question → ℕ → Begun
nothing_yet question session = record { question = question; session = session; withdrawn = []; announced = [] }

-- One whole answer to the question
pub data Replies (all : List Instance) (pv : Version) (home : Seen) (q : Question) (base : VrpSet) (rest : List Unit) : Type 0 where
  no_data : (copy : List ℕ) → q ≡ AskReset → rest ≡ report 2 copy ∷ [] → Replies all pv home q base rest
  not_kept : (serial : ℕ) → q ≡ AskSerial home.session serial → rest ≡ CacheReset ∷ [] → Replies all pv home q base rest
  other_session : (session serial : ℕ) (copy : List ℕ) → q ≡ AskSerial session serial → (session ≡ home.session → ⊥) → rest ≡ report 0 copy ∷ [] → Replies all pv home q base rest
  no_memory : rest ≡ report 1 [] ∷ [] → Replies all pv home q base rest
  response : (tail : List Unit) → rest ≡ CacheResponse home.session ∷ tail → IsOwn home.session q → OfAnswer all pv home base (nothing_yet q home.session) tail → Replies all pv home q base rest

-- The question is on its way and nothing is answered, or the cache has read it and the whole answer is to come.
abbrev pub Waits : List Instance → Version → Seen → Question → VrpSet → List Unit → List Unit → Type 0
Waits all pv home q base wanted rest = ((wanted ≡ query q ∷ []) × (rest ≡ [])) ⊎ ((wanted ≡ []) × Replies all pv home q base rest × OneReply all pv home q rest)

abbrev pub Shape : List Instance → Version → Seen → Link → Bool → Option Committed → VrpSet → List Unit → List Unit → Type 0
Shape all pv home Idle agreed version table wanted rest = (wanted ≡ []) × (rest ≡ []) × (agreed ≡ true)
Shape all pv home (Asked q) agreed version table wanted rest = QuestionFits home.session q (of_version pv version) × Waits all pv home q (base_of q table) wanted rest
Shape all pv home (Answering a) agreed version table wanted rest =
    (wanted ≡ []) × (agreed ≡ true) × (a.session ≡ home.session) × QuestionFits home.session a.question (of_version pv version)
    × OfAnswer all pv home (base_of a.question table) a rest
Shape all pv home _ agreed version table wanted rest = ⊤

abbrev pub IfOpen : Option Conn → (Conn → Type 0) → Type 0
IfOpen None P = ⊤
IfOpen (Some o) P = P o

pub if_open : (P Q : Conn → Type 0) (o : Option Conn) → ((c : Conn) → P c → Q c) → IfOpen o P → IfOpen o Q
if_open P Q None f h = tt
if_open P Q (Some o) f h = f o h

-- a notify of version 1, which is all that the cache sends before it has read a header
abbrev pub IsEarly : Instance → Sent → Type 0
IsEarly home s = (serial : ℕ) × (s ≡ record { version = V1; unit = SerialNotify (session_in V1 home) serial })

-- if no header has come whole, nothing else comes, and no version is agreed on
abbrev pub Unheard : Option Version → Instance → List Sent → Bool → Type 0
Unheard None home coming agreed = AllByRecursion (IsEarly home) coming × (agreed ≡ false)
Unheard (Some version) home coming agreed = ⊤

-- The connection is to this instance, as it was or as it is, and nothing of what it sent is lost.
pub record Linked (i : Instance) (pv : Version) (home : Seen) (lost : List ℕ) : Type 0 where
  pub whole : lost ≡ []
  pub session : home.session ≡ session_in pv i
  pub made : length home.sets ≤ length i.sets
  pub later : IsLater home.made i

-- Open at the cache: what the router asked and the cache has not read whole are these PDUs.
pub record Open (i : Instance) (pv : Version) (home : Seen) (out up : List ℕ) (wanted : List Unit) (coming : List Sent) (agreed : Bool) (lost : List ℕ) (o : Conn) : Type 0 where
  pub linked : Linked i pv home lost
  pub open linked use *
  pub upward : Stream o.held (up ++ out) (in_version pv wanted)
  pub spoken : MaySpeak pv o.state.version
  pub unheard : Unheard (header_version o.state.version o.held) home.made coming agreed

-- What of a router stays if only bytes move.
pub record Talk : Type 0 where
  pub spoken : Version
  pub link : Link
  pub agreed : Bool
  pub session : Option ℕ
  pub version : Option Committed
  pub table : VrpSet

abbrev pub talk : Router → Talk
talk r = record { spoken = r.spoken; link = r.link; agreed = r.agreed; session = r.session; version = r.version; table = r.table }

-- What the router asked and has not been read whole, and what comes, however they lie on the wires
pub record Said (all : List Instance) (home : Seen) (t : Talk) : Type 0 where
  pub wanted : List Unit
  pub coming : List Sent
  pub version : home.version ≡ t.spoken
  pub session : home.session ≡ session_in t.spoken home.made
  pub notifies : OwnNotifies t.agreed t.spoken home.made coming
  pub own : OwnSession home.session t.session
  pub mine : t.agreed ≡ true → Mine home.session (of_version t.spoken t.version)
  pub shape : Shape all t.spoken home t.link t.agreed t.version t.table wanted (without_notifies (units_in coming))

pub record FlowOf (all : List Instance) (i : Instance) (home : Seen) (t : Talk) (held out : List ℕ) (conn : Option Conn) (up down : List ℕ) : Type 0 where
  pub said : Said all home t
  pub open said use *
  pub lost : List ℕ
  pub downward : Stream held (down ++ (conn_due conn ++ lost)) coming
  pub open_at : IfOpen conn (Open i t.spoken home out up wanted coming t.agreed lost)

abbrev pub Flow : List Instance → Instance → Seen → Router → Option Conn → List ℕ → List ℕ → Type 0
Flow all i home r conn up down = FlowOf all i home (talk r) r.held r.out conn up down

abbrev pub Live : List Instance → Instance → Option Seen → Router → Option Conn → List ℕ → List ℕ → Type 0
Live all i home r conn up down = (h : Seen) × (home ≡ Some h) × Flow all i h r conn up down

abbrev pub GoodLinkOf : List Instance → Instance → Option Seen → Link → Talk → List ℕ → List ℕ → Option Conn → List ℕ → List ℕ → Type 0
GoodLinkOf all i home Closed t held out conn up down = (held ≡ []) × (t.agreed ≡ false) × (t.session ≡ None) × (out ≡ [])
GoodLinkOf all i home (Ended end) t held out conn up down = out ≡ []
GoodLinkOf all i home _ t held out conn up down = (h : Seen) × (home ≡ Some h) × FlowOf all i h t held out conn up down

abbrev pub GoodLink : List Instance → Instance → Option Seen → Link → Router → Option Conn → List ℕ → List ℕ → Type 0
GoodLink all i home l r conn up down = GoodLinkOf all i home l (talk r) r.held r.out conn up down

pub record GoodRouter (all : List Instance) (i : Instance) (home : Option Seen) (conn : Option Conn) (up down : List ℕ) (r : Router) : Type 0 where
  pub table : TableAt all r.version r.table
  pub unmarked : r.mark ≡ false
  pub config : r.config ≡ default_config
  pub link : GoodLink all i home r.link r conn up down

pub record Good (keep : ℕ) (past : List Instance) (i : Instance) (s : Side) : Type 0 where
  pub seen : Option Seen
  pub router : GoodRouter (i ∷ past) i seen s.conn s.up s.down s.router
  pub is_seen : IsSeen keep s.home seen
  pub is_read : IsReadAt s.read_at seen
  pub order : Ordered past i s.places seen
