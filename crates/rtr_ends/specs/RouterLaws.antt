-- What a router consumes of a piece, holds, asks and speaks, whatever it is given and reads.
use Rattle.std.specs.Prelude.{◌≡◌, ◌⊎◌, ℕ, Bool, true, false, not, List, [], ◌∷◌, ◌++◌, take, Option, Some, None}
use Rattle.vrps.specs.VrpSet.{VrpSet}
use Rattle.rtr_pdu.specs.declared.version.Version.{Version}
use Rattle.rtr_pdu.specs.declared.version.Version.TheVariants.{V1}
use Rattle.rtr_pdu.specs.Judging.{Begins, judge}
use Rattle.rtr_ends.specs.declared.link.End.TheVariants as ends
use Rattle.rtr_ends.specs.Answer.{report, sent}
use Rattle.rtr_ends.specs.Feeding.{IsTaken}
use Rattle.rtr_ends.specs.Transcript.{Item, At, Opened, Asks, choose, query, spoken, of_version, base_of, kept, due, moment, is_connected, configured, waiting, under_way, has_agreed, responded, acts_once, marked, AsksRightly}
use Rattle.rtr_ends.specs.LinkRules.{Router}
use Rattle.rtr_ends.specs.Router.{router_stops, Receiving, router_byte, clocked, receives, RouterCall, Connects, Pulls, Speaks, played}
use Rattle.rtr_ends.specs.RouterLink.{Link, Closed, Idle, Asked, Answering, Ended}

-- What a router consumes of a piece, whatever it is
abbrev pub RouterTakes : Type 0
RouterTakes =
    (now : ℕ) (wanting : Option ℕ) (piece : List ℕ) (r : Router) →
    (taken : List ℕ)
    × IsTaken (λ m. router_stops m.router) router_byte (record { router = clocked now r; items = At now ∷ []; wanting = wanting }) piece taken (receives now wanting piece r)

-- It stops only at the end of a PDU, or if a fault shows.
abbrev pub RouterStops : Type 0
RouterStops =
    (m : Receiving) (b : ℕ) → judge m.router.spoken (not m.router.agreed) (m.router.held ++ b ∷ []) ≡ Begins →
    router_stops (router_byte m b).router ≡ router_stops m.router

-- What the transcript says of a link with this agreement and session of its connection, over this table. A closed link has no connection. A
-- link that has ended has one, and nothing else is said of it. An idle link has no question outstanding. A link that has asked has that
-- question waiting. An answer has come as far as is staged, each record of it acting once.
abbrev pub LinkTells : Link → Bool → Option ℕ → VrpSet → List Item → Type 0
LinkTells Closed agreed session table items = (is_connected items ≡ false) × (agreed ≡ false) × (session ≡ None)
LinkTells (Ended end) agreed session table items = is_connected items ≡ true
LinkTells Idle agreed session table items =
    (is_connected items ≡ true) × (waiting items ≡ None) × (under_way items ≡ None) × (has_agreed items ≡ agreed) × (responded items ≡ session) × (agreed ≡ true)
LinkTells (Asked question) agreed session table items =
    (is_connected items ≡ true) × (waiting items ≡ Some question) × (under_way items ≡ None) × (has_agreed items ≡ agreed) × (responded items ≡ session)
LinkTells (Answering a) agreed session table items =
    (is_connected items ≡ true) × (waiting items ≡ None) × (under_way items ≡ Some a) × (has_agreed items ≡ agreed) × (responded items ≡ session) × (agreed ≡ true)
    × (acts_once (base_of a.question table) a.withdrawn a.announced ≡ true)

-- What a router holds, when it asks, the greatest moment it was given, the version of its latest connection and its configuration are those
-- of its transcript. Its link is as the transcript says.
pub record IsKept (r : Router) (items : List Item) : Type 0 where
  pub table : r.table ≡ (kept items).table
  pub before : r.before ≡ (kept items).before
  pub version : r.version ≡ (kept items).version
  pub due : r.due ≡ due items
  pub now : r.now ≡ moment items
  pub spoken : r.spoken ≡ spoken items
  pub config : r.config ≡ configured items
  pub link : LinkTells r.link r.agreed r.session r.table items

abbrev pub RouterKeeps : Type 0
RouterKeeps = (calls : List RouterCall) → IsKept (played calls).router (played calls).items

-- A router's questions are those that its transcript calls for, and so is the one that it would choose now.
pub record IsAsking (r : Router) (items : List Item) : Type 0 where
  pub next : choose (of_version r.spoken r.version) r.mark ≡ choose (of_version (spoken items) (kept items).version) (marked items)
  pub asked : AsksRightly items

abbrev pub RouterAsks : Type 0
RouterAsks = (calls : List RouterCall) → IsAsking (played calls).router (played calls).items

-- the version that was set last for a router, 1 if none was set. The calls are in order, the last first.
abbrev pub told_version : List RouterCall → Version
told_version [] = V1
told_version (Speaks version ∷ calls) = version
told_version (call ∷ calls) = told_version calls

-- the version that was set when the latest connection was made, 1 if there was none
abbrev pub connected_version : List RouterCall → Version
connected_version [] = V1
connected_version (Connects now ∷ calls) = told_version calls
connected_version (call ∷ calls) = connected_version calls

-- It speaks what was set, from the next connection on.
abbrev pub RouterSpeaks : Type 0
RouterSpeaks =
    (calls : List RouterCall) → ((played calls).router.speaks ≡ told_version calls) × (spoken (played calls).items ≡ connected_version calls)

-- the bytes of the questions of the latest connection, which is of this version, in their order. The items are in order, the last first.
abbrev pub questions_in : Version → List Item → List ℕ
questions_in version [] = []
questions_in version (Opened opened ∷ items) = []
questions_in version (Asks question ∷ items) = questions_in version items ++ sent version (query question)
questions_in version (item ∷ items) = questions_in version items

-- the bytes that were pulled since the latest connection was made. The calls are in order, the last first.
abbrev pub pulled_by : List RouterCall → List ℕ
pulled_by [] = []
pulled_by (Connects now ∷ calls) = []
pulled_by (Pulls most ∷ calls) = pulled_by calls ++ take most (played calls).router.out
pulled_by (call ∷ calls) = pulled_by calls

-- These bytes are an Error Report of this code.
abbrev pub IsReport : Version → ℕ → List ℕ → Type 0
IsReport version code bytes = (copy : List ℕ) × (bytes ≡ sent version (report code copy))

-- What is said behind the questions: the report by which the link ended, and nothing on a link that ended otherwise or is open. Before
-- it was closed a link may have ended either way.
abbrev pub SaysLast : Link → Version → List ℕ → Type 0
SaysLast (Ended (ends.Reported code)) version bytes = IsReport version code bytes
SaysLast Closed version bytes = (bytes ≡ []) ⊎ ((code : ℕ) × IsReport version code bytes)
SaysLast link version bytes = bytes ≡ []

-- What was not pulled is dropped if the link is closed, and if a Serial Query expires.
abbrev pub is_cut : Link → Bool
is_cut Closed = true
is_cut (Ended ends.Expired) = true
is_cut link = false

-- Consider the bytes that a router gave on its latest connection, those to be pulled, and those dropped if it was cut. They are its
-- questions and then its report, if there is one.
pub record HasSaid (r : Router) (items : List Item) (given : List ℕ) : Type 0 where
  pub report : List ℕ
  pub reported : SaysLast r.link r.spoken report
  pub dropped : List ℕ
  pub said : given ++ (r.out ++ dropped) ≡ questions_in r.spoken items ++ report
  pub whole : is_cut r.link ≡ false → dropped ≡ []

abbrev pub RouterSays : Type 0
RouterSays = (calls : List RouterCall) → HasSaid (played calls).router (played calls).items (pulled_by calls)
