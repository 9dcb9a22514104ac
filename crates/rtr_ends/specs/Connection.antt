-- A connection at the cache: what may happen on it, and what is sent (RFC 8210 sections 5, 7, 8 and 12).
use Rattle.std.specs.Prelude.{◌≡◌, ◌⊎◌, ℕ, ◌≤◌, Bool, true, false, not, ◌&&◌, ◌==◌, List, [], ◌∷◌, ◌++◌, length, take, drop, map, Option, Some, None, IsTrue, MatchBool, if◌then◌else◌, ⊤}
use Rattle.std.specs.List.{flat_map}
use Rattle.vrps.specs.Instance.{Instance, IsInstance, NumberedSet, versions}
use Rattle.vrps.specs.VrpSet.{VrpSet}
use Rattle.rtr_pdu.specs.declared.version.Version.{Version}
use Rattle.rtr_pdu.specs.declared.version.Version.TheVariants.{V1}
use Rattle.rtr_pdu.specs.declared.kind.Kind.TheVariants as kinds
use Rattle.rtr_pdu.specs.Code.{CORRUPT_DATA, INTERNAL_ERROR, UNSUPPORTED_VERSION, UNSUPPORTED_TYPE, UNEXPECTED_VERSION}
use Rattle.rtr_pdu.specs.Version.{first_version, header_version, version_in}
use Rattle.rtr_pdu.specs.Stream.{IsPartial, IsShortest, Shows, Splits, is_kind}
use Rattle.rtr_pdu.specs.Unit.{Reads}
use Rattle.rtr_pdu.specs.declared.unit.Unit.{Unit}
use Rattle.rtr_pdu.specs.declared.unit.Unit.TheVariants.{SerialNotify, SerialQuery}
use Rattle.rtr_pdu.specs.declared.unit.UnitFault.{UnitFault}
use Rattle.rtr_pdu.specs.declared.unit.UnitFault.TheVariants as faults
use Rattle.rtr_ends.specs.Answer.{Reply, and_on, and_end, answer, report, sent, sent_all, session_in}
use Rattle.rtr_ends.specs.Timing.{Intervals}

-- What happens, with the cache at that moment. Bytes were read as a PDU of a version, or they were and memory for its answer ran out. Bytes
-- show a fault while PDUs of a version are expected. The router is notified in a version, when these bytes of a PDU had come. This many of
-- the bytes due were pulled.
pub data ConnMoment : Type 0 where
  Read : (version : Version) → (cache : Instance) → (unit : Unit) → (bytes : List ℕ) → ConnMoment
  Wanting : (version : Version) → (cache : Instance) → (unit : Unit) → (bytes : List ℕ) → ConnMoment
  Fault : (version : Version) → (fault : UnitFault) → (bytes : List ℕ) → ConnMoment
  Notify : (version : Version) → (cache : Instance) → (held : List ℕ) → ConnMoment
  Pull : (count : ℕ) → ConnMoment

-- memory ran out at it
abbrev pub is_wanting : ConnMoment → Bool
is_wanting (Wanting version cache unit bytes) = true
is_wanting m = false

-- The bytes that came by it
abbrev pub bytes_of : ConnMoment → List ℕ
bytes_of (Read version cache unit bytes) = bytes
bytes_of (Wanting version cache unit bytes) = bytes
bytes_of (Fault version fault bytes) = bytes
bytes_of (Notify version cache held) = []
bytes_of (Pull count) = []

-- the version in which is sent at it
abbrev pub sent_by : ConnMoment → Version
sent_by (Read version cache unit bytes) = version
sent_by (Wanting version cache unit bytes) = version
sent_by (Fault version fault bytes) = version
sent_by (Notify version cache held) = version
sent_by (Pull count) = V1

-- The version on which a connection of this version agreed, if any
abbrev pub agreed_version : Bool → Version → Option Version
agreed_version true version = Some version
agreed_version false version = None

-- The code if bytes show another version than the one agreed on (RFC 8210 section 12). Version 0 has no code 8, Unexpected Protocol Version
-- (RFC 6810 section 10). There is none either before a version is agreed on (RFC 8210 section 7).
abbrev pub version_code : Option Version → ℕ
version_code (Some V1) = UNEXPECTED_VERSION
version_code agreed = UNSUPPORTED_VERSION

-- The code of a fault (RFC 8210 section 12): the version; the type; corrupt data
abbrev pub fault_code : Option Version → UnitFault → ℕ
fault_code agreed faults.Version = version_code agreed
fault_code agreed faults.«Type» = UNSUPPORTED_TYPE
fault_code agreed fault = CORRUPT_DATA

-- The report on a fault copies the bytes as they came. There is none on a PDU of type 10, nor if the input ends in a PDU.
abbrev pub fault_report : Option Version → UnitFault → List ℕ → List Unit
fault_report agreed faults.Truncated bytes = []
fault_report agreed fault bytes = if is_kind kinds.ErrorReport bytes then [] else report (fault_code agreed fault) bytes ∷ []

-- A Serial Notify of the current version, if there is one (RFC 8210 section 5.2)
abbrev pub notice : ℕ → List NumberedSet → List Unit
notice session [] = []
notice session (now ∷ older) = SerialNotify session now.serial ∷ []

-- What the cache sends at a moment. The version is the one agreed on, if any. Out of memory is an Internal Error, and ends the connection.
abbrev pub reply : ℕ → Intervals → Option Version → ConnMoment → Reply
reply keep t agreed (Read version cache unit bytes) = answer version cache keep t unit
reply keep t agreed (Wanting version cache unit bytes) = and_end (report INTERNAL_ERROR [] ∷ [])
reply keep t agreed (Fault version fault bytes) = and_end (fault_report agreed fault bytes)
reply keep t agreed (Notify version cache held) = and_on (notice (session_in version cache) (versions cache))
reply keep t agreed (Pull count) = and_on []

-- The first header fixes the version of a connection (RFC 8210 section 7).
abbrev pub version_after : Option Version → ConnMoment → Option Version
version_after agreed (Read version cache unit bytes) = Some version
version_after agreed (Wanting version cache unit bytes) = Some version
version_after agreed (Fault version fault bytes) = Some version
version_after agreed m = agreed

-- A PDU, and the version in which it is sent
pub record Sent : Type 0 where
  pub version : Version
  pub unit : Unit

abbrev pub in_version : Version → List Unit → List Sent
in_version version units = map (λ u. record { version = version; unit = u }) units

-- The bytes of PDUs, one after the other, each in its version
abbrev pub bytes_sent : List Sent → List ℕ
bytes_sent units = flat_map (λ s. sent s.version s.unit) units

-- What is sent on a connection: the replies in order, to the first that ends it
abbrev pub replies_from : ℕ → Intervals → Option Version → List ConnMoment → List Sent
replies_from keep t agreed [] = []
replies_from keep t agreed (m ∷ later) =
    let now = reply keep t agreed m in
    in_version (sent_by m) now.units ++ (if now.goes_on then replies_from keep t (version_after agreed m) later else [])

abbrev pub replies : ℕ → Intervals → List ConnMoment → List ℕ
replies keep t moments = bytes_sent (replies_from keep t None moments)

abbrev pub is_published : Instance → Bool
is_published i = not (length i.sets == 0)

-- The PDUs whose answers may allocate memory: Serial Queries that are answered from what is published, by comparing two sets. All else is
-- ready.
abbrev pub takes_memory : Version → Instance → Unit → Bool
takes_memory version i (SerialQuery session serial) = session == session_in version i && is_published i
takes_memory version i u = false

-- The version of a notify, or of another PDU that is sent without a query: that of a header that has come whole, otherwise version 1
abbrev pub spoken_in : Option Version → Version
spoken_in None = V1
spoken_in (Some version) = version

-- A connection between two moments: the cache at the last one, the version of its first header once a PDU came, and whether it has ended.
-- `due`: the bytes that were sent and not pulled yet. And whether what was sent last is a notify, and what had come then of a PDU.
pub record Connection : Type 0 where
  pub cache : Instance
  pub version : Option Version
  pub ended : Bool
  pub due : List ℕ
  pub notified : Bool
  pub seen : List ℕ

-- When the router was notified, what had arrived of a PDU is the beginning of one and the front of what comes. It is no less than had come
-- when the router was notified before.
pub record HadCome (c : Connection) (coming held : List ℕ) : Type 0 where
  pub begins : IsPartial (version_in c.version held) held
  pub more : List ℕ
  pub since : held ≡ c.seen ++ more
  pub rest : List ℕ
  pub front : coming ≡ held ++ rest

-- A moment is what it says of its bytes and of the cache, on this connection, if these bytes are coming. A notify is of the version of the
-- connection, or of that of a header that had come; before any header it is of version 1.
abbrev pub IsConnMoment : Connection → List ℕ → ConnMoment → Type 0
IsConnMoment c coming (Read version cache unit bytes) = (version ≡ version_in c.version bytes) × Reads version unit bytes
IsConnMoment c coming (Wanting version cache unit bytes) =
    (version ≡ version_in c.version bytes) × Reads version unit bytes × IsTrue (takes_memory version cache unit)
IsConnMoment c coming (Fault version fault bytes) =
    (version ≡ version_in c.version bytes) × Shows version bytes fault × IsShortest version false bytes
IsConnMoment c coming (Notify version cache held) =
    (version ≡ spoken_in (header_version c.version held)) × HadCome c coming held × IsTrue (is_published cache)
IsConnMoment c coming (Pull count) = ⊤

abbrev pub opened : Instance → Connection
opened i = record { cache = i; version = None; ended = false; due = []; notified = false; seen = [] }

abbrev pub is_notice : ConnMoment → Bool
is_notice (Notify version cache held) = true
is_notice m = false

-- what had arrived of a PDU at it, if it is a notify
abbrev pub seen_at : ConnMoment → List ℕ
seen_at (Notify version cache held) = held
seen_at m = []

abbrev pub cache_after : Instance → ConnMoment → Instance
cache_after i (Read version cache unit bytes) = cache
cache_after i (Wanting version cache unit bytes) = cache
cache_after i (Notify version cache held) = cache
cache_after i m = i

-- One cache is there, which publishes more and more.
pub record IsLater (earlier later : Instance) : Type 0 where
  pub session : earlier.session ≡ later.session
  pub session0 : earlier.session0 ≡ later.session0
  pub start : earlier.start ≡ later.start
  pub more : List VrpSet
  pub sets : later.sets ≡ more ++ earlier.sets

-- Bytes due can be pulled at any time. Anything else happens only if the connection continues and nothing is due.
abbrev pub MayCome : Connection → List ℕ → ConnMoment → Type 0
MayCome c coming (Pull count) = count ≤ length c.due
MayCome c coming m =
    (c.ended ≡ false) × (c.due ≡ []) × IsInstance (cache_after c.cache m) × IsLater c.cache (cache_after c.cache m) × IsConnMoment c coming m

abbrev pub conn_after : ℕ → Intervals → Connection → ConnMoment → Connection
conn_after keep t c (Pull count) = record c { due = drop count c.due }
conn_after keep t c m =
    let now = reply keep t c.version m in
    record {
      cache = cache_after c.cache m;
      version = version_after c.version m;
      ended = not now.goes_on;
      due = sent_all (sent_by m) now.units;
      notified = is_notice m;
      seen = seen_at m;
    }

-- What may be left of the bytes that came. That is nothing if the connection has ended or an answer is due, otherwise the beginning of a
-- PDU in which no fault shows. A notify may be due in the middle of a PDU.
abbrev pub MayHold : Connection → List ℕ → Type 0
MayHold c bytes =
    MatchBool c.ended (bytes ≡ []) (IsPartial (version_in c.version bytes) bytes × ((bytes ≡ []) ⊎ ((c.due ≡ []) ⊎ (c.notified ≡ true))))

-- These moments, in their order, are the history of a connection on which these bytes came. Each may come at its place, and the bytes are
-- those that came by them and what may be left.
abbrev pub IsHistory : ℕ → Intervals → Connection → List ConnMoment → List ℕ → Type 0
IsHistory keep t c [] bytes = MayHold c bytes
IsHistory keep t c (m ∷ later) bytes =
    MayCome c bytes m × ((rest : List ℕ) × (bytes ≡ bytes_of m ++ rest) × IsHistory keep t (conn_after keep t c m) later rest)

-- the bytes that were pulled
abbrev pub pulled : ℕ → Intervals → Connection → List ConnMoment → List ℕ
pulled keep t c [] = []
pulled keep t c (Pull count ∷ later) = take count c.due ++ pulled keep t (conn_after keep t c (Pull count)) later
pulled keep t c (m ∷ later) = pulled keep t (conn_after keep t c m) later

-- the connection after these moments
abbrev pub after_all : ℕ → Intervals → Connection → List ConnMoment → Connection
after_all keep t c [] = c
after_all keep t c (m ∷ later) = after_all keep t (conn_after keep t c m) later

-- What was pulled and what is due make up the replies.
abbrev pub PulledAreReplies : Type 0
PulledAreReplies =
    (keep : ℕ) (t : Intervals) (i : Instance) (moments : List ConnMoment) (bytes : List ℕ) → IsHistory keep t (opened i) moments bytes →
    pulled keep t (opened i) moments ++ (after_all keep t (opened i) moments).due ≡ replies keep t moments

-- the PDUs that were read
abbrev pub units_of : List ConnMoment → List Unit
units_of [] = []
units_of (Read version cache unit bytes ∷ later) = unit ∷ units_of later
units_of (Wanting version cache unit bytes ∷ later) = unit ∷ units_of later
units_of (m ∷ later) = units_of later

-- The PDUs of a history are those by which the stream of its bytes is split, in the version of the first header.
abbrev pub HistorySplits : Type 0
HistorySplits =
    (keep : ℕ) (t : Intervals) (i : Instance) (moments : List ConnMoment) (bytes : List ℕ) → IsHistory keep t (opened i) moments bytes →
    (rest : List ℕ) × (fault : Option UnitFault) × Splits (first_version bytes) false bytes (units_of moments) rest fault
