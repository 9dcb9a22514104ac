-- What a router was given, asked and read, and what it must hold after that (RFC 8210 sections 5, 6 and 8). All lists have the last first.
use Rattle.std.specs.Prelude.{◌≡◌, ◌↔◌, ℕ, ◌+◌, ◌-◌, Bool, true, false, not, ◌&&◌, ◌||◌, ◌==◌, nat_lt, List, [], ◌∷◌, Option, Some, None, is_some, option_map, if◌then◌else◌, ⊤}
use Rattle.std.specs.List.{list_any}
use Rattle.std.specs.Ordering.{eq_by_cmp}
use Rattle.prefixes.specs.Payload.{Payload, vrp_cmp}
use Rattle.vrps.specs.Change.{between}
use Rattle.vrps.specs.VrpSet.{VrpSet, empty, has, set_of, union, without}
use Rattle.vrps.specs.declared.change.Change.{Change}
use Rattle.rtr_pdu.specs.Code.{CORRUPT_DATA, NO_DATA_AVAILABLE}
use Rattle.rtr_pdu.specs.declared.version.Version.{Version}
use Rattle.rtr_pdu.specs.declared.version.Version.TheVariants.{V0, V1}
use Rattle.rtr_pdu.specs.declared.unit.Unit.{Unit}
use Rattle.rtr_pdu.specs.declared.unit.Unit.TheVariants.{SerialNotify, SerialQuery, ResetQuery, CacheResponse, Prefix, EndOfData, EndOfData0, CacheReset, RouterKey, ErrorReport}
use Rattle.rtr_pdu.specs.declared.unit.UnitFault.{UnitFault}
use Rattle.rtr_ends.specs.Commit.{Commits}
use Rattle.rtr_ends.specs.Configuration.{chosen, default_config}
use Rattle.rtr_ends.specs.Timing.{Intervals, intervals}
use Rattle.rtr_ends.specs.declared.configuration.RouterConfig.{RouterConfig}

-- A question: for all, or for what changed since a version (RFC 8210 sections 5.3 and 5.4)
pub data Question : Type 0 where
  AskReset : Question
  AskSerial : (session : ℕ) → (serial : ℕ) → Question

abbrev pub query : Question → Unit
query AskReset = ResetQuery
query (AskSerial session serial) = SerialQuery session serial

-- What happens at a router. A moment is given, a connection is made, of a version, or closed, or a question is put. A PDU is read, or it is
-- and memory for it runs out, or bytes show a fault. The world refuses an event because memory ran out. The router is a new one. A
-- configuration is set.
pub data Item : Type 0 where
  At : (now : ℕ) → Item
  Opened : (version : Version) → Item
  Asks : (question : Question) → Item
  Reads : (unit : Unit) → Item
  Lacks : (unit : Unit) → Item
  Breaks : (fault : UnitFault) → Item
  Refused : Item
  Shut : Item
  Restarts : Item
  Configured : (config : RouterConfig) → Item

-- the greatest moment given
abbrev pub later : ℕ → ℕ → ℕ
later a b = if nat_lt a b then b else a

abbrev pub moment : List Item → ℕ
moment [] = 0
moment (Restarts ∷ items) = 0
moment (At now ∷ items) = later (moment items) now
moment (item ∷ items) = moment items

-- a connection was made, and not closed since
abbrev pub is_connected : List Item → Bool
is_connected [] = false
is_connected (Opened version ∷ items) = true
is_connected (Shut ∷ items) = false
is_connected (Restarts ∷ items) = false
is_connected (item ∷ items) = is_connected items

-- the version of the latest connection, 1 if there was none
abbrev pub spoken : List Item → Version
spoken [] = V1
spoken (Restarts ∷ items) = V1
spoken (Opened version ∷ items) = version
spoken (item ∷ items) = spoken items

-- the configuration: the one that was set last for this router, the default if none was set
abbrev pub configured : List Item → RouterConfig
configured [] = default_config
configured (Restarts ∷ items) = default_config
configured (Configured config ∷ items) = config
configured (item ∷ items) = configured items

-- the question of which no answer has begun. Notifies, moments and configurations leave it.
abbrev pub waiting : List Item → Option Question
waiting [] = None
waiting (Asks question ∷ items) = Some question
waiting (Reads (SerialNotify session serial) ∷ items) = waiting items
waiting (At now ∷ items) = waiting items
waiting (Configured config ∷ items) = waiting items
waiting (item ∷ items) = None

-- an answer that has begun: its question, the session of its Cache Response, and its records
pub record Begun : Type 0 where
  pub question : Question
  pub session : ℕ
  pub withdrawn : List Payload
  pub announced : List Payload

abbrev pub begun : Option Question → ℕ → Option Begun
begun None session = None
begun (Some question) session = Some (record { question = question; session = session; withdrawn = []; announced = [] })

abbrev pub with_record : Bool → Payload → Option Begun → Option Begun
with_record announce v None = None
with_record false v (Some a) = Some (record a { withdrawn = v ∷ a.withdrawn })
with_record true v (Some a) = Some (record a { announced = v ∷ a.announced })

-- A Cache Response to the question that waits, then records, Router Keys and notifies alone (RFC 8210 section 8.1). Moments and
-- configurations leave it.
abbrev pub under_way : List Item → Option Begun
under_way [] = None
under_way (Reads (CacheResponse session) ∷ items) = begun (waiting items) session
under_way (Reads (Prefix announce v) ∷ items) = with_record announce v (under_way items)
under_way (Reads (SerialNotify session serial) ∷ items) = under_way items
under_way (Reads (RouterKey key) ∷ items) = under_way items
under_way (At now ∷ items) = under_way items
under_way (Configured config ∷ items) = under_way items
under_way (item ∷ items) = None

-- the question that is outstanding, answered in part or not at all
abbrev pub question_of : Option Begun → Option Question → Option Question
question_of (Some a) waits = Some a.question
question_of None waits = waits

abbrev pub outstanding : List Item → Option Question
outstanding items = question_of (under_way items) (waiting items)

-- A version is agreed on: a PDU other than a notify was read on this connection (RFC 8210 section 7).
abbrev pub has_agreed : List Item → Bool
has_agreed [] = false
has_agreed (Opened version ∷ items) = false
has_agreed (Restarts ∷ items) = false
has_agreed (Reads (SerialNotify session serial) ∷ items) = has_agreed items
has_agreed (Reads unit ∷ items) = true
has_agreed (Lacks unit ∷ items) = true
has_agreed (item ∷ items) = has_agreed items

-- the session of the latest Cache Response on this connection
abbrev pub responded : List Item → Option ℕ
responded [] = None
responded (Opened version ∷ items) = None
responded (Restarts ∷ items) = None
responded (Reads (CacheResponse session) ∷ items) = Some session
responded (item ∷ items) = responded items

-- whether a payload is in a list
abbrev pub is_among : Payload → List Payload → Bool
is_among v vs = list_any (eq_by_cmp vrp_cmp v) vs

-- Each record acts, and acts once: `Commits` as a test.
abbrev pub may_withdraw : VrpSet → List Payload → Bool
may_withdraw base [] = true
may_withdraw base (v ∷ vs) = (has base v && not (is_among v vs)) && may_withdraw base vs

abbrev pub may_announce : VrpSet → List Payload → Bool
may_announce base [] = true
may_announce base (v ∷ vs) = (not (has base v) && not (is_among v vs)) && may_announce base vs

abbrev pub acts_once : VrpSet → List Payload → List Payload → Bool
acts_once base withdrawn announced = may_withdraw base withdrawn && may_announce base announced

-- the set to which they lead
unfoldable pub led_to : VrpSet → List Payload → List Payload → VrpSet
led_to base withdrawn announced = union (without base (set_of withdrawn)) (set_of announced)

-- The test is exact: an answer leads to a set if and only if it passes, and then to that set.
abbrev pub ActsExactly : Type 0
ActsExactly =
    (base : VrpSet) (withdrawn announced : List Payload) →
    (acts_once base withdrawn announced ≡ true) ↔ Commits base withdrawn announced (led_to base withdrawn announced)

-- the version that was committed: the version of the protocol, its name, when that was, and its intervals
pub record Committed : Type 0 where
  pub version : Version
  pub session : ℕ
  pub serial : ℕ
  pub moment : ℕ
  pub intervals : Intervals

-- two versions of the protocol are the same
abbrev pub is_same : Version → Version → Bool
is_same V0 V0 = true
is_same V1 V1 = true
is_same one other = false

-- what was committed, if it is of this version of the protocol
abbrev pub of_version : Version → Option Committed → Option Committed
of_version spoken None = None
of_version spoken (Some version) = if is_same spoken version.version then Some version else None

-- what a router holds, and the table before the latest commit: the empty one if nothing is held
pub record Kept : Type 0 where
  pub version : Option Committed
  pub table : VrpSet
  pub before : VrpSet

abbrev pub nothing : Kept
nothing = record { version = None; table = empty; before = empty }

-- What the latest commit changed, if anything is committed: the change that leads from the table before it to the table
abbrev pub last_change : Kept → Option Change
last_change k = option_map (λ version. between k.before k.table) k.version

-- Intervals are brought to the nearest bound of their range (RFC 8210 section 6).
abbrev pub within : ℕ → ℕ → ℕ → ℕ
within low high n = if nat_lt n low then low else if nat_lt high n then high else n

abbrev pub bounded : ℕ → ℕ → ℕ → Intervals
bounded refresh retry expire = intervals (within 1 86400 refresh) (within 1 7200 retry) (within 600 172800 expire)

-- A Reset Query is answered on an empty table, a Serial Query on the one that is held (RFC 8210 sections 5.3 and 5.4).
abbrev pub base_of : Question → VrpSet → VrpSet
base_of AskReset table = empty
base_of (AskSerial session serial) table = table

-- The session of a connection: that of its latest Cache Response, otherwise the one committed in its version, otherwise none. None differs
-- from none.
abbrev pub session_of : Option ℕ → Option Committed → Option ℕ
session_of (Some session) version = Some session
session_of None (Some version) = Some version.session
session_of None None = None

abbrev pub differs : Option ℕ → ℕ → Bool
differs None session = false
differs (Some one) session = not (one == session)

-- a Serial Query is outstanding
abbrev pub is_serial : Option Question → Bool
is_serial (Some (AskSerial session serial)) = true
is_serial question = false

-- a response to a Serial Query has another session than the one committed in its version
abbrev pub is_wrong : Option Question → Option Committed → ℕ → Bool
is_wrong (Some (AskSerial old serial)) version session = differs (session_of None version) session
is_wrong question version session = false

-- an End of Data of this session completes an answer that commits
abbrev pub does_commit : Option Begun → ℕ → VrpSet → Bool
does_commit None session table = false
does_commit (Some a) session table = session == a.session && acts_once (base_of a.question table) a.withdrawn a.announced

abbrev pub emptied_if : Bool → Kept → Kept
emptied_if true k = nothing
emptied_if false k = k

-- At an End of Data: a commit, or nothing if the answer leads nowhere; a session other than the response's empties the table.
abbrev pub at_end_of_data : Option Begun → Committed → Kept → Kept
at_end_of_data None version k = k
at_end_of_data (Some a) version k =
    if version.session == a.session then
    (if acts_once (base_of a.question k.table) a.withdrawn a.announced
    then record { version = Some version; table = led_to (base_of a.question k.table) a.withdrawn a.announced; before = k.table }
    else k)
    else nothing

-- What a PDU that is read changes. That is an End of Data, or one of three that drop what is kept. The three are: a notify of another
-- session than the connection's after agreement, a Cache Response of another session to a Serial Query, and code 0, Corrupt Data, to one.
-- A commit has the intervals of the End of Data, but for those that the configuration keeps. In version 0 it has the configured ones, since
-- the End of Data has none (RFC 6810 section 5.8).
abbrev pub kept_unit : Unit → List Item → Kept → Kept
kept_unit (EndOfData session serial refresh retry expire) items k =
    at_end_of_data (under_way items) (record { version = spoken items; session = session; serial = serial; moment = moment items; intervals = chosen (configured items) (bounded refresh retry expire) }) k
kept_unit (EndOfData0 session serial) items k =
    at_end_of_data (under_way items) (record { version = spoken items; session = session; serial = serial; moment = moment items; intervals = (configured items).intervals }) k
kept_unit (SerialNotify session serial) items k = emptied_if (has_agreed items && differs (session_of (responded items) (of_version (spoken items) k.version)) session) k
kept_unit (CacheResponse session) items k = emptied_if (is_wrong (waiting items) (of_version (spoken items) k.version) session) k
kept_unit (ErrorReport r) items k = emptied_if (r.code == CORRUPT_DATA && is_serial (outstanding items)) k
kept_unit unit items k = k

-- more than expire has passed since the commit
abbrev pub is_over : Option Committed → ℕ → Bool
is_over None now = false
is_over (Some version) now = nat_lt version.intervals.expire (now - version.moment)

-- What a router keeps of its transcript
abbrev pub kept : List Item → Kept
kept [] = nothing
kept (Restarts ∷ items) = nothing
kept (At now ∷ items) = let k : Kept = kept items in emptied_if (is_over k.version (later (moment items) now)) k
kept (Reads unit ∷ items) = kept_unit unit items (kept items)
kept (item ∷ items) = kept items

-- The last item is a commit: an End of Data that completes an answer.
abbrev pub is_commit : List Item → Bool
is_commit (Reads (EndOfData session serial refresh retry expire) ∷ items) = does_commit (under_way items) session (kept items).table
is_commit (Reads (EndOfData0 session serial) ∷ items) = does_commit (under_way items) session (kept items).table
is_commit items = false

-- Moments are u64; sums stop at the greatest.
abbrev pub sum_of : ℕ → ℕ → ℕ
sum_of a b = if nat_lt 18446744073709551615 (a + b) then 18446744073709551615 else a + b

-- the retry interval; if nothing is committed, the configured one (RFC 8210 section 6)
abbrev pub retry_of : RouterConfig → Option Committed → ℕ
retry_of config None = config.intervals.retry
retry_of config (Some version) = version.intervals.retry

abbrev pub refreshed : Option Committed → Option ℕ
refreshed None = None
refreshed (Some version) = Some (sum_of version.moment version.intervals.refresh)

abbrev pub retried : List Item → Option ℕ
retried items = Some (sum_of (moment items) (retry_of (configured items) (kept items).version))

-- When an idle router asks again: refresh after a commit; retry after the end of a connection, and after code 2, No Data
-- Available, to a question
abbrev pub due : List Item → Option ℕ
due [] = None
due (Restarts ∷ items) = None
due (Opened version ∷ items) = if is_connected items then retried items else due items
due (Shut ∷ items) = if is_connected items then retried items else due items
due (Reads (EndOfData session serial refresh retry expire) ∷ items) =
    if does_commit (under_way items) session (kept items).table
    then refreshed (kept (Reads (EndOfData session serial refresh retry expire) ∷ items)).version
    else due items
due (Reads (EndOfData0 session serial) ∷ items) =
    if does_commit (under_way items) session (kept items).table then refreshed (kept (Reads (EndOfData0 session serial) ∷ items)).version else due items
due (Reads (ErrorReport r) ∷ items) = if r.code == NO_DATA_AVAILABLE && is_some (outstanding items) then retried items else due items
due (item ∷ items) = due items

-- A record that acts wrongly in the answer under way, with code 6 or 7 (RFC 8210 section 12)
abbrev pub acts_wrongly : Option Begun → VrpSet → Bool → Payload → Bool
acts_wrongly None table announce v = false
acts_wrongly (Some a) table false v = not (has (base_of a.question table) v && not (is_among v a.withdrawn))
acts_wrongly (Some a) table true v = has (base_of a.question table) v || is_among v a.announced

-- A record has acted wrongly since the last commit.
abbrev pub marked : List Item → Bool
marked [] = false
marked (Restarts ∷ items) = false
marked (Reads (Prefix announce v) ∷ items) = acts_wrongly (under_way items) (kept items).table announce v || marked items
marked (Reads (EndOfData session serial refresh retry expire) ∷ items) = not (does_commit (under_way items) session (kept items).table) && marked items
marked (Reads (EndOfData0 session serial) ∷ items) = not (does_commit (under_way items) session (kept items).table) && marked items
marked (item ∷ items) = marked items

-- A Serial Query if something is committed, in the version of the connection, and the mark is not set; otherwise a Reset Query
abbrev pub choose : Option Committed → Bool → Question
choose (Some version) false = AskSerial version.session version.serial
choose version mark = AskReset

-- The question that is put next: after a Cache Reset a Reset Query (RFC 8210 section 5.9)
abbrev pub next_question : List Item → Question
next_question (Reads CacheReset ∷ items) = AskReset
next_question items = choose (of_version (spoken items) (kept items).version) (marked items)

-- Each question is the one to be put.
abbrev pub AsksRightly : List Item → Type 0
AsksRightly [] = ⊤
AsksRightly (Asks question ∷ items) = (question ≡ next_question items) × AsksRightly items
AsksRightly (item ∷ items) = AsksRightly items
