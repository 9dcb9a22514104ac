-- What a router does at a PDU, link by link (RFC 8210 sections 5 to 8 and 12).
use Rattle.std.specs.Prelude.{ℕ, Bool, true, false, not, ◌&&◌, ◌||◌, ◌==◌, nat_lt, List, [], ◌∷◌, Option, Some, None, if◌then◌else◌}
use Rattle.prefixes.specs.Payload.{Payload}
use Rattle.vrps.specs.Serial.{is_before}
use Rattle.vrps.specs.VrpSet.{VrpSet, empty, has, size}
use Rattle.rtr_pdu.specs.Code.{CORRUPT_DATA, NO_DATA_AVAILABLE, UNKNOWN_WITHDRAWAL, DUPLICATE_ANNOUNCEMENT}
use Rattle.rtr_pdu.specs.declared.unit.Unit.{Unit}
use Rattle.rtr_pdu.specs.declared.unit.Unit.TheVariants.{SerialNotify, CacheResponse, Prefix, EndOfData, EndOfData0, CacheReset, RouterKey, ErrorReport}
use Rattle.rtr_ends.specs.declared.link.End.TheVariants as ends
use Rattle.rtr_pdu.specs.declared.version.Version.{Version}
use Rattle.rtr_pdu.specs.declared.version.Version.TheVariants.{V1}
use Rattle.rtr_ends.specs.Answer.{report, sent}
use Rattle.rtr_ends.specs.Transcript.{Question, AskReset, AskSerial, query, Begun, Committed, choose, is_among, led_to, base_of, of_version, session_of, differs, is_serial, is_wrong, bounded, sum_of, retry_of}
use Rattle.rtr_ends.specs.Configuration.{chosen, default_config, limit_of}
use Rattle.rtr_ends.specs.declared.configuration.RouterConfig.{RouterConfig}
use Rattle.rtr_ends.specs.RouterLink.{Link, Closed, Idle, Asked, Answering, Ended}

-- What a router holds. The configuration in force. Of what it committed: the table and the version, the table before the latest commit, and
-- the mark that the next query must be a Reset Query. Of time: when an idle link asks, and the greatest moment so far. `no_data`: whether
-- code 2, No Data Available, and no commit brought a link to idle last. The version of its next connection, and that of its connection, or of
-- the latest one. Of its connection: the link, whether a version is agreed on, and the session of the latest Cache Response. And what has
-- arrived of a PDU, and the pending bytes.
pub record Router : Type 0 where
  pub config : RouterConfig
  pub table : VrpSet
  pub before : VrpSet
  pub version : Option Committed
  pub mark : Bool
  pub due : Option ℕ
  pub no_data : Bool
  pub now : ℕ
  pub speaks : Version
  pub spoken : Version
  pub link : Link
  pub agreed : Bool
  pub session : Option ℕ
  pub held : List ℕ
  pub out : List ℕ

abbrev pub new_router : Router
new_router = record { config = default_config; table = empty; before = empty; version = None; mark = false; due = None; no_data = false; now = 0; speaks = V1; spoken = V1; link = Closed; agreed = false; session = None; held = []; out = [] }

abbrev pub asking : Question → Router → Router
asking question r = record r { link = Asked question; out = sent r.spoken (query question) }

abbrev pub ask : Router → Router
ask r = asking (choose (of_version r.spoken r.version) r.mark) r

-- Emptied: no table, no session, no mark
abbrev pub emptied : Router → Router
emptied r = record r { table = empty; before = empty; version = None; mark = false }

-- The link ends: with a report on a PDU, or by one that was read.
abbrev pub reports : ℕ → Unit → Router → Router
reports code u r = record r { link = Ended (ends.Reported code); out = sent r.spoken (report code (sent r.spoken u)) }

abbrev pub ended_by : ℕ → Router → Router
ended_by code r = record r { link = Ended (ends.Told code) }

-- with code 0, Corrupt Data, and emptied
abbrev pub fails : Unit → Router → Router
fails u r = reports 0 u (emptied r)

-- After agreement, a PDU of another session than the connection's
abbrev pub is_strange : Router → ℕ → Bool
is_strange r session = r.agreed && differs (session_of r.session (of_version r.spoken r.version)) session

-- A notify of a serial that is not known yet
abbrev pub is_news : Option Committed → ℕ → Bool
is_news None serial = true
is_news (Some version) serial = is_before version.serial serial

-- What a record does to an answer: it is staged, or acts wrongly with this code, or makes the table larger than it may be.
pub data Staged : Type 0 where
  Stays : (answer : Begun) → Staged
  Wrong : (code : ℕ) → Staged
  Over : Staged

-- Code 6, Withdrawal of Unknown Record: it is not in the base, or was withdrawn already. Code 7, Duplicate Announcement Received:
-- it is in the base, or was announced already.
abbrev pub stage : (most : ℕ) → VrpSet → Begun → Bool → Payload → Staged
stage most base a false v =
    if has base v && not (is_among v a.withdrawn) then Stays (record a { withdrawn = v ∷ a.withdrawn }) else Wrong UNKNOWN_WITHDRAWAL
stage most base a true v =
    if has base v || is_among v a.announced then Wrong DUPLICATE_ANNOUNCEMENT
    else if nat_lt most (size (led_to base a.withdrawn (v ∷ a.announced))) then Over
    else Stays (record a { announced = v ∷ a.announced })

abbrev pub staged : Unit → Staged → Router → Router
staged u (Stays a) r = record r { link = Answering a }
staged u (Wrong code) r = record (reports code u r) { mark = true }
staged u Over r = record r { link = Ended ends.TooMany }

abbrev pub commit : Begun → Committed → Router → Router
commit a version r = record r {
  table = led_to (base_of a.question r.table) a.withdrawn a.announced;
  before = r.table;
  version = Some version;
  mark = false;
  due = Some (sum_of version.moment version.intervals.refresh);
  no_data = false;
  link = Idle;
}

-- An Error Report to the question that is outstanding. Code 2, No Data Available, leaves the link idle. Code 0, Corrupt Data, to a Serial
-- Query empties. All codes but 2 end the link.
abbrev pub told_off : Question → ℕ → Router → Router
told_off question code r =
    if code == NO_DATA_AVAILABLE then record r { link = Idle; due = Some (sum_of r.now (retry_of r.config r.version)); no_data = true }
    else if code == CORRUPT_DATA && is_serial (Some question) then ended_by code (emptied r)
    else ended_by code r

-- A PDU is read on a link, with memory.
unfoldable pub on_unit : Link → Unit → Router → Router
on_unit Closed u r = r
on_unit (Ended end) u r = r
on_unit Idle (SerialNotify session serial) r =
    if is_strange r session then fails (SerialNotify session serial) r
    else if is_news (of_version r.spoken r.version) serial then ask r
    else r
on_unit Idle (ErrorReport e) r = if e.code == NO_DATA_AVAILABLE then r else ended_by e.code r
on_unit Idle u r = reports 0 u r
on_unit (Asked question) (SerialNotify session serial) r = if is_strange r session then fails (SerialNotify session serial) r else r
on_unit (Asked question) (CacheResponse session) r =
    if is_wrong (Some question) (of_version r.spoken r.version) session then fails (CacheResponse session) r
    else record r { agreed = true; session = Some session; link = Answering (record { question = question; session = session; withdrawn = []; announced = [] }) }
on_unit (Asked (AskSerial session serial)) CacheReset r = asking AskReset (record r { agreed = true })
on_unit (Asked question) (ErrorReport e) r = told_off question e.code (record r { agreed = true })
on_unit (Asked question) u r = reports 0 u r
on_unit (Answering a) (SerialNotify session serial) r = if is_strange r session then fails (SerialNotify session serial) r else r
on_unit (Answering a) (Prefix announce v) r = staged (Prefix announce v) (stage (limit_of r.config) (base_of a.question r.table) a announce v) r
on_unit (Answering a) (RouterKey key) r = r
on_unit (Answering a) (EndOfData session serial refresh retry expire) r =
    if session == a.session
    then commit a (record { version = r.spoken; session = session; serial = serial; moment = r.now; intervals = chosen r.config (bounded refresh retry expire) }) r
    else fails (EndOfData session serial refresh retry expire) r
on_unit (Answering a) (EndOfData0 session serial) r =
    if session == a.session
    then commit a (record { version = r.spoken; session = session; serial = serial; moment = r.now; intervals = r.config.intervals }) r
    else fails (EndOfData0 session serial) r
on_unit (Answering a) (ErrorReport e) r = told_off a.question e.code r
on_unit (Answering a) u r = reports 0 u r

-- The PDUs at which memory is allocated: those that stage a record, or commit
abbrev pub is_staged : Staged → Bool
is_staged (Stays a) = true
is_staged other = false

abbrev pub may_lack : Link → Unit → Router → Bool
may_lack (Answering a) (Prefix announce v) r = is_staged (stage (limit_of r.config) (base_of a.question r.table) a announce v)
may_lack (Answering a) (EndOfData session serial refresh retry expire) r = session == a.session
may_lack (Answering a) (EndOfData0 session serial) r = session == a.session
may_lack link u r = false
