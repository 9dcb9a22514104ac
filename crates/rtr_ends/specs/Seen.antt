-- What a router's fields say, as the machine has it.
use Rattle.std.specs.Prelude.{◌≡◌, ℕ, ◌≤◌, Bool, true, false, List, Option, Some, None, Result, Ok, Err, ⊤}
use Rattle.prefixes.specs.Payload.{Payload}
use Rattle.vrps.specs.VrpSet.{VrpSet, set_of, size}
use Rattle.vrps.specs.declared.set.SetFault.{SetFault}
use Rattle.vrps.specs.declared.set.SetFault.TheVariants.{TooMany, Memory}
use Rattle.rtr_pdu.specs.declared.unit.Unit.{Unit}
use Rattle.rtr_ends.specs.declared.link.End.{End}
use Rattle.rtr_ends.specs.declared.link.End.TheVariants as ends
use Rattle.rtr_ends.specs.LinkRules.{Router, on_unit, may_lack}
use Rattle.rtr_ends.specs.RouterLink.{Link, Closed, Idle, Asked, Answering, Ended}
use Rattle.rtr_ends.specs.Timing.{intervals}
use Rattle.rtr_ends.specs.Transcript as transcript
use Rattle.rtr_ends.specs.Transcript.{AskReset, AskSerial, Begun, Committed, acts_once, base_of, led_to}
use Rattle.rtr_ends.specs.declared.question.Question.{Question}
use Rattle.rtr_ends.specs.declared.question.Question.TheVariants as questions
use Rattle.rtr_ends.specs.declared.question.CommittedVersion.{CommittedVersion}
use Rattle.rtr_ends.specs.declared.staging.Staging.{Staging}
use Rattle.rtr_ends.specs.declared.machine.Machine.{Machine}
use Rattle.rtr_ends.specs.declared.machine.State.{State}
use Rattle.rtr_ends.specs.declared.machine.State.TheVariants as states

abbrev pub seen_question : Question → transcript.Question
seen_question questions.Reset = AskReset
seen_question (questions.Serial session serial) = AskSerial session serial

abbrev pub seen_version : CommittedVersion → Committed
seen_version v = record { version = v.version; session = v.session; serial = v.serial.0; moment = v.moment; intervals = intervals v.refresh v.retry v.expire }

abbrev pub seen_versions : Option CommittedVersion → Option Committed
seen_versions None = None
seen_versions (Some v) = Some (seen_version v)

-- an answer under way with these records, the last first
abbrev pub begun_with : Question → ℕ → List Payload → List Payload → Begun
begun_with question session withdrawn announced =
    record { question = seen_question question; session = session; withdrawn = withdrawn; announced = announced }

-- the link, if these records were staged
abbrev pub seen_link : State → List Payload → List Payload → Link
seen_link states.Closed withdrawn announced = Closed
seen_link states.Idle withdrawn announced = Idle
seen_link (states.Asked question) withdrawn announced = Asked (seen_question question)
seen_link (states.Answering question session) withdrawn announced = Answering (begun_with question session withdrawn announced)
seen_link (states.Ended end) withdrawn announced = Ended end

-- the router, if these were staged and these bytes have arrived of a PDU
abbrev pub seen : Machine → List Payload → List Payload → List ℕ → Router
seen m withdrawn announced held = record {
  config = m.config;
  table = m.table;
  before = m.before;
  version = seen_versions m.version;
  mark = m.mark;
  due = m.due;
  no_data = m.no_data;
  now = m.clock;
  speaks = m.speaks;
  spoken = m.spoken;
  link = seen_link m.state withdrawn announced;
  agreed = m.agreed;
  session = m.session;
  held = held;
  out = m.out;
}

-- What is staged over a base: these records, each acting once, with the number of records to which they lead
pub record IsStaged (base : VrpSet) (withdrawn announced : List Payload) (s : Staging) : Type 0 where
  pub withdrawn_are : s.withdrawn ≡ set_of withdrawn
  pub announced_are : s.announced ≡ set_of announced
  pub once : acts_once base withdrawn announced ≡ true
  pub count : s.count ≡ size (led_to base withdrawn announced)
  pub fits : s.count ≤ 16777215

-- Nothing is staged but in an answer.
abbrev pub Stages : State → VrpSet → List Payload → List Payload → Staging → Type 0
Stages (states.Answering question session) table withdrawn announced s = IsStaged (base_of (seen_question question) table) withdrawn announced s
Stages state table withdrawn announced s = ⊤

-- The machine is this router, if these bytes have arrived of a PDU.
pub record ShowsRouter (r : Router) (m : Machine) : Type 0 where
  pub withdrawn : List Payload
  pub announced : List Payload
  pub staged : Stages m.state m.table withdrawn announced m.staging
  pub is : r ≡ seen m withdrawn announced r.held

-- A call does to each router that is shown what the machine does.
abbrev pub Does : (Router → Router) → Machine → Machine → Type 0
Does step old new = (r : Router) → ShowsRouter r old → ShowsRouter (step r) new

-- What is staged may be gone, and all else is as before but for the link, which ends.
abbrev pub EndsLink : Machine → Machine → Type 0
EndsLink old new = (r : Router) (end : End) → ShowsRouter r old → ShowsRouter (record r { link = Ended end }) (record new { state = states.Ended end })

-- A PDU is read; or memory runs out if it may be; or the table would have too many records.
abbrev pub UnitIsRead : Result ⊤ SetFault → Unit → Machine → Machine → Type 0
UnitIsRead (Ok done) u old new = Does (λ r. on_unit r.link u r) old new
UnitIsRead (Err Memory) u old new = EndsLink old new × ((r : Router) → ShowsRouter r old → may_lack r.link u r ≡ true)
UnitIsRead (Err TooMany) u old new = EndsLink old new × ((r : Router) → ShowsRouter r old → on_unit r.link u r ≡ record r { link = Ended ends.TooMany })

-- A PDU is read, or memory for it runs out.
abbrev pub ReadsOrLacks : Bool → Unit → Machine → Machine → Type 0
ReadsOrLacks false u old new = Does (λ r. on_unit r.link u r) old new
ReadsOrLacks true u old new = ((r : Router) → ShowsRouter r old → may_lack r.link u r ≡ true) × Does (λ r. record r { link = Ended ends.Memory }) old new
