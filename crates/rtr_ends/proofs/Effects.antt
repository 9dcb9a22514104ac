-- What a step does to a router is one of few effects. A law of each effect is one of the step.
use Rattle.rtr_ends.proofs.Words.{◌≡◌, ℕ, Bool, true, false, not, ◌&&◌, ◌==◌, List, [], ◌∷◌, ◌++◌, Some, None, if◌then◌else◌, refl, sym, rules, and_parts, Whole, judge, Unit, SerialNotify, CacheResponse, Prefix, EndOfData, EndOfData0, CacheReset, RouterKey, ErrorReport, true_of_not}
use Rattle.rtr_ends.specs.declared.link.End.TheVariants as ends
use Rattle.rtr_ends.specs.LinkRules.{Router, Staged, Stays, Wrong, Over, asking, commit, emptied, ended_by, fails, is_news, is_strange, may_lack, on_unit, reports, stage, staged, told_off}
use Rattle.rtr_ends.specs.Cache.{finds_memory, is_none}
use Rattle.rtr_ends.specs.Configuration.{limit_of}
use Rattle.rtr_ends.specs.Router.{Noted, Receiving, clocked, close, lacks, reads, router_byte, router_stops, with_bytes}
use Rattle.rtr_ends.specs.RouterLink.{Link, Closed, Idle, Asked, Answering, Ended, is_closed, is_reading}
use Rattle.rtr_ends.specs.Transcript.{Question, AskReset, AskSerial, Begun, Committed, Item, base_of, choose, is_over, is_serial, is_wrong, later, of_version, retry_of, sum_of}

-- Either way a test goes
pub either : {A : Type 0} (P : A → Type 0) (b : Bool) (x y : A) → (b ≡ true → P x) → (b ≡ false → P y) → P (if b then x else y)
either P true x y first second = first refl
either P false x y first second = second refl

-- A link that reads is open.
pub reading_open_so : (l : Link) → is_reading l ≡ true → is_closed l ≡ false
reading_open_so Closed h = sym h
reading_open_so _ h = refl

-- The question that a PDU makes a router put
abbrev pub put_by : Unit → Router → Question
put_by CacheReset r = AskReset
put_by u r = choose (of_version r.spoken r.version) r.mark

-- The PDUs of an answer that stage or commit
abbrev pub acts : Link → Unit → Bool
acts (Answering a) (Prefix announce v) = true
acts (Answering a) (EndOfData session serial refresh retry expire) = true
acts (Answering a) (EndOfData0 session serial) = true
acts link u = false

-- A law of the effects that a PDU may have on a link. Agreement may come with some.
pub record UnitDoes (P : Router → Type 0) (link : Link) (u : Unit) (r : Router) : Type 0 where
  pub stays : P r
  pub asks : (agreed : Bool) → (r.agreed ≡ true → agreed ≡ true) → P (asking (put_by u r) (record r { agreed = agreed }))
  pub begins : (question : Question) (session : ℕ) → P (record r { agreed = true; session = Some session; link = Answering (record { question = question; session = session; withdrawn = []; announced = [] }) })
  pub reported : P (reports 0 u r)
  pub failed : P (fails u r)
  pub waits : (agreed : Bool) → (r.agreed ≡ true → agreed ≡ true) → P (record r { agreed = agreed; link = Idle; due = Some (sum_of r.now (retry_of r.config r.version)); no_data = true })
  pub told : (agreed : Bool) → (r.agreed ≡ true → agreed ≡ true) → (code : ℕ) → P (ended_by code (record r { agreed = agreed }))
  pub empties : (agreed : Bool) → (r.agreed ≡ true → agreed ≡ true) → (code : ℕ) → P (ended_by code (emptied (record r { agreed = agreed })))
  pub stages : acts link u ≡ true → (answer : Begun) → P (record r { link = Answering answer })
  pub wrong : acts link u ≡ true → (code : ℕ) → P (record (reports code u r) { mark = true })
  pub over : acts link u ≡ true → P (record r { link = Ended ends.TooMany })
  pub commits : acts link u ≡ true → (answer : Begun) (version : Committed) → P (commit answer version r)

module _ (P : Router → Type 0) (link : Link) (u : Unit) (r : Router) (d : UnitDoes P link u r) where
  by_told : (question : Question) (code : ℕ) (agreed : Bool) → (r.agreed ≡ true → agreed ≡ true) → P (told_off question code (record r { agreed = agreed }))
  by_told question code agreed h = either P (code == 2) _ _ (λ two. d.waits agreed h) (λ other. either P (code == 0 && is_serial (Some question)) _ _ (λ zero. d.empties agreed h code) (λ more. d.told agreed h code))

  by_notify : (session : ℕ) → P (if is_strange r session then fails u r else r)
  by_notify session = either P (is_strange r session) _ _ (λ strange. d.failed) (λ own. d.stays)

  by_staged : acts link u ≡ true → (s : Staged) → P (staged u s r)
  by_staged on (Stays answer) = d.stages on answer
  by_staged on (Wrong code) = d.wrong on code
  by_staged on Over = d.over on

  by_end : acts link u ≡ true → (same : Bool) (answer : Begun) (version : Committed) → P (if same then commit answer version r else fails u r)
  by_end on same answer version = either P same _ _ (λ own. d.commits on answer version) (λ other. d.failed)

-- What each effect does, a PDU does.
pub by_unit : (P : Router → Type 0) (link : Link) (u : Unit) (r : Router) → UnitDoes P link u r → P (on_unit link u r)
unfolding on_unit
by_unit P Closed u r d = d.stays
by_unit P (Ended end) u r d = d.stays
by_unit P Idle (SerialNotify session serial) r d =
    either P (is_strange r session) _ _ (λ strange. d.failed) (λ own. either P (is_news (of_version r.spoken r.version) serial) _ _ (λ news. d.asks r.agreed (λ h. h)) (λ old. d.stays))
by_unit P Idle (ErrorReport e) r d = either P (e.code == 2) _ _ (λ two. d.stays) (λ other. d.told r.agreed (λ h. h) e.code)
by_unit P Idle u r d = d.reported
by_unit P (Asked q) (SerialNotify session serial) r d = by_notify P (Asked q) (SerialNotify session serial) r d session
by_unit P (Asked q) (CacheResponse session) r d = either P (is_wrong (Some q) (of_version r.spoken r.version) session) _ _ (λ other. d.failed) (λ own. d.begins q session)
by_unit P (Asked (AskSerial session serial)) CacheReset r d = d.asks true (λ h. refl)
by_unit P (Asked AskReset) CacheReset r d = d.reported
by_unit P (Asked q) (ErrorReport e) r d = by_told P (Asked q) (ErrorReport e) r d q e.code true (λ h. refl)
by_unit P (Asked q) u r d = d.reported
by_unit P (Answering a) (SerialNotify session serial) r d = by_notify P (Answering a) (SerialNotify session serial) r d session
by_unit P (Answering a) (Prefix announce v) r d = by_staged P (Answering a) (Prefix announce v) r d refl (stage (limit_of r.config) (base_of a.question r.table) a announce v)
by_unit P (Answering a) (RouterKey key) r d = d.stays
by_unit P (Answering a) (EndOfData session serial refresh retry expire) r d = by_end P (Answering a) (EndOfData session serial refresh retry expire) r d refl (session == a.session) a _
by_unit P (Answering a) (EndOfData0 session serial) r d = by_end P (Answering a) (EndOfData0 session serial) r d refl (session == a.session) a _
by_unit P (Answering a) (ErrorReport e) r d = by_told P (Answering a) (ErrorReport e) r d a.question e.code r.agreed (λ h. h)
by_unit P (Answering a) u r d = d.reported

-- A PDU leaves what is held, the versions, the configuration, an agreement, and a connection.
pub record Keeps (r n : Router) : Type 0 where
  pub held : n.held ≡ r.held
  pub agreed : r.agreed ≡ true → n.agreed ≡ true
  pub spoken : n.spoken ≡ r.spoken
  pub speaks : n.speaks ≡ r.speaks
  pub config : n.config ≡ r.config
  pub connected : is_closed r.link ≡ false → is_closed n.link ≡ false

pub unit_keeps : (link : Link) (u : Unit) (r : Router) → Keeps r (on_unit link u r)
unit_keeps link u r = by_unit (Keeps r) link u r (record {
  stays = record { held = refl; agreed = λ h. h; spoken = refl; speaks = refl; config = refl; connected = λ h. h };
  asks = λ agreed h. record { held = refl; agreed = h; spoken = refl; speaks = refl; config = refl; connected = λ open_so. refl };
  begins = λ q session. record { held = refl; agreed = λ h. refl; spoken = refl; speaks = refl; config = refl; connected = λ h. refl };
  reported = record { held = refl; agreed = λ h. h; spoken = refl; speaks = refl; config = refl; connected = λ h. refl };
  failed = record { held = refl; agreed = λ h. h; spoken = refl; speaks = refl; config = refl; connected = λ h. refl };
  waits = λ agreed h. record { held = refl; agreed = h; spoken = refl; speaks = refl; config = refl; connected = λ open_so. refl };
  told = λ agreed h code. record { held = refl; agreed = h; spoken = refl; speaks = refl; config = refl; connected = λ open_so. refl };
  empties = λ agreed h code. record { held = refl; agreed = h; spoken = refl; speaks = refl; config = refl; connected = λ open_so. refl };
  stages = λ on a. record { held = refl; agreed = λ h. h; spoken = refl; speaks = refl; config = refl; connected = λ h. refl };
  wrong = λ on code. record { held = refl; agreed = λ h. h; spoken = refl; speaks = refl; config = refl; connected = λ h. refl };
  over = λ on. record { held = refl; agreed = λ h. h; spoken = refl; speaks = refl; config = refl; connected = λ h. refl };
  commits = λ on a version. record { held = refl; agreed = λ h. h; spoken = refl; speaks = refl; config = refl; connected = λ h. refl };
})

-- A link that continues if what is held expires: one that waits for no changes
abbrev pub goes_on : Link → Bool
goes_on (Asked (AskSerial session serial)) = false
goes_on (Answering a) = not (is_serial (Some a.question))
goes_on link = true

-- The clock: nothing; what has expired is emptied; a link that waits for changes ends.
pub by_clock : (P : Router → Type 0) (now : ℕ) (r : Router) → (is_over r.version (later r.now now) ≡ false → P (record r { now = later r.now now }))
    → (is_over r.version (later r.now now) ≡ true → goes_on r.link ≡ true → P (record (emptied r) { now = later r.now now }))
    → (is_over r.version (later r.now now) ≡ true → is_reading r.link ≡ true → is_closed r.link ≡ false → P (record (emptied r) { now = later r.now now; link = Ended ends.Expired; out = [] })) → P (clocked now r)
unfolding clocked
by_clock P now r same gone ended = search rules

-- It leaves what is held, agreement, the versions and the configuration, opens and closes nothing, and puts nothing out.
pub record Clocks (r n : Router) : Type 0 where
  pub held : n.held ≡ r.held
  pub agreed : n.agreed ≡ r.agreed
  pub spoken : n.spoken ≡ r.spoken
  pub speaks : n.speaks ≡ r.speaks
  pub config : n.config ≡ r.config
  pub out : r.out ≡ [] → n.out ≡ []
  pub reads_on : is_reading n.link ≡ true → is_reading r.link ≡ true
  pub closed_on : is_closed n.link ≡ is_closed r.link

pub clocked_keeps : (now : ℕ) (r : Router) → Clocks r (clocked now r)
clocked_keeps now r = by_clock (Clocks r) now r
    (λ holds. record { held = refl; agreed = refl; spoken = refl; speaks = refl; config = refl; out = λ none. none; reads_on = λ h. h; closed_on = refl })
    (λ over on. record { held = refl; agreed = refl; spoken = refl; speaks = refl; config = refl; out = λ none. none; reads_on = λ h. h; closed_on = refl })
    (λ over live open_so. record { held = refl; agreed = refl; spoken = refl; speaks = refl; config = refl; out = λ none. refl; reads_on = λ h. live; closed_on = sym open_so })

-- A close: nothing on a closed link.
pub by_close : (P : Router → Type 0) (r : Router) → (is_closed r.link ≡ true → P r)
    → (is_closed r.link ≡ false → P (record r { link = Closed; agreed = false; session = None; held = []; out = []; due = Some (sum_of r.now (retry_of r.config r.version)) })) → P (close r)
by_close P r stays shuts = either P (is_closed r.link) _ _ stays shuts

-- A PDU that has come whole: memory runs out at it, or it is read.
pub by_whole : (P : Noted → Type 0) (memory : Bool) (bytes : List ℕ) (r : Router) (u : Unit) → P (lacks u (record r { held = [] })) → P (reads u (record r { held = [] })) → P (with_bytes memory bytes r (Whole u))
by_whole P memory bytes r u wanting read = either P (may_lack r.link u r && not memory) (lacks u (record r { held = [] })) (reads u (record r { held = [] })) (λ lacking. wanting) (λ there. read)

-- A byte is judged with those that are held; what it adds is before the transcript.
pub by_byte : (P : Router → List Item → Type 0) (items : List Item) (m : Receiving) (b : ℕ)
    → (let n : Noted = with_bytes (finds_memory m.wanting) (m.router.held ++ b ∷ []) m.router (judge m.router.spoken (not m.router.agreed) (m.router.held ++ b ∷ [])) in P n.router (n.items ++ (m.items ++ items)))
    → P (router_byte m b).router ((router_byte m b).items ++ items)
unfolding router_byte
by_byte P items m b h = search rules

-- A router that does not stop reads, and has nothing to be pulled.
pub nothing_out : (out : List ℕ) → is_none out ≡ true → out ≡ []
nothing_out [] h = refl
nothing_out (b ∷ out) h = absurd (let e : false ≡ true = h in cc)

pub goes_so : (r : Router) → router_stops r ≡ false → (is_reading r.link ≡ true) × (r.out ≡ [])
goes_so r h = let parts = and_parts (is_reading r.link) (is_none r.out) (true_of_not (is_reading r.link && is_none r.out) h) in (parts.0, nothing_out r.out parts.1)
