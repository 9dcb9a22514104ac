-- What a machine does at a PDU, cell by cell of the protocol's table.
use Rattle.rtr_ends.proofs.Words.{⊤, ◌≡◌, ◌==◌, ◌+◌, ◌<◌, ◌≤◌, nat_lt, min, max, ℕ, Bool, true, false, List, [], Some, None, Result, Ok, Err, if◌then◌else◌, refl, sym, ap, ◌∙◌, subst, arith, nat_tests, Payload, VrpSet, empty, has, SetFault, TooMany, Memory, Key, Report, Unit, SerialNotify, SerialQuery, ResetQuery, CacheResponse, Prefix, EndOfData, EndOfData0, CacheReset, RouterKey, ErrorReport, eq_of, eq_self, false_if_never}
use Rattle.rtr_ends.specs.declared.link.End.{End}
use Rattle.rtr_ends.specs.declared.link.End.TheVariants as ends
use Rattle.rtr_ends.specs.Answer.{report, sent}
use Rattle.rtr_ends.specs.LinkRules as rules
use Rattle.rtr_ends.specs.LinkRules.{Router, ask, asking, commit, fails, is_news, is_staged, is_strange, may_lack, on_unit, reports, stage, staged, ended_by, told_off}
use Rattle.rtr_ends.specs.Router.{asks, asks_if, clocked, close, closed_at, connects_at, expired, judged_by_clock, ticks_at}
use Rattle.rtr_ends.specs.RouterLink.{Link, Closed, Idle, Asked, Answering, Ended, is_due, is_idle}
use Rattle.rtr_ends.specs.Configuration.{chosen, limit_of, own_if}
use Rattle.rtr_ends.specs.Timing.{InRange, Intervals, intervals}
use Rattle.rtr_ends.specs.declared.configuration.RouterConfig.{RouterConfig}
use Rattle.rtr_ends.specs.Transcript.{Question, AskReset, AskSerial, Begun, Committed, base_of, bounded, is_over, is_wrong, later, of_version, query, sum_of, within}
use Rattle.rtr_ends.specs.Seen.{Does, EndsLink, IsStaged, UnitIsRead, ShowsRouter, Stages, begun_with, seen, seen_link, seen_question, seen_version, seen_versions}
use Rattle.rtr_ends.specs.Staging.{StagesRecord, GoesTo, LeadsToSet}
use Rattle.rtr_ends.specs.declared.staging.Staging.{Staging}
use Rattle.rtr_ends.specs.declared.staging.Staged.{Staged}
use Rattle.rtr_ends.specs.declared.staging.Staged.TheVariants as code
use Rattle.rtr_ends.specs.declared.question.Question as Question
use Rattle.rtr_ends.specs.declared.question.Question.TheVariants as questions
use Rattle.rtr_ends.specs.declared.question.CommittedVersion.{CommittedVersion}
use Rattle.rtr_ends.specs.declared.machine.Machine.{Machine}
use Rattle.rtr_ends.specs.declared.machine.State.{State}
use Rattle.rtr_ends.specs.declared.machine.State.TheVariants as states
use Rattle.rtr_ends.proofs.SeenLaws.{does_from, shown, shown_as, unit_does}
use Rattle.rtr_ends.proofs.TableLaws.{false_true}

-- What a step does in one state, whatever was staged
abbrev Steps : State → Unit → (Router → Router) → Machine → Type 0
Steps s u step old = (withdrawn announced : List Payload) (held : List ℕ) → on_unit (seen_link s withdrawn announced) u (seen old withdrawn announced held) ≡ step (seen old withdrawn announced held)

-- The link ends with a report. What is held is that of this machine.
ends_so_with : (u : Unit) (s : State) (old base new : Machine) → old.state ≡ s
    → ((withdrawn announced : List Payload) (held : List ℕ) → on_unit (seen_link s withdrawn announced) u (seen old withdrawn announced held) ≡ reports 0 u (seen base withdrawn announced held))
    → new ≡ record base { state = states.Ended (ends.Reported 0); out = sent base.spoken (report 0 (sent base.spoken u)) } → Does (λ r. on_unit r.link u r) old new
ends_so_with u s old base new is steps e =
    unit_does u s old new is (λ withdrawn announced held staged.
    subst (λ n. ShowsRouter (on_unit (seen_link s withdrawn announced) u (seen old withdrawn announced held)) n) (sym e)
    (shown_as _ (record base { state = states.Ended (ends.Reported 0); out = sent base.spoken (report 0 (sent base.spoken u)) }) withdrawn announced held (steps withdrawn announced held) tt))

-- It stays,
pub reports_so : (u : Unit) (s : State) (old new : Machine) → old.state ≡ s → Steps s u (reports 0 u) old
    → new ≡ record old { state = states.Ended (ends.Reported 0); out = sent old.spoken (report 0 (sent old.spoken u)) } → Does (λ r. on_unit r.link u r) old new
reports_so u s old new is steps e = ends_so_with u s old old new is steps e

-- or is emptied.
pub fails_so : (u : Unit) (s : State) (old new : Machine) → old.state ≡ s → Steps s u (fails u) old
    → new ≡ record old { table = empty; before = empty; version = None; mark = false; state = states.Ended (ends.Reported 0); out = sent old.spoken (report 0 (sent old.spoken u)) } → Does (λ r. on_unit r.link u r) old new
fails_so u s old new is steps e = ends_so_with u s old (record old { table = empty; before = empty; version = None; mark = false }) new is steps e

-- Nothing happens.
pub stays_so : (u : Unit) (s : State) (old : Machine) → old.state ≡ s → Steps s u (λ r. r) old → Does (λ r. on_unit r.link u r) old old
stays_so u s old is steps =
    unit_does u s old old is (λ withdrawn announced held staged.
    subst (λ x. ShowsRouter x old) (sym (steps withdrawn announced held)) (shown old withdrawn announced held (subst (λ x. Stages x old.table withdrawn announced old.staging) (sym is) staged)))

-- What another call does
pub does_so : (u : Unit) (s : State) (step : Router → Router) (old new : Machine) → old.state ≡ s → Steps s u step old → Does step old new → Does (λ r. on_unit r.link u r) old new
does_so u s step old new is steps does =
    unit_does u s old new is (λ withdrawn announced held staged.
    subst (λ x. ShowsRouter x new) (sym (steps withdrawn announced held))
    (does (seen old withdrawn announced held) (shown old withdrawn announced held (subst (λ x. Stages x old.table withdrawn announced old.staging) (sym is) staged))))

-- The link ends by a report that was read.
pub told_so : (u : Unit) (s : State) (old : Machine) (code : ℕ) → old.state ≡ s → Steps s u (ended_by code) old → Does (λ r. on_unit r.link u r) old (record old { state = states.Ended (ends.Told code) })
told_so u s old code is steps =
    unit_does u s old (record old { state = states.Ended (ends.Told code) }) is (λ withdrawn announced held staged.
    shown_as _ (record old { state = states.Ended (ends.Told code) }) withdrawn announced held (steps withdrawn announced held) tt)

-- Agreement
pub agrees : (old : Machine) → Does (λ r. record r { agreed = true }) old (record old { agreed = true })
agrees old r s = record { withdrawn = s.withdrawn; announced = s.announced; staged = s.staged; is = ap (λ (x : Router). record x { agreed = true }) s.is }

pub told_then : (q : Question) (ended_by code : ℕ) (old new : Machine) → ended_by ≡ code → Does (told_off q ended_by) (record old { agreed = true }) new → Does (λ r. told_off q code (record r { agreed = true })) old new
told_then q ended_by code old new e does r s = subst (λ n. ShowsRouter (told_off q n (record r { agreed = true })) new) e (does (record r { agreed = true }) (agrees old r s))

pub told_now : (q : Question) (ended_by code : ℕ) (old new : Machine) → ended_by ≡ code → Does (told_off q ended_by) old new → Does (told_off q code) old new
told_now q ended_by code old new e does r s = subst (λ n. ShowsRouter (told_off q n r) new) e (does r s)

-- tests of codes
pub is_code : (ended_by code n : ℕ) → ended_by ≡ code → ended_by ≡ n → (code == n) ≡ true
is_code ended_by code n e h = let same : code ≡ n = sym e ∙ h in grind (arith, nat_tests)

pub no_code : (ended_by code n : ℕ) → ended_by ≡ code → (ended_by ≡ n → ⊥) → (code == n) ≡ false
no_code ended_by code n e h = false_if_never (code == n) (λ is. h (e ∙ eq_of code n is))

-- A Reset Query is asked, after agreement.
pub asks_again : (old new : Machine) → new ≡ record old { agreed = true; state = states.Asked questions.Reset; out = sent old.spoken (query AskReset) } → Does (λ r. asking AskReset (record r { agreed = true })) old new
asks_again old new e r s =
    subst (λ n. ShowsRouter (asking AskReset (record r { agreed = true })) n) (sym e)
    (record { withdrawn = s.withdrawn; announced = s.announced; staged = tt; is = ap (λ (x : Router). asking AskReset (record x { agreed = true })) s.is })

-- PDUs that do not belong where they come
abbrev pub foreign : Link → Unit → Bool
foreign Idle (SerialNotify session serial) = false
foreign Idle (ErrorReport e) = false
foreign Idle u = true
foreign (Asked q) (SerialNotify session serial) = false
foreign (Asked q) (CacheResponse session) = false
foreign (Asked q) CacheReset = false
foreign (Asked q) (ErrorReport e) = false
foreign (Asked q) u = true
foreign (Answering a) (CacheResponse session) = true
foreign (Answering a) CacheReset = true
foreign (Answering a) (SerialQuery session serial) = true
foreign (Answering a) ResetQuery = true
foreign l u = false

rejects : (l : Link) (u : Unit) → foreign l u ≡ true → (r : Router) → on_unit l u r ≡ reports 0 u r
unfolding on_unit
rejects Idle (SerialNotify session serial) h r = false_true h
rejects Idle (ErrorReport e) h r = false_true h
rejects Idle _ h r = refl
rejects (Asked q) (SerialNotify session serial) h r = false_true h
rejects (Asked q) (CacheResponse session) h r = false_true h
rejects (Asked q) CacheReset h r = false_true h
rejects (Asked q) (ErrorReport e) h r = false_true h
rejects (Asked q) _ h r = refl
rejects (Answering a) (CacheResponse session) h r = refl
rejects (Answering a) CacheReset h r = refl
rejects (Answering a) (SerialQuery session serial) h r = refl
rejects (Answering a) ResetQuery h r = refl
rejects (Answering a) _ h r = false_true h
rejects Closed _ h r = false_true h
rejects (Ended end) _ h r = false_true h

pub foreign_so : (u : Unit) (s : State) (old new : Machine) → old.state ≡ s → ((withdrawn announced : List Payload) → foreign (seen_link s withdrawn announced) u ≡ true)
    → new ≡ record old { state = states.Ended (ends.Reported 0); out = sent old.spoken (report 0 (sent old.spoken u)) } → Does (λ r. on_unit r.link u r) old new
foreign_so u s old new is h e = reports_so u s old new is (λ withdrawn announced held. rejects (seen_link s withdrawn announced) u (h withdrawn announced) (seen old withdrawn announced held)) e

module _ (session serial : ℕ) (u : Unit) (is : u ≡ SerialNotify session serial) (r : Router) where
  -- A notify of another session
  pub idle_strange : is_strange r session ≡ true → on_unit Idle u r ≡ fails u r
  unfolding on_unit
  idle_strange h = subst (λ x. on_unit Idle x r ≡ fails x r) (sym is) (ap (λ b. if b then fails (SerialNotify session serial) r else if is_news (of_version r.spoken r.version) serial then ask r else r) h)

  pub asked_strange : (q : Question) → is_strange r session ≡ true → on_unit (Asked q) u r ≡ fails u r
  unfolding on_unit
  asked_strange q h = subst (λ x. on_unit (Asked q) x r ≡ fails x r) (sym is) (ap (λ b. if b then fails (SerialNotify session serial) r else r) h)

  pub answering_strange : (a : Begun) → is_strange r session ≡ true → on_unit (Answering a) u r ≡ fails u r
  unfolding on_unit
  answering_strange a h = subst (λ x. on_unit (Answering a) x r ≡ fails x r) (sym is) (ap (λ b. if b then fails (SerialNotify session serial) r else r) h)

  -- of this session
  pub idle_news : is_strange r session ≡ false → is_news (of_version r.spoken r.version) serial ≡ true → on_unit Idle u r ≡ ask r
  unfolding on_unit
  idle_news h k = subst (λ x. on_unit Idle x r ≡ ask r) (sym is) (λ i. if h i then fails (SerialNotify session serial) r else if k i then ask r else r)

  pub idle_old : is_strange r session ≡ false → is_news (of_version r.spoken r.version) serial ≡ false → on_unit Idle u r ≡ r
  unfolding on_unit
  idle_old h k = subst (λ x. on_unit Idle x r ≡ r) (sym is) (λ i. if h i then fails (SerialNotify session serial) r else if k i then ask r else r)

  pub asked_same : (q : Question) → is_strange r session ≡ false → on_unit (Asked q) u r ≡ r
  unfolding on_unit
  asked_same q h = subst (λ x. on_unit (Asked q) x r ≡ r) (sym is) (ap (λ b. if b then fails (SerialNotify session serial) r else r) h)

  pub answering_same : (a : Begun) → is_strange r session ≡ false → on_unit (Answering a) u r ≡ r
  unfolding on_unit
  answering_same a h = subst (λ x. on_unit (Answering a) x r ≡ r) (sym is) (ap (λ b. if b then fails (SerialNotify session serial) r else r) h)

-- An Error Report
pub idle_no_data : (e : Report) (u : Unit) → u ≡ ErrorReport e → (r : Router) → (e.code == 2) ≡ true → on_unit Idle u r ≡ r
unfolding on_unit
idle_no_data e u is r h = subst (λ x. on_unit Idle x r ≡ r) (sym is) (ap (λ b. if b then r else ended_by e.code r) h)

pub idle_told : (e : Report) (u : Unit) → u ≡ ErrorReport e → (r : Router) → (e.code == 2) ≡ false → on_unit Idle u r ≡ ended_by e.code r
unfolding on_unit
idle_told e u is r h = subst (λ x. on_unit Idle x r ≡ ended_by e.code r) (sym is) (ap (λ b. if b then r else ended_by e.code r) h)

pub asked_told : (e : Report) (u : Unit) → u ≡ ErrorReport e → (q : Question) (r : Router) → on_unit (Asked q) u r ≡ told_off q e.code (record r { agreed = true })
unfolding on_unit
asked_told e u is AskReset r = ap (λ x. on_unit (Asked AskReset) x r) is
asked_told e u is (AskSerial session serial) r = ap (λ x. on_unit (Asked (AskSerial session serial)) x r) is

pub answering_told : (e : Report) (u : Unit) → u ≡ ErrorReport e → (a : Begun) (r : Router) → on_unit (Answering a) u r ≡ told_off a.question e.code r
unfolding on_unit
answering_told e u is a r = ap (λ x. on_unit (Answering a) x r) is

-- A Cache Response
pub asked_wrong : (session : ℕ) (u : Unit) → u ≡ CacheResponse session → (q : Question) (r : Router) → is_wrong (Some q) (of_version r.spoken r.version) session ≡ true → on_unit (Asked q) u r ≡ fails u r
unfolding on_unit
asked_wrong session u is q r h =
    subst (λ x. on_unit (Asked q) x r ≡ fails x r) (sym is)
    (ap (λ b. if b then fails (CacheResponse session) r else record r { agreed = true; session = Some session; link = Answering (record { question = q; session = session; withdrawn = []; announced = [] }) }) h)

pub asked_begins : (session : ℕ) (u : Unit) → u ≡ CacheResponse session → (q : Question) (r : Router) → is_wrong (Some q) (of_version r.spoken r.version) session ≡ false
    → on_unit (Asked q) u r ≡ record r { agreed = true; session = Some session; link = Answering (record { question = q; session = session; withdrawn = []; announced = [] }) }
unfolding on_unit
asked_begins session u is q r h =
    ap (λ x. on_unit (Asked q) x r) is
    ∙ ap (λ b. if b then fails (CacheResponse session) r else record r { agreed = true; session = Some session; link = Answering (record { question = q; session = session; withdrawn = []; announced = [] }) }) h

-- A Cache Reset
pub asked_again : (u : Unit) → u ≡ CacheReset → (session serial : ℕ) (r : Router) → on_unit (Asked (AskSerial session serial)) u r ≡ asking AskReset (record r { agreed = true })
unfolding on_unit
asked_again u is session serial r = ap (λ x. on_unit (Asked (AskSerial session serial)) x r) is

pub reset_refused : (u : Unit) → u ≡ CacheReset → (r : Router) → on_unit (Asked AskReset) u r ≡ reports 0 u r
unfolding on_unit
reset_refused u is r = subst (λ x. on_unit (Asked AskReset) x r ≡ reports 0 x r) (sym is) refl

-- A machine whose staged records are others, and whose link ends
pub ends_so : (old : Machine) (s : Staging) → EndsLink old (record old { staging = s })
ends_so old s r end shows = record { withdrawn = shows.withdrawn; announced = shows.announced; staged = tt; is = ap (λ (x : Router). record x { link = Ended end }) shows.is }

-- A record in an answer
module _ (old : Machine) (q : Question.Question) (session : ℕ) (is : old.state ≡ states.Answering q session) (announce : Bool) (v : Payload) (u : Unit) (unit_is : u ≡ Prefix announce v) (in_base : Bool)
    (known : in_base ≡ has (base_of (seen_question q) old.table) v) where
  abbrev base : VrpSet
  base = base_of (seen_question q) old.table

  abbrev a_of : List Payload → List Payload → Begun
  a_of withdrawn announced = begun_with q session withdrawn announced

  reads_record : (a : Begun) (r : Router) → on_unit (Answering a) u r ≡ staged u (stage (limit_of r.config) (base_of a.question r.table) a announce v) r
  unfolding on_unit
  reads_record a r = subst (λ x. on_unit (Answering a) x r ≡ staged x (stage (limit_of r.config) (base_of a.question r.table) a announce v) r) (sym unit_is) refl

  lacks_record : (a : Begun) (r : Router) → may_lack (Answering a) u r ≡ is_staged (stage (limit_of r.config) (base_of a.question r.table) a announce v)
  lacks_record a r = ap (λ x. may_lack (Answering a) x r) unit_is

  -- what is known of the answer
  abbrev Goes : Result Staged SetFault → Staging → Type 0
  Goes answer s = (base : VrpSet) (b : Begun) → IsStaged base b.withdrawn b.announced old.staging → in_base ≡ has base v → GoesTo (limit_of old.config) base b announce v answer s

  goes : (answer : Result Staged SetFault) (s : Staging) → Goes answer s → (withdrawn announced : List Payload) → IsStaged base withdrawn announced old.staging → StagesRecord base (a_of withdrawn announced) (stage (limit_of old.config) base (a_of withdrawn announced) announce v) answer s
  goes answer s g withdrawn announced st = g base (a_of withdrawn announced) st known

  pub stays_staged : (s : Staging) → Goes (Ok code.Stays) s → Does (λ r. on_unit r.link u r) old (record old { staging = s })
  stays_staged s g = unit_does u (states.Answering q session) old (record old { staging = s }) is (λ withdrawn announced held st.
      let r = seen old withdrawn announced held in
      by_staged withdrawn announced held (stage (limit_of old.config) base (a_of withdrawn announced) announce v) refl (goes (Ok code.Stays) s g withdrawn announced st))
    where
      by_staged : (withdrawn announced : List Payload) (held : List ℕ) (x : rules.Staged) → stage (limit_of old.config) base (a_of withdrawn announced) announce v ≡ x → StagesRecord base (a_of withdrawn announced) x (Ok code.Stays) s
          → ShowsRouter (on_unit (Answering (a_of withdrawn announced)) u (seen old withdrawn announced held)) (record old { staging = s })
      by_staged withdrawn announced held (rules.Stays a) e h =
          shown_as (on_unit (Answering (a_of withdrawn announced)) u (seen old withdrawn announced held)) (record old { staging = s }) a.withdrawn a.announced held
          (reads_record (a_of withdrawn announced) (seen old withdrawn announced held)
          ∙ ap (λ x. staged u x (seen old withdrawn announced held)) e
          ∙ (λ i. record (seen old withdrawn announced held) { link = Answering (record { question = h.1 i; session = h.2 i; withdrawn = a.withdrawn; announced = a.announced }) })
          ∙ (λ i. record (seen old withdrawn announced held) { link = seen_link (sym is i) a.withdrawn a.announced }))
          (subst (λ x. Stages x old.table a.withdrawn a.announced s) (sym is) h.0)
      by_staged withdrawn announced held (rules.Wrong code) e h = absurd h
      by_staged withdrawn announced held rules.Over e h = absurd h

  pub wrong_staged : (s : Staging) (n : ℕ) (new : Machine) → Goes (Ok (code.Wrong n)) s → new ≡ record old { staging = s; state = states.Ended (ends.Reported n); out = sent old.spoken (report n (sent old.spoken u)) }
      → Does (λ r. on_unit r.link u r) old (record new { mark = true })
  wrong_staged s n new g e = unit_does u (states.Answering q session) old (record new { mark = true }) is (λ withdrawn announced held st.
      by_staged withdrawn announced held (stage (limit_of old.config) base (a_of withdrawn announced) announce v) refl (goes (Ok (code.Wrong n)) s g withdrawn announced st))
    where
      by_staged : (withdrawn announced : List Payload) (held : List ℕ) (x : rules.Staged) → stage (limit_of old.config) base (a_of withdrawn announced) announce v ≡ x → StagesRecord base (a_of withdrawn announced) x (Ok (code.Wrong n)) s
          → ShowsRouter (on_unit (Answering (a_of withdrawn announced)) u (seen old withdrawn announced held)) (record new { mark = true })
      by_staged withdrawn announced held (rules.Stays a) k h = absurd h
      by_staged withdrawn announced held (rules.Wrong m) k h =
          subst (λ y. ShowsRouter (on_unit (Answering (a_of withdrawn announced)) u (seen old withdrawn announced held)) (record y { mark = true })) (sym e)
          (shown_as (on_unit (Answering (a_of withdrawn announced)) u (seen old withdrawn announced held)) (record old { staging = s; state = states.Ended (ends.Reported n); out = sent old.spoken (report n (sent old.spoken u)); mark = true }) withdrawn announced held
          (reads_record (a_of withdrawn announced) (seen old withdrawn announced held) ∙ ap (λ x. staged u x (seen old withdrawn announced held)) k
          ∙ ap (λ c. record (reports c u (seen old withdrawn announced held)) { mark = true }) (sym h)) tt)
      by_staged withdrawn announced held rules.Over k h = absurd h

  pub refused_staged : (s : Staging) (fault : SetFault) → Goes (Err fault) s → UnitIsRead (Err fault) u old (record old { staging = s })
  refused_staged s Memory g = (ends_so old s, λ r shows. lacking r shows)
    where
      by_staged : (b : Begun) (x : rules.Staged) → StagesRecord base b x (Err Memory) s → is_staged x ≡ true
      by_staged b (rules.Stays a) h = refl
      by_staged b _ h = absurd h

      lacking : (r : Router) → ShowsRouter r old → may_lack r.link u r ≡ true
      lacking r shows =
          let st : IsStaged base shows.withdrawn shows.announced old.staging = subst (λ x. Stages x old.table shows.withdrawn shows.announced old.staging) is shows.staged in
          ap (λ (x : Router). may_lack x.link u x) shows.is ∙ ap (λ x. may_lack (seen_link x shows.withdrawn shows.announced) u (seen old shows.withdrawn shows.announced r.held)) is
          ∙ lacks_record (a_of shows.withdrawn shows.announced) (seen old shows.withdrawn shows.announced r.held)
          ∙ by_staged (a_of shows.withdrawn shows.announced) (stage (limit_of old.config) base (a_of shows.withdrawn shows.announced) announce v) (goes (Err Memory) s g shows.withdrawn shows.announced st)
  refused_staged s TooMany g = (ends_so old s, λ r shows. over r shows)
    where
      by_staged : (r : Router) (b : Begun) (x : rules.Staged) → StagesRecord base b x (Err TooMany) s → staged u x r ≡ record r { link = Ended ends.TooMany }
      by_staged r b (rules.Stays a) h = absurd h
      by_staged r b (rules.Wrong n) h = absurd h
      by_staged r b rules.Over h = refl

      over : (r : Router) → ShowsRouter r old → on_unit r.link u r ≡ record r { link = Ended ends.TooMany }
      over r shows =
          let st : IsStaged base shows.withdrawn shows.announced old.staging = subst (λ x. Stages x old.table shows.withdrawn shows.announced old.staging) is shows.staged in
          let m : Router = seen old shows.withdrawn shows.announced r.held in
          ap (λ (x : Router). on_unit x.link u x) shows.is ∙ ap (λ x. on_unit (seen_link x shows.withdrawn shows.announced) u m) is
          ∙ reads_record (a_of shows.withdrawn shows.announced) m
          ∙ by_staged m (a_of shows.withdrawn shows.announced) (stage (limit_of old.config) base (a_of shows.withdrawn shows.announced) announce v) (goes (Err TooMany) s g shows.withdrawn shows.announced st)
          ∙ ap (λ (x : Router). record x { link = Ended ends.TooMany }) (sym shows.is)

module _ (old : Machine) (q : Question.Question) (session serial refresh retry expire : ℕ) (is : old.state ≡ states.Answering q session) where
  abbrev last_unit : Unit
  last_unit = EndOfData session serial refresh retry expire

  abbrev version_now : Committed
  version_now = record { version = old.spoken; session = session; serial = serial; moment = old.clock; intervals = chosen old.config (bounded refresh retry expire) }

  reads_end : (a : Begun) (r : Router) → a.session ≡ session → on_unit (Answering a) last_unit r ≡ commit a (record { version = r.spoken; session = session; serial = serial; moment = r.now; intervals = chosen r.config (bounded refresh retry expire) }) r
  unfolding on_unit
  reads_end a r e =
      ap (λ b. if b then commit a (record { version = r.spoken; session = session; serial = serial; moment = r.now; intervals = chosen r.config (bounded refresh retry expire) }) r else fails last_unit r)
      (ap (λ n. session == n) e ∙ eq_self session)

  -- what is led to
  abbrev LeadsSo : Result VrpSet SetFault → Type 0
  LeadsSo result = (b : Begun) → IsStaged (base_of (seen_question q) old.table) b.withdrawn b.announced old.staging → LeadsToSet (base_of (seen_question q) old.table) b result

  pub commits_so : (table : VrpSet) (v : CommittedVersion) (due : ℕ) (s : Staging) (new : Machine) → LeadsSo (Ok table) → seen_version v ≡ version_now → due ≡ sum_of old.clock v.refresh
      → new ≡ record old { table = table; before = old.table; version = Some v; mark = false; due = Some due; no_data = false; state = states.Idle; staging = s }
      → Does (λ r. on_unit r.link last_unit r) old new
  commits_so table v due s new leads named at e = unit_does last_unit (states.Answering q session) old new is (λ withdrawn announced held st.
      let a : Begun = begun_with q session withdrawn announced in
      let r : Router = seen old withdrawn announced held in
      let due_is : sum_of old.clock version_now.intervals.refresh ≡ due = ap (λ (x : Committed). sum_of old.clock x.intervals.refresh) (sym named) ∙ sym at in
      subst (λ n. ShowsRouter (on_unit (Answering a) last_unit r) n) (sym e)
      (shown_as (on_unit (Answering a) last_unit r) (record old { table = table; before = old.table; version = Some v; mark = false; due = Some due; no_data = false; state = states.Idle; staging = s }) withdrawn announced held
      (reads_end a r refl ∙ (λ i. record r { table = sym (leads a st) i; before = r.table; version = Some (sym named i); mark = false; due = Some (due_is i); no_data = false; link = Idle })) tt))

  pub lacks_end : (s : Staging) (fault : SetFault) → LeadsSo (Err fault) → UnitIsRead (Err fault) last_unit old (record old { staging = s })
  lacks_end s Memory leads = (ends_so old s, λ r shows. ap (λ (x : Router). may_lack x.link last_unit x) shows.is ∙ ap (λ x. may_lack (seen_link x shows.withdrawn shows.announced) last_unit (seen old shows.withdrawn shows.announced r.held)) is ∙ eq_self session)
  lacks_end s TooMany leads = (ends_so old s, λ r shows. absurd (never r shows))
    where
      never : (r : Router) → ShowsRouter r old → ⊥
      never r shows =
          let st : IsStaged (base_of (seen_question q) old.table) shows.withdrawn shows.announced old.staging = subst (λ x. Stages x old.table shows.withdrawn shows.announced old.staging) is shows.staged in
          let e : TooMany ≡ Memory = leads (begun_with q session shows.withdrawn shows.announced) st in
          cc

-- An End of Data of another session
pub answering_ends : (q : Question.Question) (session named serial refresh retry expire : ℕ) (u : Unit) → u ≡ EndOfData named serial refresh retry expire → (named ≡ session → ⊥) → (withdrawn announced : List Payload) (r : Router)
    → on_unit (Answering (begun_with q session withdrawn announced)) u r ≡ fails u r
unfolding on_unit
answering_ends q session named serial refresh retry expire u is other withdrawn announced r =
    subst (λ x. on_unit (Answering (begun_with q session withdrawn announced)) x r ≡ fails x r) (sym is)
    (ap (λ b. if b then commit (begun_with q session withdrawn announced) (record { version = r.spoken; session = named; serial = serial; moment = r.now; intervals = chosen r.config (bounded refresh retry expire) }) r else fails (EndOfData named serial refresh retry expire) r) (no_code named named session refl other))

pub answering_ends_0 : (q : Question.Question) (session named serial : ℕ) (u : Unit) → u ≡ EndOfData0 named serial → (named ≡ session → ⊥) → (withdrawn announced : List Payload) (r : Router)
    → on_unit (Answering (begun_with q session withdrawn announced)) u r ≡ fails u r
unfolding on_unit
answering_ends_0 q session named serial u is other withdrawn announced r =
    subst (λ x. on_unit (Answering (begun_with q session withdrawn announced)) x r ≡ fails x r) (sym is)
    (ap (λ b. if b then commit (begun_with q session withdrawn announced) (record { version = r.spoken; session = named; serial = serial; moment = r.now; intervals = r.config.intervals }) r else fails (EndOfData0 named serial) r) (no_code named named session refl other))

-- An interval in range stays as it is.
not_less : (a b : ℕ) → b ≤ a → nat_lt a b ≡ false
not_less a b h = grind (arith, nat_tests)

within_range : (low high n : ℕ) → low ≤ n → n ≤ high → within low high n ≡ n
within_range low high n from to = λ i. if not_less n low from i then low else if not_less high n to i then high else n

own_same : (keeps : Bool) (own told : ℕ) → told ≡ own → own_if keeps own told ≡ own
own_same true own told e = refl
own_same false own told e = e

-- A configuration's own intervals are those of a commit that has them.
own_chosen : (c : RouterConfig) → InRange c.intervals → chosen c (bounded c.intervals.refresh c.intervals.retry c.intervals.expire) ≡ c.intervals
own_chosen c t =
    let refresh = own_same c.keeps_refresh c.intervals.refresh _ (within_range 1 86400 c.intervals.refresh t.refresh_from t.refresh_to) in
    let retry = own_same c.keeps_retry c.intervals.retry _ (within_range 1 7200 c.intervals.retry t.retry_from t.retry_to) in
    let expire = own_same c.keeps_expire c.intervals.expire _ (within_range 600 172800 c.intervals.expire t.expire_from t.expire_to) in
    λ i. intervals (refresh i) (retry i) (expire i)

-- An End of Data of this session without intervals does what one with the router's own does.
module _ (old new : Machine) (q : Question.Question) (session serial : ℕ) (is : old.state ≡ states.Answering q session) (t : InRange old.config.intervals) where
  abbrev own_unit : Unit
  own_unit = EndOfData session serial old.config.intervals.refresh old.config.intervals.retry old.config.intervals.expire

  abbrev SameAt : Link → Router → Type 0
  SameAt l r = (on_unit l own_unit r ≡ on_unit l (EndOfData0 session serial) r) × (may_lack l own_unit r ≡ may_lack l (EndOfData0 session serial) r)

  same_session : (b : Bool) → b ≡ true → (a : Begun) (r : Router) (own : Intervals) → own ≡ r.config.intervals
      → (if b then commit a (record { version = r.spoken; session = session; serial = serial; moment = r.now; intervals = own }) r else fails own_unit r)
      ≡ (if b then commit a (record { version = r.spoken; session = session; serial = serial; moment = r.now; intervals = r.config.intervals }) r else fails (EndOfData0 session serial) r)
  same_session true e a r own h = ap (λ x. commit a (record { version = r.spoken; session = session; serial = serial; moment = r.now; intervals = x }) r) h
  same_session false e a r own h = false_true e

  same_seen : (withdrawn announced : List Payload) (held : List ℕ) → SameAt (seen_link (states.Answering q session) withdrawn announced) (seen old withdrawn announced held)
  unfolding on_unit
  same_seen withdrawn announced held = (same_session (session == session) (eq_self session) (begun_with q session withdrawn announced) (seen old withdrawn announced held) _ (own_chosen old.config t), refl)

  same : (r : Router) → ShowsRouter r old → SameAt r.link r
  same r s =
      subst (λ (x : Router). SameAt x.link x) (sym s.is)
      (subst (λ x. SameAt (seen_link x s.withdrawn s.announced) (seen old s.withdrawn s.announced r.held)) (sym is) (same_seen s.withdrawn s.announced r.held))

  pub end_as_own : (result : Result ⊤ SetFault) → UnitIsRead result own_unit old new → UnitIsRead result (EndOfData0 session serial) old new
  end_as_own (Ok done) h = λ r s. subst (λ n. ShowsRouter n new) (same r s).0 (h r s)
  end_as_own (Err Memory) h = (h.0, λ r s. sym (same r s).1 ∙ h.1 r s)
  end_as_own (Err TooMany) h = (h.0, λ r s. sym (same r s).0 ∙ h.1 r s)

pub answering_key : (key : Key) (u : Unit) → u ≡ RouterKey key → (a : Begun) (r : Router) → on_unit (Answering a) u r ≡ r
unfolding on_unit
answering_key key u is a r = ap (λ x. on_unit (Answering a) x r) is

-- Sums stop at the greatest moment.
pub sum_min : (a b n : ℕ) → n ≡ min (a + b) 18446744073709551615 → n ≡ sum_of a b
sum_min a b n e = by_test (nat_lt 18446744073709551615 (a + b)) refl
  where
    by_test : (t : Bool) → nat_lt 18446744073709551615 (a + b) ≡ t → n ≡ (if t then 18446744073709551615 else a + b)
    by_test true is = let over : 18446744073709551615 < a + b = grind (arith, nat_tests) in omega (arith, e, over)
    by_test false is = let within : a + b ≤ 18446744073709551615 = grind (arith, nat_tests) in omega (arith, e, within)

-- Links without a connection that reads
pub closed_so : (u : Unit) (old : Machine) → Steps states.Closed u (λ r. r) old
unfolding on_unit
closed_so u old withdrawn announced held = refl

pub ended_so : (u : Unit) (end : End) (old : Machine) → Steps (states.Ended end) u (λ r. r) old
unfolding on_unit
ended_so u end old withdrawn announced held = refl

-- The clock
pub later_max : (a b n : ℕ) → n ≡ max a b → n ≡ later a b
later_max a b n e = by_test (nat_lt a b) refl
  where
    by_test : (t : Bool) → nat_lt a b ≡ t → n ≡ (if t then b else a)
    by_test true is = let less : a < b = grind (arith, nat_tests) in omega (arith, e, less)
    by_test false is = let more : b ≤ a = grind (arith, nat_tests) in omega (arith, e, more)

pub expires_so : (old new : Machine) (now clock : ℕ) → clock ≡ later old.clock now → is_over (seen_versions old.version) clock ≡ true → Does (λ r. expired r.link r) (record old { clock = clock }) new → Does (clocked now) old new
unfolding clocked
expires_so old new now clock is over does = does_from (λ r. judged_by_clock (record r { now = later r.now now })) old new (λ withdrawn announced held st.
    let r : Router = seen (record old { clock = clock }) withdrawn announced held in
    subst (λ x. ShowsRouter (judged_by_clock (record r { now = x })) new) is
    (subst (λ x. ShowsRouter (if x then expired r.link r else r) new) (sym over) (does r (shown (record old { clock = clock }) withdrawn announced held st))))

pub stays_on : (old : Machine) (now clock : ℕ) → clock ≡ later old.clock now → is_over (seen_versions old.version) clock ≡ false → Does (clocked now) old (record old { clock = clock })
unfolding clocked
stays_on old now clock is over = does_from (λ r. judged_by_clock (record r { now = later r.now now })) old (record old { clock = clock }) (λ withdrawn announced held st.
    let r : Router = seen (record old { clock = clock }) withdrawn announced held in
    subst (λ x. ShowsRouter (judged_by_clock (record r { now = x })) (record old { clock = clock })) is
    (subst (λ x. ShowsRouter (if x then expired r.link r else r) (record old { clock = clock })) (sym over) (shown (record old { clock = clock }) withdrawn announced held st)))

-- A connection is of the version that was set last.
abbrev pub opens : Router → Router
opens r = record r { spoken = r.speaks }

pub opens_so : (old : Machine) → Does opens old (record old { spoken = old.speaks })
opens_so old r s = record { withdrawn = s.withdrawn; announced = s.announced; staged = s.staged; is = ap opens s.is }

-- Calls
module _ (now : ℕ) where
  pub connects : (r : Router) → (connects_at now r).router ≡ ask (opens (close (clocked now r)))
  unfolding connects_at
  connects r = refl

  pub closes : (r : Router) → (closed_at now r).router ≡ close (clocked now r)
  unfolding closed_at
  closes r = refl

  pub ticks : (due : Bool) (r : Router) → is_due (clocked now r).link (clocked now r).due (clocked now r).now ≡ due → (ticks_at now r).router ≡ (if due then ask (clocked now r) else clocked now r)
  unfolding ticks_at
  ticks due r e = ap (λ b. (asks_if b (clocked now r)).router) e ∙ by_test due
    where
      by_test : (b : Bool) → (asks_if b (clocked now r)).router ≡ (if b then ask (clocked now r) else clocked now r)
      by_test true = refl
      by_test false = refl

-- What does not look into an answer is determined by the state.
pub seen_so : {X : Type 0} (f : Link → X) → ((a b : Begun) → f (Answering a) ≡ f (Answering b)) → (s : State) (withdrawn announced : List Payload) → f (seen_link s withdrawn announced) ≡ f (seen_link s [] [])
seen_so f same (states.Answering q session) withdrawn announced = same (begun_with q session withdrawn announced) (begun_with q session [] [])
seen_so f same _ withdrawn announced = refl

-- whether a router that is shown is due
pub due_of : (m : Machine) (r : Router) → ShowsRouter r m → is_due r.link r.due r.now ≡ is_due (seen_link m.state [] []) m.due m.clock
due_of m r s = ap (λ (x : Router). is_due x.link x.due x.now) s.is ∙ seen_so (λ l. is_due l m.due m.clock) (λ a b. refl) m.state s.withdrawn s.announced

-- what is asked by a link
pub asks_idle : (old new : Machine) → old.state ≡ states.Idle → Does ask old new → Does (λ r. (asks r).router) old new
unfolding asks
asks_idle old new is does = does_from (λ r. (asks r).router) old new (λ withdrawn announced held st.
    let r : Router = seen old withdrawn announced held in
    subst (λ x. ShowsRouter ((asks_if (is_idle (seen_link x withdrawn announced)) r).router) new) (sym is) (does r (shown old withdrawn announced held st)))

pub asks_not : (old : Machine) → is_idle (seen_link old.state [] []) ≡ false → Does (λ r. (asks r).router) old old
unfolding asks
asks_not old busy = does_from (λ r. (asks r).router) old old (λ withdrawn announced held st.
    let r : Router = seen old withdrawn announced held in
    subst (λ x. ShowsRouter ((asks_if x r).router) old) (sym (seen_so is_idle (λ a b. refl) old.state withdrawn announced ∙ busy)) (shown old withdrawn announced held st))
