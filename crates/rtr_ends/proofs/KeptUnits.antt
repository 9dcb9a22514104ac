-- What a router keeps after each PDU is what its transcript keeps.
use Rattle.rtr_ends.proofs.Words.{◌≡◌, ℕ, Bool, true, false, not, ◌&&◌, ◌||◌, ◌==◌, nat_lt, List, [], ◌∷◌, ◌++◌, Option, Some, if◌then◌else◌, refl, sym, subst, append_assoc, rules, and-false, or_parts, VrpSet, has, size, Judgement, Begins, Whole, Faulty, Report, Unit, SerialNotify, CacheResponse, Prefix, EndOfData, EndOfData0, CacheReset, RouterKey, ErrorReport}
use Rattle.rtr_ends.specs.LinkRules.{Router, Stays, Wrong, Over, asking, ask, ended_by, fails, is_strange, is_news, staged, commit, told_off, on_unit}
use Rattle.rtr_ends.specs.Router.{Noted, asked_by, reads, with_bytes}
use Rattle.rtr_ends.specs.RouterLaws.{LinkTells}
use Rattle.rtr_ends.specs.RouterLink.{Link, Closed, Idle, Asked, Answering, Ended, is_reading, is_closed}
use Rattle.rtr_ends.specs.Configuration.{chosen, limit_of}
use Rattle.rtr_ends.proofs.TableLaws.{false_true}
use Rattle.rtr_ends.proofs.Effects.{by_whole, either, reading_open_so}
use Rattle.rtr_ends.specs.Transcript.{choose, of_version, spoken, Question, AskReset, AskSerial, Item, Reads, Begun, outstanding, question_of, has_agreed, responded, is_connected, configured, moment, is_among, led_to, Kept, bounded, base_of, is_wrong, kept, due}

abbrev pub holds : Router → Kept
holds r = record { version = r.version; table = r.table; before = r.before }

pub record Tells (r : Router) (items : List Item) : Type 0 where
  pub kept_is : kept items ≡ holds r
  pub due_is : due items ≡ r.due
  pub now_is : moment items ≡ r.now
  pub spoken_is : spoken items ≡ r.spoken
  pub config_is : configured items ≡ r.config
  pub link : LinkTells r.link r.agreed r.session r.table items

-- the router after a PDU, and the transcript
abbrev After : Router → Unit → List Item → Type 0
After r u items = Tells r (asked_by r.link r.out ++ Reads u ∷ items)

-- what a PDU leaves as it was
pub record Leaves (r : Router) (u : Unit) (items : List Item) : Type 0 where
  pub kept_is : kept (Reads u ∷ items) ≡ holds r
  pub due_is : due (Reads u ∷ items) ≡ r.due
  pub now_is : moment items ≡ r.now
  pub spoken_is : spoken items ≡ r.spoken
  pub config_is : configured items ≡ r.config

-- a router that keeps its link
stays_after : (r : Router) (u : Unit) (items : List Item) (l : Link) → r.link ≡ l → r.out ≡ [] → Leaves r u items → LinkTells l r.agreed r.session r.table (Reads u ∷ items) → After r u items
stays_after r u items l is none h t = search rules

-- a question that is put is in the transcript
asking_after : (r : Router) (q : Question) (u : Unit) (items : List Item) → is_connected items ≡ true → Leaves r u items → has_agreed (Reads u ∷ items) ≡ r.agreed → responded (Reads u ∷ items) ≡ r.session → After (asking q r) u items
asking_after r q u items c h a s = search rules

-- before a PDU
pub record Before (r : Router) (items : List Item) : Type 0 where
  pub kept_is : kept items ≡ holds r
  pub due_is : due items ≡ r.due
  pub now_is : moment items ≡ r.now
  pub spoken_is : spoken items ≡ r.spoken
  pub config_is : configured items ≡ r.config
  pub none : r.out ≡ []

-- A notify ends the link if it is of another session.
notified : (r own : Router) (items : List Item) (session serial : ℕ) → is_connected items ≡ true → Before r items → has_agreed items ≡ r.agreed → responded items ≡ r.session
    → (Leaves r (SerialNotify session serial) items → After own (SerialNotify session serial) items) → After (if is_strange r session then fails (SerialNotify session serial) r else own) (SerialNotify session serial) items
notified r own items session serial c h a s stays = search rules

-- an Error Report to the question that is outstanding
told_unit : (r : Router) (q : Question) (e : Report) (items : List Item) → r.agreed ≡ true → is_connected items ≡ true → Before r items → outstanding items ≡ Some q → responded items ≡ r.session → After (told_off q e.code r) (ErrorReport e) items
told_unit r q e items agreed c h asked session = search rules

-- the link is idle
idle_unit : (r : Router) (u : Unit) (items : List Item) → r.link ≡ Idle → Before r items → LinkTells Idle r.agreed r.session r.table items → After (on_unit Idle u r) u items
unfolding on_unit
idle_unit r (SerialNotify session serial) items is h l =
    notified r (if is_news (of_version r.spoken r.version) serial then ask r else r) items session serial l.0 h l.3 l.4
    (λ leaves. either (λ n. After n (SerialNotify session serial) items) (is_news (of_version r.spoken r.version) serial) (ask r) r
    (λ news. asking_after r (choose (of_version r.spoken r.version) r.mark) (SerialNotify session serial) items l.0 leaves l.3 l.4) (λ old. stays_after r (SerialNotify session serial) items Idle is h.none leaves l))
idle_unit r (ErrorReport e) items is h l = either (λ n. After n (ErrorReport e) items) (e.code == 2) r (ended_by e.code r)
    (λ two. stays_after r (ErrorReport e) items Idle is h.none
    (record { kept_is = simp (l.1, l.2, and-false, h.kept_is); due_is = simp (l.1, l.2, and-false, h.due_is); now_is = h.now_is; spoken_is = h.spoken_is; config_is = h.config_is }) (l.0, refl, refl, sym l.5, l.4, l.5))
    (λ other. record { kept_is = simp (l.1, l.2, and-false, h.kept_is); due_is = simp (l.1, l.2, and-false, h.due_is); now_is = h.now_is; spoken_is = h.spoken_is; config_is = h.config_is; link = l.0 })
idle_unit r u items is h l = record { kept_is = simp (l.1, l.2, h.kept_is); due_is = simp (l.2, h.due_is); now_is = h.now_is; spoken_is = h.spoken_is; config_is = h.config_is; link = l.0 }

asked_unit : (r : Router) (q : Question) (u : Unit) (items : List Item) → r.link ≡ Asked q → Before r items → LinkTells (Asked q) r.agreed r.session r.table items → After (on_unit (Asked q) u r) u items
unfolding on_unit
asked_unit r q (SerialNotify session serial) items is h l =
    notified r r items session serial l.0 h l.3 l.4 (λ leaves. stays_after r (SerialNotify session serial) items (Asked q) is h.none leaves l)
asked_unit r q (CacheResponse session) items is h l =
    either (λ n. After n (CacheResponse session) items) (is_wrong (Some q) (of_version r.spoken r.version) session)
    (fails (CacheResponse session) r) (record r { agreed = true; session = Some session; link = Answering (record { question = q; session = session; withdrawn = []; announced = [] }) })
    (λ wrong. record { kept_is = rw (l.1, h.spoken_is, h.kept_is, wrong); due_is = h.due_is; now_is = h.now_is; spoken_is = h.spoken_is; config_is = h.config_is; link = l.0 })
    (λ own. record { kept_is = rw (l.1, h.spoken_is, h.kept_is, own); due_is = h.due_is; now_is = h.now_is; spoken_is = h.spoken_is; config_is = h.config_is; link = (l.0, refl, rw l.1, refl, refl, refl, refl) })
asked_unit r (AskSerial session serial) CacheReset items is h l =
    asking_after (record r { agreed = true }) AskReset CacheReset items l.0 (record { kept_is = h.kept_is; due_is = h.due_is; now_is = h.now_is; spoken_is = h.spoken_is; config_is = h.config_is }) refl l.4
asked_unit r q (ErrorReport e) items is h l =
    told_unit (record r { agreed = true }) q e items refl l.0 (record { kept_is = h.kept_is; due_is = h.due_is; now_is = h.now_is; spoken_is = h.spoken_is; config_is = h.config_is; none = h.none })
    (λ i. question_of (l.2 i) (l.1 i)) l.4
asked_unit r q u items is h l = record { kept_is = simp (l.2, h.kept_is); due_is = simp (l.2, h.due_is); now_is = h.now_is; spoken_is = h.spoken_is; config_is = h.config_is; link = l.0 }

-- an answer is under way
answering_unit : (r : Router) (a : Begun) (u : Unit) (items : List Item) → r.link ≡ Answering a → Before r items → LinkTells (Answering a) r.agreed r.session r.table items → After (on_unit (Answering a) u r) u items
unfolding on_unit
answering_unit r a (SerialNotify session serial) items is h l =
    notified r r items session serial l.0 h l.3 l.4 (λ leaves. stays_after r (SerialNotify session serial) items (Answering a) is h.none leaves l)
answering_unit r a (Prefix false v) items is h l =
    either (λ st. After (staged (Prefix false v) st r) (Prefix false v) items) (has (base_of a.question r.table) v && not (is_among v a.withdrawn)) (Stays (record a { withdrawn = v ∷ a.withdrawn })) (Wrong 6)
    (λ one. record { kept_is = h.kept_is; due_is = h.due_is; now_is = h.now_is; spoken_is = h.spoken_is; config_is = h.config_is; link = (l.0, refl, rw l.2, sym l.5, l.4, l.5, rw one l.6) })
    (λ wrong. record { kept_is = h.kept_is; due_is = h.due_is; now_is = h.now_is; spoken_is = h.spoken_is; config_is = h.config_is; link = l.0 })
answering_unit r a (Prefix true v) items is h l =
    either (λ st. After (staged (Prefix true v) st r) (Prefix true v) items) (has (base_of a.question r.table) v || is_among v a.announced) (Wrong 7)
    (if nat_lt (limit_of r.config) (size (led_to (base_of a.question r.table) a.withdrawn (v ∷ a.announced))) then Over else Stays (record a { announced = v ∷ a.announced }))
    (λ wrong. record { kept_is = h.kept_is; due_is = h.due_is; now_is = h.now_is; spoken_is = h.spoken_is; config_is = h.config_is; link = l.0 })
    (λ new. either (λ st. After (staged (Prefix true v) st r) (Prefix true v) items) (nat_lt (limit_of r.config) (size (led_to (base_of a.question r.table) a.withdrawn (v ∷ a.announced)))) Over (Stays (record a { announced = v ∷ a.announced }))
    (λ much. record { kept_is = h.kept_is; due_is = h.due_is; now_is = h.now_is; spoken_is = h.spoken_is; config_is = h.config_is; link = l.0 })
    (λ fits. let parts = or_parts (has (base_of a.question r.table) v) (is_among v a.announced) new in
    record { kept_is = h.kept_is; due_is = h.due_is; now_is = h.now_is; spoken_is = h.spoken_is; config_is = h.config_is; link = (l.0, refl, rw l.2, sym l.5, l.4, l.5, rw (parts.0, parts.1) l.6) }))
answering_unit r a (RouterKey key) items is h l =
    stays_after r (RouterKey key) items (Answering a) is h.none (record { kept_is = h.kept_is; due_is = h.due_is; now_is = h.now_is; spoken_is = h.spoken_is; config_is = h.config_is }) (l.0, refl, l.2, sym l.5, l.4, l.5, l.6)
answering_unit r a (EndOfData session serial refresh retry expire) items is h l = either (λ n. After n (EndOfData session serial refresh retry expire) items) (session == a.session)
    (commit a (record { version = r.spoken; session = session; serial = serial; moment = r.now; intervals = chosen r.config (bounded refresh retry expire) }) r) (fails (EndOfData session serial refresh retry expire) r)
    (λ own. record { kept_is = rw (l.2, h.kept_is, h.spoken_is, h.config_is, h.now_is, own, l.6); due_is = rw (l.2, h.kept_is, h.spoken_is, h.config_is, h.now_is, own, l.6); now_is = h.now_is; spoken_is = h.spoken_is; config_is = h.config_is; link = (l.0, refl, refl, sym l.5, l.4, l.5) })
    (λ other. record { kept_is = rw (l.2, other); due_is = rw (l.2, other, h.due_is); now_is = h.now_is; spoken_is = h.spoken_is; config_is = h.config_is; link = l.0 })
answering_unit r a (EndOfData0 session serial) items is h l = either (λ n. After n (EndOfData0 session serial) items) (session == a.session)
    (commit a (record { version = r.spoken; session = session; serial = serial; moment = r.now; intervals = r.config.intervals }) r) (fails (EndOfData0 session serial) r)
    (λ own. record { kept_is = rw (l.2, h.kept_is, h.spoken_is, h.config_is, h.now_is, own, l.6); due_is = rw (l.2, h.kept_is, h.spoken_is, h.config_is, h.now_is, own, l.6); now_is = h.now_is; spoken_is = h.spoken_is; config_is = h.config_is; link = (l.0, refl, refl, sym l.5, l.4, l.5) })
    (λ other. record { kept_is = rw (l.2, other); due_is = rw (l.2, other, h.due_is); now_is = h.now_is; spoken_is = h.spoken_is; config_is = h.config_is; link = l.0 })
answering_unit r a (ErrorReport e) items is h l = told_unit r a.question e items l.5 l.0 h (λ i. question_of (l.2 i) (l.1 i)) l.4
answering_unit r a u items is h l = record { kept_is = simp (l.1, h.kept_is); due_is = h.due_is; now_is = h.now_is; spoken_is = h.spoken_is; config_is = h.config_is; link = l.0 }

-- every PDU
pub live_unit : (r : Router) (l : Link) (u : Unit) (items : List Item) → is_reading l ≡ true → r.link ≡ l → Before r items → LinkTells l r.agreed r.session r.table items → After (on_unit l u r) u items
live_unit r Closed u items live is h t = absurd (let e : false ≡ true = live in cc)
live_unit r (Ended end) u items live is h t = absurd (let e : false ≡ true = live in cc)
live_unit r Idle u items live is h t = idle_unit r u items is h t
live_unit r (Asked q) u items live is h t = asked_unit r q u items is h t
live_unit r (Answering a) u items live is h t = answering_unit r a u items is h t

-- A link that is not closed has a connection.
pub connected : (l : Link) (agreed : Bool) (session : Option ℕ) (table : VrpSet) (items : List Item) → is_closed l ≡ false → LinkTells l agreed session table items → is_connected items ≡ true
connected Closed agreed session table items open_so t = false_true (sym open_so)
connected (Ended end) agreed session table items open_so t = t
connected _ agreed session table items open_so t = t.0

-- what a call adds is before the transcript
pub record Adds (n : Noted) (items : List Item) : Type 0 where
  pub tells : Tells n.router (n.items ++ items)

reads_adds : (r : Router) (u : Unit) (items : List Item) → is_reading r.link ≡ true → r.out ≡ [] → Tells r items → Adds (reads u r) items
reads_adds r u items live none t =
    let after = live_unit r r.link u items live refl (record { kept_is = t.kept_is; due_is = t.due_is; now_is = t.now_is; spoken_is = t.spoken_is; config_is = t.config_is; none = none }) t.link in
    record { tells = subst (λ x. Tells (on_unit r.link u r) x) (sym (append_assoc (asked_by (on_unit r.link u r).link (on_unit r.link u r).out) (Reads u ∷ []) items)) after }

pub bytes_add : (memory : Bool) (bytes : List ℕ) (r : Router) (j : Judgement) (items : List Item) → is_reading r.link ≡ true → r.out ≡ [] → Tells r items → Adds (with_bytes memory bytes r j) items
bytes_add memory bytes r Begins items live none t = record { tells = record { kept_is = t.kept_is; due_is = t.due_is; now_is = t.now_is; spoken_is = t.spoken_is; config_is = t.config_is; link = t.link } }
bytes_add memory bytes r (Faulty fault) items live none t =
    record { tells = record { kept_is = t.kept_is; due_is = t.due_is; now_is = t.now_is; spoken_is = t.spoken_is; config_is = t.config_is; link = connected r.link r.agreed r.session r.table items (reading_open_so r.link live) t.link } }
bytes_add memory bytes r (Whole u) items live none t = by_whole (λ n. Adds n items) memory bytes r u
    (record { tells = record { kept_is = t.kept_is; due_is = t.due_is; now_is = t.now_is; spoken_is = t.spoken_is; config_is = t.config_is; link = connected r.link r.agreed r.session r.table items (reading_open_so r.link live) t.link } })
    (reads_adds (record r { held = [] }) u items live none (record { kept_is = t.kept_is; due_is = t.due_is; now_is = t.now_is; spoken_is = t.spoken_is; config_is = t.config_is; link = t.link }))
