-- A router's questions are those that its transcript calls for.
use Rattle.rtr_ends.proofs.Words.{◌≡◌, ◌⊎◌, ℕ, Bool, true, false, not, ◌&&◌, ◌||◌, ◌==◌, nat_lt, List, [], ◌∷◌, ◌++◌, Some, None, ⊤, refl, sym, ap, ◌∙◌, subst, append_assoc, inl, inr, has, size, Begins, Whole, Faulty, Unit, Prefix, EndOfData, EndOfData0, CacheReset}
use Rattle.rtr_ends.specs.Answer.{sent}
use Rattle.rtr_ends.specs.Configuration.{limit_of}
use Rattle.rtr_ends.specs.LinkRules.{Router, asking, on_unit, staged}
use Rattle.rtr_ends.specs.Router.{RouterCall, Connects, Receives, Pulls, Speaks, Configures, called, played, clocked, close, connects_at, router_pulled, asked_by, reads}
use Rattle.rtr_ends.specs.RouterLaws.{RouterAsks, LinkTells}
use Rattle.rtr_ends.specs.RouterLink.{Link, Closed, Idle, Asked, Answering, Ended, is_idle, is_reading}
use Rattle.rtr_ends.specs.Transcript.{Question, AskReset, AskSerial, AsksRightly, Begun, Item, At, Opened, Reads, acts_once, acts_wrongly, base_of, choose, does_commit, is_among, kept, later, led_to, marked, next_question, of_version, query, spoken, under_way}
use Rattle.rtr_ends.proofs.Effects.{acts, by_clock, by_close, by_unit, by_whole, either, put_by}
use Rattle.rtr_ends.proofs.KeptUnits.{Tells, bytes_add, holds}
use Rattle.rtr_ends.proofs.KeptLaws.{called_tells, clocked_tells, new_tells, steps_tell}
use Rattle.rtr_ends.proofs.CallSteps.{BytesKeep, StepsKeep, by_call, by_piece}
use Rattle.rtr_ends.proofs.TableLaws.{false_true}

-- The mark is the one of the transcript, if something is committed.
abbrev MarkTells : Router → List Item → Type 0
MarkTells r items = (r.version ≡ None) ⊎ (marked items ≡ r.mark)

choose_same : (r : Router) (items : List Item) → kept items ≡ holds r → spoken items ≡ r.spoken → MarkTells r items
    → choose (of_version r.spoken r.version) r.mark ≡ choose (of_version (spoken items) (kept items).version) (marked items)
choose_same r items k s (inl none) = rw (s, k, none)
choose_same r items k s (inr e) = rw (s, k, e)

-- the question that a PDU made a router put
abbrev Puts : Unit → Router → Link → List ℕ → Type 0
Puts u n (Asked q) (b ∷ out) = q ≡ put_by u n
Puts u n link out = ⊤

record UnitAsks (u : Unit) (n : Router) (later : List Item) : Type 0 where
  pub mark : MarkTells n later
  pub puts : Puts u n n.link n.out

-- nothing is put if nothing is pending
puts_none : (u : Unit) (n : Router) (l : Link) (out : List ℕ) → out ≡ [] → Puts u n l out
puts_none u n (Asked q) (b ∷ out) e = absurd (let h : b ∷ out ≡ [] = e in cc)
puts_none u n _ _ e = tt

-- a question that is put
puts_it : (u : Unit) (n : Router) (q : Question) → q ≡ put_by u n → Puts u n (Asked q) (sent n.spoken (query q))
puts_it u n AskReset e = e
puts_it u n (AskSerial session serial) e = e

-- the router stays as it was, but for what is no question
quiet : (u : Unit) (n : Router) (later : List Item) → n.out ≡ [] → MarkTells n later → UnitAsks u n later
quiet u n later none m = record { mark = m; puts = puts_none u n n.link n.out none }

-- what is read
abbrev After : Unit → Router → List Item → Type 0
After u n items = UnitAsks u n (Reads u ∷ items)

-- a PDU that stages and commits nothing, and leaves the mark
quiet_asks : (l : Link) (u : Unit) (r : Router) (items : List Item) → acts l u ≡ false → marked (Reads u ∷ items) ≡ marked items → r.out ≡ [] → MarkTells r items → After u (on_unit l u r) items
quiet_asks l u r items none_acts same none m = by_unit (λ n. After u n items) l u r (record {
  stays = quiet u r (Reads u ∷ items) none mark;
  asks = λ agreed h. record { mark = mark; puts = puts_it u (asking (put_by u r) (record r { agreed = agreed })) (put_by u r) (put_same u agreed) };
  begins = λ q session. quiet u (record r { agreed = true; session = Some session; link = Answering (record { question = q; session = session; withdrawn = []; announced = [] }) }) (Reads u ∷ items) none mark;
  reported = record { mark = mark; puts = tt };
  failed = record { mark = inl refl; puts = tt };
  waits = λ agreed h. record { mark = mark; puts = tt };
  told = λ agreed h code. record { mark = mark; puts = tt };
  empties = λ agreed h code. record { mark = inl refl; puts = tt };
  stages = λ on. false_true (sym none_acts ∙ on);
  wrong = λ on. false_true (sym none_acts ∙ on);
  over = λ on. false_true (sym none_acts ∙ on);
  commits = λ on. false_true (sym none_acts ∙ on);
})
  where
    put_same : (u : Unit) (agreed : Bool) → put_by u r ≡ put_by u (asking (put_by u r) (record r { agreed = agreed }))
    put_same CacheReset agreed = refl
    put_same _ agreed = refl

    mark : MarkTells r (Reads u ∷ items)
    mark = subst (λ b. (r.version ≡ None) ⊎ (b ≡ r.mark)) (sym same) m

-- No answer is under way: the mark stays.
mark_stays : (u : Unit) (items : List Item) → under_way items ≡ None → marked (Reads u ∷ items) ≡ marked items
mark_stays (Prefix announce v) items w = ap (λ o. acts_wrongly o (kept items).table announce v || marked items) w
mark_stays (EndOfData session serial refresh retry expire) items w = ap (λ o. not (does_commit o session (kept items).table) && marked items) w
mark_stays (EndOfData0 session serial) items w = ap (λ o. not (does_commit o session (kept items).table) && marked items) w
mark_stays _ items w = refl

answering_asks : (a : Begun) (u : Unit) (r : Router) (items : List Item) → r.out ≡ [] → under_way items ≡ Some a → kept items ≡ holds r → acts_once (base_of a.question r.table) a.withdrawn a.announced ≡ true → MarkTells r items
    → After u (on_unit (Answering a) u r) items
unfolding on_unit
answering_asks a (Prefix false v) r items none w k once m =
    either (λ s. After (Prefix false v) (staged (Prefix false v) s r) items) (has (base_of a.question r.table) v && not (is_among v a.withdrawn)) _ _
    (λ one. record { mark = rw (w, k, one) m; puts = tt }) (λ wrong. record { mark = inr (rw (w, k, wrong)); puts = tt })
answering_asks a (Prefix true v) r items none w k once m =
    either (λ s. After (Prefix true v) (staged (Prefix true v) s r) items) (has (base_of a.question r.table) v || is_among v a.announced) _ _
    (λ wrong. record { mark = inr (rw (w, k, wrong)); puts = tt })
    (λ new. either (λ s. After (Prefix true v) (staged (Prefix true v) s r) items) (nat_lt (limit_of r.config) (size (led_to (base_of a.question r.table) a.withdrawn (v ∷ a.announced)))) _ _
    (λ much. record { mark = rw (w, k, new) m; puts = tt }) (λ fits. record { mark = rw (w, k, new) m; puts = tt }))
answering_asks a (EndOfData session serial refresh retry expire) r items none w k once m = either (λ n. After (EndOfData session serial refresh retry expire) n items) (session == a.session) _ _
    (λ own. record { mark = inr (rw (w, k, own, once)); puts = tt }) (λ other. record { mark = inl refl; puts = tt })
answering_asks a (EndOfData0 session serial) r items none w k once m = either (λ n. After (EndOfData0 session serial) n items) (session == a.session) _ _
    (λ own. record { mark = inr (rw (w, k, own, once)); puts = tt }) (λ other. record { mark = inl refl; puts = tt })
answering_asks a u r items none w k once m = quiet_asks (Answering a) u r items refl refl none m

unit_asks : (l : Link) (u : Unit) (r : Router) (items : List Item) → is_reading l ≡ true → r.out ≡ [] → kept items ≡ holds r → LinkTells l r.agreed r.session r.table items → MarkTells r items → After u (on_unit l u r) items
unit_asks Closed u r items live none k t m = false_true live
unit_asks (Ended end) u r items live none k t m = false_true live
unit_asks Idle u r items live none k t m = quiet_asks Idle u r items refl (mark_stays u items t.2) none m
unit_asks (Asked q) u r items live none k t m = quiet_asks (Asked q) u r items refl (mark_stays u items t.2) none m
unit_asks (Answering a) u r items live none k t m = answering_asks a u r items none t.2 k t.6 m

-- a link that is idle did not read a Cache Reset last
abbrev is_reset : List Item → Bool
is_reset (Reads CacheReset ∷ items) = true
is_reset items = false

next_is : (items : List Item) → is_reset items ≡ false → next_question items ≡ choose (of_version (spoken items) (kept items).version) (marked items)
next_is (Reads CacheReset ∷ items) h = false_true (sym h)
next_is _ h = refl

reset_ends : (l : Link) (r : Router) → is_reading l ≡ true → is_idle (on_unit l CacheReset r).link ≡ false
unfolding on_unit
reset_ends Closed r live = false_true live
reset_ends (Ended end) r live = false_true live
reset_ends (Asked AskReset) r live = refl
reset_ends _ r live = refl

-- what is known of a router's questions
record Chooses (r : Router) (items : List Item) : Type 0 where
  pub tells : Tells r items
  pub mark : MarkTells r items
  pub asked : AsksRightly items
  pub not_reset : is_idle r.link ≡ true → is_reset items ≡ false

-- what a PDU adds
asked_so : (u : Unit) (n : Router) (items : List Item) (l : Link) (out : List ℕ) → kept (asked_by l out ++ Reads u ∷ items) ≡ holds n → spoken (asked_by l out ++ Reads u ∷ items) ≡ n.spoken → MarkTells n (Reads u ∷ items) → Puts u n l out → AsksRightly items → AsksRightly (asked_by l out ++ Reads u ∷ items)
asked_so u n items (Asked q) (b ∷ out) k s m p a = (by_unit u k s m p, a)
  where
    by_unit : (v : Unit) → kept (Reads v ∷ items) ≡ holds n → spoken (Reads v ∷ items) ≡ n.spoken → MarkTells n (Reads v ∷ items) → q ≡ put_by v n → q ≡ next_question (Reads v ∷ items)
    by_unit CacheReset k s m p = p
    by_unit v k s m p = p ∙ choose_same n (Reads v ∷ items) k s m
asked_so u n items _ _ k s m p a = a

-- the mark beside a question
asked_mark : (n : Router) (items : List Item) (l : Link) (out : List ℕ) → MarkTells n items → MarkTells n (asked_by l out ++ items)
asked_mark n items (Asked q) (b ∷ out) m = m
asked_mark n items _ _ m = m

-- what is idle asked nothing
idle_so : (l : Link) (out : List ℕ) (u : Unit) (items : List Item) → is_idle l ≡ true → is_reset (Reads u ∷ items) ≡ false → is_reset (asked_by l out ++ Reads u ∷ items) ≡ false
idle_so Idle out u items h e = e
idle_so _ out u items h e = false_true h

not_reset_unit : (r : Router) (u : Unit) (items : List Item) → is_reading r.link ≡ true → is_idle (on_unit r.link u r).link ≡ true → is_reset (Reads u ∷ items) ≡ false
not_reset_unit r CacheReset items live idle = false_true (sym (reset_ends r.link r live) ∙ idle)
not_reset_unit r u items live idle = refl

reads_choose : (r : Router) (u : Unit) (items : List Item) → is_reading r.link ≡ true → r.out ≡ [] → Chooses r items → Tells (reads u r).router ((reads u r).items ++ items) → Chooses (reads u r).router ((reads u r).items ++ items)
reads_choose r u items live none c tells = record { tells = tells; mark = mark; asked = asked; not_reset = not_reset }
  where
    n : Router
    n = on_unit r.link u r

    did : UnitAsks u n (Reads u ∷ items)
    did = unit_asks r.link u r items live none c.tells.kept_is c.tells.link c.mark

    later_is : (asked_by n.link n.out ++ Reads u ∷ []) ++ items ≡ asked_by n.link n.out ++ Reads u ∷ items
    later_is = append_assoc (asked_by n.link n.out) (Reads u ∷ []) items

    mark : MarkTells n ((asked_by n.link n.out ++ Reads u ∷ []) ++ items)
    mark = subst (λ x. MarkTells n x) (sym later_is) (asked_mark n (Reads u ∷ items) n.link n.out did.mark)

    asked : AsksRightly ((asked_by n.link n.out ++ Reads u ∷ []) ++ items)
    asked = subst (λ x. AsksRightly x) (sym later_is) (asked_so u n items n.link n.out (ap kept (sym later_is) ∙ tells.kept_is) (ap spoken (sym later_is) ∙ tells.spoken_is) did.mark did.puts c.asked)

    not_reset : is_idle n.link ≡ true → is_reset ((asked_by n.link n.out ++ Reads u ∷ []) ++ items) ≡ false
    not_reset idle = ap is_reset later_is ∙ idle_so n.link n.out u items idle (not_reset_unit r u items live idle)

-- bytes, as they are judged
bytes_choose : BytesKeep Chooses
bytes_choose memory bytes r Begins items some live none c = record { tells = (bytes_add memory bytes r Begins items live none c.tells).tells; mark = c.mark; asked = c.asked; not_reset = c.not_reset }
bytes_choose memory bytes r (Faulty fault) items some live none c = record { tells = (bytes_add memory bytes r (Faulty fault) items live none c.tells).tells; mark = c.mark; asked = c.asked; not_reset = λ h. false_true h }
bytes_choose memory bytes r (Whole u) items some live none c = by_whole (λ n. Tells n.router (n.items ++ items) → Chooses n.router (n.items ++ items)) memory bytes r u
    (λ tells. record { tells = tells; mark = c.mark; asked = c.asked; not_reset = λ h. false_true h })
    (λ tells. reads_choose (record r { held = [] }) u items live none
    (record { tells = record { kept_is = c.tells.kept_is; due_is = c.tells.due_is; now_is = c.tells.now_is; spoken_is = c.tells.spoken_is; config_is = c.tells.config_is; link = c.tells.link }; mark = c.mark; asked = c.asked; not_reset = c.not_reset }) tells)
    (bytes_add memory bytes r (Whole u) items live none c.tells).tells

-- the clock
clocked_mark : (now : ℕ) (r : Router) (items : List Item) → MarkTells r items → MarkTells (clocked now r) (At now ∷ items)
clocked_mark now r items m = by_clock (λ n. MarkTells n (At now ∷ items)) now r (λ holds. m) (λ over on. inl refl) (λ over live open_so. inl refl)

clocked_chooses : (now : ℕ) (r : Router) (items : List Item) → Chooses r items → Chooses (clocked now r) (At now ∷ items)
clocked_chooses now r items c = record { tells = clocked_tells now r items c.tells; mark = clocked_mark now r items c.mark; asked = c.asked; not_reset = λ h. refl }

-- a link that is closed
close_mark : (r : Router) (items : List Item) → MarkTells r items → MarkTells (close r) items
close_mark r items m = by_close (λ n. MarkTells n items) r (λ is. m) (λ is. m)

steps_choose : StepsKeep Chooses
steps_choose = record {
  clock = clocked_chooses;
  closes = λ r items c. record { tells = steps_tell.closes r items c.tells; mark = close_mark r items c.mark; asked = c.asked; not_reset = λ h. refl };
  asks_it = λ r items idle c. record {
    tells = steps_tell.asks_it r items idle c.tells;
    mark = c.mark;
    asked = (choose_same r items c.tells.kept_is c.tells.spoken_is c.mark ∙ sym (next_is items (c.not_reset idle)), c.asked);
    not_reset = λ h. false_true h;
  };
}

called_chooses : (call : RouterCall) (r : Router) (items : List Item) → Chooses r items → Chooses (called call r).router ((called call r).items ++ items)
unfolding connects_at router_pulled
called_chooses (Connects now) r items c =
    let k = clocked_chooses now r items c in
    let m = close_mark (clocked now r) (At now ∷ items) k.mark in
    let tells = called_tells (Connects now) r items c.tells in
    record {
      tells = tells;
      mark = m;
      asked = (choose_same (record (close (clocked now r)) { spoken = (close (clocked now r)).speaks }) (Opened (close (clocked now r)).speaks ∷ At now ∷ items) tells.kept_is refl m, c.asked);
      not_reset = λ h. false_true h;
    }
called_chooses (Receives now wanting piece) r items c = by_piece Chooses clocked_chooses bytes_choose now wanting piece r items c
called_chooses (Pulls most) r items c = record { tells = called_tells (Pulls most) r items c.tells; mark = c.mark; asked = c.asked; not_reset = c.not_reset }
called_chooses (Speaks version) r items c = record { tells = called_tells (Speaks version) r items c.tells; mark = c.mark; asked = c.asked; not_reset = c.not_reset }
called_chooses (Configures config) r items c = record { tells = called_tells (Configures config) r items c.tells; mark = c.mark; asked = c.asked; not_reset = λ h. refl }
called_chooses call r items c = by_call Chooses steps_choose call refl r items c

played_choose : (calls : List RouterCall) → Chooses (played calls).router (played calls).items
played_choose [] = record { tells = new_tells; mark = inl refl; asked = tt; not_reset = λ h. false_true h }
played_choose (call ∷ calls) = called_chooses call (played calls).router (played calls).items (played_choose calls)

-- A router's questions are those that its transcript calls for.
pub router_asks : RouterAsks
router_asks calls =
    let c = played_choose calls in
    record { next = choose_same (played calls).router (played calls).items c.tells.kept_is c.tells.spoken_is c.mark; asked = c.asked }
