-- A router holds what its transcript keeps.
use Rattle.rtr_ends.proofs.Words.{◌≡◌, ℕ, Bool, true, false, List, [], ◌∷◌, ◌++◌, Option, Some, None, if◌then◌else◌, refl, sym, ap, ◌∙◌, subst, rules, VrpSet, empty, false_of_not}
use Rattle.rtr_ends.specs.Cache.{is_none}
use Rattle.rtr_ends.specs.LinkRules.{Router, asking, ask}
use Rattle.rtr_ends.specs.Router.{Receiving, router_stops, router_byte, clocked, close, connects_at, closed_at, router_pulled, RouterCall, Connects, Receives, Pulls, Speaks, Configures, called, played}
use Rattle.rtr_ends.specs.declared.configuration.RouterConfig.{RouterConfig}
use Rattle.rtr_ends.specs.RouterLaws.{LinkTells, IsKept, RouterKeeps}
use Rattle.rtr_ends.specs.RouterLink.{Link, Closed, Idle, Answering, Ended, is_closed, is_due, is_idle}
use Rattle.rtr_ends.specs.Transcript.{choose, of_version, spoken, Question, AskReset, AskSerial, Item, At, Opened, Asks, Refused, Shut, Configured, configured, is_connected, moment, later, acts_once, base_of, is_serial, emptied_if, kept, is_over, sum_of, retry_of, due}
use Rattle.rtr_ends.proofs.CallSteps.{BytesKeep, StepsKeep, by_call, by_next, by_piece}
use Rattle.rtr_ends.proofs.TableLaws.{false_true}
use Rattle.rtr_ends.proofs.Effects.{by_clock, goes_on, nothing_out}
use Rattle.rtr_ends.proofs.KeptUnits.{holds, Tells, bytes_add, connected}

-- a piece
pub none_is : (out : List ℕ) → is_none out ≡ true → out ≡ []
none_is out h = nothing_out out h

abbrev MTells : Receiving → List Item → Type 0
MTells m items = Tells m.router (m.items ++ items)

bytes_keep : BytesKeep Tells
bytes_keep memory bytes r j items some live none t = (bytes_add memory bytes r j items live none t).tells

pub byte_tells : (m : Receiving) (b : ℕ) (items : List Item) → router_stops m.router ≡ false → MTells m items → MTells (router_byte m b) items
byte_tells m b items goes_on t = by_next Tells bytes_keep items m b goes_on t

-- the clock
at_link : (l : Link) (agreed : Bool) (session : Option ℕ) (table : VrpSet) (now : ℕ) (items : List Item) → LinkTells l agreed session table items → LinkTells l agreed session table (At now ∷ items)
at_link Closed agreed session table now items t = t
at_link _ agreed session table now items t = t

-- a configuration
configured_link : (l : Link) (agreed : Bool) (session : Option ℕ) (table : VrpSet) (config : RouterConfig) (items : List Item) → LinkTells l agreed session table items → LinkTells l agreed session table (Configured config ∷ items)
configured_link Closed agreed session table config items t = t
configured_link _ agreed session table config items t = t

-- an answer to a Reset Query is on nothing, whatever is emptied
pub same_base : (q : Question) (table : VrpSet) → is_serial (Some q) ≡ false → base_of q empty ≡ base_of q table
same_base AskReset table h = refl
same_base (AskSerial session serial) table h = absurd (let e : true ≡ false = h in cc)

empty_link : (l : Link) (agreed : Bool) (session : Option ℕ) (table : VrpSet) (items : List Item) → goes_on l ≡ true → LinkTells l agreed session table items → LinkTells l agreed session empty items
empty_link (Answering a) agreed session table items on t = (t.0, t.1, t.2, t.3, t.4, t.5, ap (λ base. acts_once base a.withdrawn a.announced) (same_base a.question table (false_of_not (is_serial (Some a.question)) on)) ∙ t.6)
empty_link _ agreed session table items on t = t

pub clocked_tells : (now : ℕ) (r : Router) (items : List Item) → Tells r items → Tells (clocked now r) (At now ∷ items)
clocked_tells now r items t = by_clock (λ n. Tells n (At now ∷ items)) now r
    (λ fresh. record { kept_is = kept_so false fresh; due_is = t.due_is; now_is = now_so; spoken_is = t.spoken_is; config_is = t.config_is; link = link })
    (λ over on. record { kept_is = kept_so true over; due_is = t.due_is; now_is = now_so; spoken_is = t.spoken_is; config_is = t.config_is; link = empty_link r.link r.agreed r.session r.table (At now ∷ items) on link })
    (λ over live open_so. record { kept_is = kept_so true over; due_is = t.due_is; now_is = now_so; spoken_is = t.spoken_is; config_is = t.config_is; link = connected r.link r.agreed r.session r.table items open_so t.link })
  where
    kept_so : (b : Bool) → is_over r.version (later r.now now) ≡ b → kept (At now ∷ items) ≡ emptied_if b (holds r)
    kept_so b is = (λ i. emptied_if (is_over (t.kept_is i).version (later (t.now_is i) now)) (t.kept_is i)) ∙ ap (λ x. emptied_if x (holds r)) is

    now_so : moment (At now ∷ items) ≡ later r.now now
    now_so = λ i. later (t.now_is i) now

    link : LinkTells r.link r.agreed r.session r.table (At now ∷ items)
    link = at_link r.link r.agreed r.session r.table now items t.link

-- a link that is closed
abbrev closed_by : Router → Router
closed_by r = record r { link = Closed; agreed = false; session = None; held = []; out = []; due = Some (sum_of r.now (retry_of r.config r.version)) }

-- what a close adds to what is due
abbrev closing_due : List Item → Option ℕ
closing_due items = if is_connected items then Some (sum_of (moment items) (retry_of (configured items) (kept items).version)) else due items

pub record Shuts (r : Router) (items : List Item) : Type 0 where
  pub kept_is : kept items ≡ holds r
  pub due_is : closing_due items ≡ r.due
  pub now_is : moment items ≡ r.now
  pub spoken_is : spoken items ≡ r.spoken
  pub config_is : configured items ≡ r.config
  pub closed : r.link ≡ Closed
  pub agreed : r.agreed ≡ false
  pub session : r.session ≡ None

closing : (l : Link) (r : Router) (items : List Item) → r.link ≡ l → Tells r items → LinkTells l r.agreed r.session r.table items → Shuts (if is_closed l then r else closed_by r) items
closing Closed r items is t l = record { kept_is = t.kept_is; due_is = ap (λ b. if b then Some (sum_of (moment items) (retry_of (configured items) (kept items).version)) else due items) l.0 ∙ t.due_is; now_is = t.now_is; spoken_is = t.spoken_is; config_is = t.config_is; closed = is; agreed = l.1; session = l.2 }
closing l r items is t h = record {
  kept_is = t.kept_is;
  due_is = rw (connected l r.agreed r.session r.table items refl h, t.now_is, t.kept_is, t.config_is);
  now_is = t.now_is;
  spoken_is = t.spoken_is;
  config_is = t.config_is;
  closed = refl;
  agreed = refl;
  session = refl;
}

shut_tells : (r : Router) (items : List Item) → Shuts r items → Tells r (Shut ∷ items)
shut_tells r items s = record { kept_is = s.kept_is; due_is = s.due_is; now_is = s.now_is; spoken_is = s.spoken_is; config_is = s.config_is; link = subst (λ x. LinkTells x r.agreed r.session r.table (Shut ∷ items)) (sym s.closed) (refl, s.agreed, s.session) }

opened_tells : (r : Router) (items : List Item) (q : Question) → Shuts r items → Tells (asking q (record r { spoken = r.speaks })) (Asks q ∷ Opened r.speaks ∷ items)
opened_tells r items q s = record { kept_is = s.kept_is; due_is = s.due_is; now_is = s.now_is; spoken_is = refl; config_is = s.config_is; link = (refl, refl, refl, sym s.agreed, sym s.session) }

-- an idle link asks
asks_tells : (l : Link) (r : Router) (items : List Item) → is_idle l ≡ true → Tells r items → LinkTells l r.agreed r.session r.table items → Tells (ask r) (Asks (choose (of_version r.spoken r.version) r.mark) ∷ items)
asks_tells Idle r items idle t h = record { kept_is = t.kept_is; due_is = t.due_is; now_is = t.now_is; spoken_is = t.spoken_is; config_is = t.config_is; link = (h.0, refl, refl, h.3, h.4) }
asks_tells _ r items idle t h = false_true idle

pub steps_tell : StepsKeep Tells
steps_tell = record {
  clock = clocked_tells;
  closes = λ r items t. shut_tells (close r) items (closing r.link r items refl t t.link);
  asks_it = λ r items idle t. asks_tells r.link r items idle t t.link;
}

pub not_due : (l : Link) (when : Option ℕ) (now : ℕ) → is_idle l ≡ false → is_due l when now ≡ false
not_due Closed when now h = refl
not_due (Ended end) when now h = refl
not_due Idle when now h = absurd (let e : true ≡ false = h in cc)
not_due _ when now h = refl

-- every call
pub called_tells : (call : RouterCall) (r : Router) (items : List Item) → Tells r items → Tells (called call r).router ((called call r).items ++ items)
unfolding connects_at router_pulled
called_tells (Connects now) r items t =
    let c = clocked_tells now r items t in
    opened_tells (close (clocked now r)) (At now ∷ items) (choose (of_version (close (clocked now r)).speaks (close (clocked now r)).version) (close (clocked now r)).mark) (closing (clocked now r).link (clocked now r) (At now ∷ items) refl c c.link)
called_tells (Receives now wanting piece) r items t = by_piece Tells clocked_tells bytes_keep now wanting piece r items t
called_tells (Pulls most) r items t = record { kept_is = t.kept_is; due_is = t.due_is; now_is = t.now_is; spoken_is = t.spoken_is; config_is = t.config_is; link = t.link }
called_tells (Speaks version) r items t = record { kept_is = t.kept_is; due_is = t.due_is; now_is = t.now_is; spoken_is = t.spoken_is; config_is = t.config_is; link = t.link }
called_tells (Configures config) r items t = record { kept_is = t.kept_is; due_is = t.due_is; now_is = t.now_is; spoken_is = t.spoken_is; config_is = refl; link = configured_link r.link r.agreed r.session r.table config items t.link }
called_tells call r items t = by_call Tells steps_tell call refl r items t

pub new_tells : Tells (played []).router (played []).items
new_tells = record { kept_is = refl; due_is = refl; now_is = refl; spoken_is = refl; config_is = refl; link = (refl, refl, refl) }

pub played_tells : (calls : List RouterCall) → Tells (played calls).router (played calls).items
played_tells [] = new_tells
played_tells (call ∷ calls) = called_tells call (played calls).router (played calls).items (played_tells calls)

pub is_kept : (r : Router) (items : List Item) → Tells r items → IsKept r items
is_kept r items t = record { table = ap (λ k. k.table) (sym t.kept_is); before = ap (λ k. k.before) (sym t.kept_is); version = ap (λ k. k.version) (sym t.kept_is); due = sym t.due_is; now = sym t.now_is; spoken = sym t.spoken_is; config = sym t.config_is; link = t.link }

-- What a router holds is what its transcript keeps.
pub router_keeps : RouterKeeps
router_keeps calls = is_kept (played calls).router (played calls).items (played_tells calls)

-- A refused event that is noted changes nothing of a closed link, and of no link that is closed then.
pub refused_closed : (r : Router) (items : List Item) → r.link ≡ Closed → Tells r items → Tells r (Refused ∷ items)
refused_closed r items is t = search rules

pub refused_closes : (now : ℕ) (r : Router) (items : List Item) → Tells r items → Tells (closed_at now r).router ((closed_at now r).items ++ Refused ∷ items)
unfolding closed_at
refused_closes now r items t =
    let c = clocked_tells now r items t in
    let s = closing (clocked now r).link (clocked now r) (At now ∷ items) refl c c.link in
    shut_tells (close (clocked now r)) (At now ∷ Refused ∷ items) (record { kept_is = s.kept_is; due_is = s.due_is; now_is = s.now_is; spoken_is = s.spoken_is; config_is = s.config_is; closed = s.closed; agreed = s.agreed; session = s.session })

-- A router is closed then.
pub closed_so : (now : ℕ) (r : Router) (items : List Item) → Tells r items → (closed_at now r).router.link ≡ Closed
unfolding closed_at
closed_so now r items t = let c = clocked_tells now r items t in (closing (clocked now r).link (clocked now r) (At now ∷ items) refl c c.link).closed
