-- What is on its way to a router is at most one answer, after every list of events.
use Rattle.rtr_world.proofs.Words.{◌≡◌, ◌⊎◌, ℕ, Bool, true, false, List, [], ◌∷◌, ◌++◌, Option, Some, None, IsSome, refl, take, ⊤, sym, ap, ◌∙◌, subst, inl, inr, append_assoc, Instance, VrpSet, Unit, Version, SerialNotify, Prefix, answer, Conn, LinkTells, Link, Closed, Idle, Asked, Answering, Ended, is_closed, is_reading, is_due, is_idle, AskReset, AskSerial, Begun, Committed, Question, base_of, of_version, query, under_way, Item, At, Reads, Shut, Router, on_unit, asked_by, clocked, close, asks_if, connects_at, closed_at, ticks_at, asks, router_pulled, Connects, Closes, called, Ticks, Receives, AsksNow, RouterCall, false_true, Configures}
use Rattle.rtr_world.specs.Claims.{OneAnswerAlways}
use Rattle.rtr_world.specs.OneAnswer.{Between, ComesOn, Fits, IfResponse, IsAnswer, IsReply, IsWholeAnswer, LeadsToPublished, OneAnswer, WasSo, answered, units_in, without_notifies}
use Rattle.rtr_world.specs.World.{Side, World, instances, is_ended, timing, noted, router_restarts, tell_closed}
use Rattle.rtr_world.proofs.WorldSteps.{Known, history_known, history_keeps, KeptAlways, received}
use Rattle.rtr_world.proofs.Invariant.{FromCache, Flow, Good, GoodLink, IfOpen, OfAnswer, OneReply, Open, QuestionFits, Replies, Shape, WasCache, no_data, not_kept, other_session, no_memory, read_of, records_of, response}
use Rattle.rtr_world.proofs.Rests.{Rests, history_rests}
use Rattle.rtr_world.proofs.SideLaws.{all_both, all_weaker}
use Rattle.rtr_world.proofs.SideSteps.{live_of}
use Rattle.rtr_world.proofs.KeptTables.{SideTells}
use Rattle.rtr_world.proofs.Versions.{named_at, IsReadAt, IsSeen, Seen}
use Rattle.rtr_world.proofs.RouterCases.{asks_by, clocked_by}
use Rattle.rtr_world.proofs.UnitCases.{Brings, goes_on, ends_other, ends_memory, commits, stays, begins, stages, leaves, is_answering}
use Rattle.rtr_world.proofs.EventCalls.{refused_at, IsOwnCall, told_closes, closes}

-- What was read of an answer is what its transcript says.
-- what was read of the answer that is under way
abbrev pub ReadsSo : Link → List Item → Type 0
ReadsSo (Answering a) items = answered items ≡ read_of a
ReadsSo _ items = ⊤

reads_none : (l : Link) (items : List Item) → is_answering l ≡ false → ReadsSo l items
reads_none (Answering a) items h = absurd (let e : true ≡ false = h in cc)
reads_none _ items h = tt

notify_reads : (l : Link) (out : List ℕ) (items : List Item) (session serial : ℕ) → ReadsSo l items → ReadsSo l (asked_by l out ++ Reads (SerialNotify session serial) ∷ items)
notify_reads (Answering a) out items session serial h = h
notify_reads _ out items session serial h = tt

module _ (all : List Instance) where
  -- a PDU is read
  unit_reads : (h : Seen) (r : Router) (u : Unit) (items : List Item) → ReadsSo r.link items → Brings all h r r.link u (on_unit r.link u r)
      → ReadsSo (on_unit r.link u r).link (asked_by (on_unit r.link u r).link (on_unit r.link u r).out ++ Reads u ∷ items)
  unit_reads h r u items s (goes_on on none (stays session serial eu el)) =
      subst (λ x. ReadsSo x (asked_by x (on_unit r.link u r).out ++ Reads u ∷ items)) (sym el)
      (subst (λ v. ReadsSo r.link (asked_by r.link (on_unit r.link u r).out ++ Reads v ∷ items)) (sym eu) (notify_reads r.link (on_unit r.link u r).out items session serial s))
  unit_reads h r u items s (goes_on on none (begins q session eu el)) =
      subst (λ x. ReadsSo x (asked_by x (on_unit r.link u r).out ++ Reads u ∷ items)) (sym el) (ap (λ v. answered (Reads v ∷ items)) eu)
  unit_reads h r u items s (goes_on on none (stages a b announce v el eu ek e)) =
      subst (λ x. ReadsSo x (asked_by x (on_unit r.link u r).out ++ Reads u ∷ items)) (sym ek)
      (ap (λ v. answered (Reads v ∷ items)) eu ∙ ap (λ x. x ++ Prefix announce v ∷ []) (subst (λ x. ReadsSo x items) el s) ∙ sym e)
  unit_reads h r u items s (goes_on on none (leaves k)) = reads_none (on_unit r.link u r).link (asked_by (on_unit r.link u r).link (on_unit r.link u r).out ++ Reads u ∷ items) k
  unit_reads h r u items s (ends_other session serial is other e none) = subst (λ x. ReadsSo x (asked_by x (on_unit r.link u r).out ++ Reads u ∷ items)) (sym e) tt
  unit_reads h r u items s (ends_memory e none) = subst (λ x. ReadsSo x (asked_by x (on_unit r.link u r).out ++ Reads u ∷ items)) (sym e) tt
  unit_reads h r u items s (commits version table e v of own stands since) = subst (λ x. ReadsSo x (asked_by x (on_unit r.link u r).out ++ Reads u ∷ items)) (sym e) tt

-- the clock
at_so : (l : Link) (now : ℕ) (items : List Item) → ReadsSo l items → ReadsSo l (At now ∷ items)
at_so (Answering a) now items h = h
at_so _ now items h = tt

clocked_so : (now : ℕ) (r : Router) (items : List Item) → ReadsSo r.link items → ReadsSo (clocked now r).link (At now ∷ items)
clocked_so now r items h = clocked_by (λ k. ReadsSo k.link (At now ∷ items)) now r (at_so r.link now items h) (at_so r.link now items h) tt

asks_so : (r : Router) (b : Bool) (items : List Item) → ReadsSo r.link items → ReadsSo (asks_if b r).router.link ((asks_if b r).items ++ items)
asks_so r b items h = asks_by (λ n. ReadsSo n.router.link (n.items ++ items)) b r tt h

-- a link that is closed
closed_reads : (l : Link) (items : List Item) → is_closed l ≡ true → ReadsSo l items
closed_reads Closed items h = tt
closed_reads _ items h = false_true h

-- each event
abbrev pub SideReads : Side → Type 0
SideReads s = ReadsSo s.router.link s.items

gets_so : (w : World) (s : Side) (most : ℕ) (wanting : Option ℕ) → Known w s → SideReads s → SideReads (noted (instances w) (called (Receives s.router.now wanting (take most s.down)) s.router) s)
gets_so w s most wanting known h =
    received w s known (λ r items. ReadsSo r.link items) (λ r held items q. q) (λ r u items. tt) (λ e r u items is of t q brings. unit_reads (instances w) e r u items q brings) most wanting
    (clocked_so s.router.now s.router s.items h)

own_so : (w : World) (s : Side) (call : RouterCall) → IsOwnCall call → SideReads s → SideReads (noted (instances w) (called call s.router) s)
unfolding connects_at closed_at ticks_at asks router_pulled
own_so w s (Receives now wanting piece) own h = absurd own
own_so w s (Configures config) own h = absurd own
own_so w s (Connects now) own h = tt
own_so w s (Closes now) own h = closed_reads (close (clocked now s.router)).link (Shut ∷ At now ∷ s.items) (closes (clocked now s.router))
own_so w s AsksNow own h = asks_so s.router (is_idle s.router.link) s.items h
own_so w s (Ticks now) own h =
    let r : Router = clocked now s.router in
    let b : Bool = is_due r.link r.due r.now in
    subst (λ x. ReadsSo (asks_if b r).router.link x) (sym (append_assoc (asks_if b r).items (At now ∷ []) s.items)) (asks_so r b (At now ∷ s.items) (clocked_so now s.router s.items h))
own_so w s _ own h = h

anew_so : (s : Side) → SideReads s → SideReads (router_restarts s)
unfolding router_restarts
anew_so s h = tt

pub kept_reads : KeptAlways SideReads
kept_reads = record {
  new = tt;
  keeps = λ w. record {
    wires = λ s h conn up down home read. h;
    own = own_so w;
    gets = gets_so w;
    restart = anew_so;
    refused = λ s h. let t : Side = tell_closed (instances w) (refused_at s) in closed_reads t.router.link t.items (told_closes (instances w) (refused_at s));
  };
}

-- the instance of the connection
home_of : (keep : ℕ) (home : Option Instance) (h : Seen) → IsSeen keep home (Some h) → (home ≡ Some h.made) × (h.keep ≡ keep)
home_of keep None h s = absurd s
home_of keep (Some home) h s = (ap Some (sym s.0), s.1)

-- only a cut removes bytes
whole_of : (P : Conn → Type 0) (lost : List ℕ) (o : Option Conn) → ((c : Conn) → P c → lost ≡ []) → IfOpen o P → IsSome o → lost ≡ []
whole_of P lost None whole op some = false_true some
whole_of P lost (Some o) whole op some = whole o op

-- a question is of what is committed
fits_of : (session : ℕ) (q : Question) (version : Option Committed) → QuestionFits session q version → Fits q version
fits_of session AskReset version f = tt
fits_of session (AskSerial one serial) None f = f
fits_of session (AskSerial one serial) (Some version) f = f

module _ (w : World) (pv : Version) (h : Seen) (keeps : h.keep ≡ w.keep) where
  was_so : (cache : Instance) → WasCache (instances w) h cache → WasSo w h.made cache
  was_so cache was = record { since = was.since; latest = was.latest; found = was.found; until = was.until }

  answer_of : (q : Question) (units : List Unit) → FromCache (instances w) pv h q units → IsAnswer w pv h.made h.read q units
  answer_of q units f = record {
    cache = f.cache;
    was = was_so f.cache f.was;
    read_so = f.was.read;
    are = f.are ∙ ap (λ k. (answer pv f.cache k timing (query q)).units) keeps;
  }

  reply_of : (q : Question) (units : List Unit) → OneReply (instances w) pv h q units → IsReply w pv h.made h.read q units
  reply_of q units (inl f) = inl (answer_of q units f)
  reply_of q units (inr e) = inr (record { cache = e.0.cache; was = was_so e.0.cache e.0.was; read_so = e.0.was.read; takes = e.0.takes; are = e.1 })

  leads_of : (base : VrpSet) (a : Begun) (rest : List Unit) → a.session ≡ h.session → OfAnswer (instances w) pv h base a rest → IfResponse (instances w) pv base (read_of a ++ rest)
  leads_of base a rest e o =
      subst (λ s. LeadsToPublished (instances w) pv base s ((records_of false a.withdrawn ++ records_of true a.announced) ++ rest)) (sym e)
      (record { serial = o.serial; ends = o.ends; set = o.set; commits = o.commits; published = named_at (instances w) pv h.session o.serial o.set o.stands })

  response_of : (q : Question) (base : VrpSet) (rest : List Unit) → Replies (instances w) pv h q base rest → IfResponse (instances w) pv base rest
  response_of q base rest (no_data copy qe e) = subst (λ x. IfResponse (instances w) pv base x) (sym e) tt
  response_of q base rest (not_kept serial qe e) = subst (λ x. IfResponse (instances w) pv base x) (sym e) tt
  response_of q base rest (other_session session serial copy qe other e) = subst (λ x. IfResponse (instances w) pv base x) (sym e) tt
  response_of q base rest (no_memory e) = subst (λ x. IfResponse (instances w) pv base x) (sym e) tt
  response_of q base rest (response tail e own o) =
      subst (λ x. IfResponse (instances w) pv base x) (sym e) (leads_of base (record { question = q; session = h.session; withdrawn = []; announced = [] }) tail refl o)

  comes_on : (s : Side) (l : Link) (wanted rest : List Unit) → h.read ≡ s.read_at → s.router.spoken ≡ pv → s.router.link ≡ l → SideTells s → SideReads s → Shape (instances w) pv h l s.router.agreed s.router.version s.router.table wanted rest → ComesOn w h.made s l rest
  comes_on s Idle wanted rest at of is t k sh = sh.1
  comes_on s (Asked q) wanted rest at of is t k sh =
      subst (λ v. Fits q (of_version v s.router.version) × ((rest ≡ []) ⊎ IsWholeAnswer w v h.made s.read_at q s.router.table rest)) (sym of) (
        fits_of h.session q (of_version pv s.router.version) sh.0,
        elim (sh.1) [
          | inl x ↦ inl x.1
          | inr x ↦ inr (subst (λ y. IsReply w pv h.made y q rest) at (reply_of q rest x.2), response_of q (base_of q s.router.table) rest x.1)
        ],
      )
  comes_on s (Answering a) wanted rest at of is t k sh =
      let told : LinkTells (Answering a) s.router.agreed s.router.session s.router.table s.items = subst (λ x. LinkTells x s.router.agreed s.router.session s.router.table s.items) is t.tells.link in
      let read : answered s.items ≡ read_of a = subst (λ x. ReadsSo x s.items) is k in
      let o : OfAnswer (instances w) pv h (base_of a.question s.router.table) a rest = sh.4 in
      subst (λ v. Fits a.question (of_version v s.router.version) × (under_way s.items ≡ Some a) × IsWholeAnswer w v h.made s.read_at a.question s.router.table (answered s.items ++ rest)) (sym of) (
        fits_of h.session a.question (of_version pv s.router.version) sh.3,
        told.2,
        subst (λ x. IsWholeAnswer w pv h.made s.read_at a.question s.router.table (x ++ rest)) (sym read) (subst (λ y. IsReply w pv h.made y a.question (read_of a ++ rest)) at (inl (answer_of a.question (read_of a ++ rest) o.from)), leads_of (base_of a.question s.router.table) a rest sh.2 o),
      )
  comes_on s _ wanted rest at of is t k sh = tt

live_answer : (w : World) (s : Side) → is_reading s.router.link ≡ true → Good w.keep w.past w.present s → SideTells s → SideReads s → OneAnswer w s
live_answer w s live g t k =
    let l = live_of s.router.link (instances w) w.present g.seen s.router s.conn s.up s.down g.router.link live in
    let h : Seen = l.0 in
    let f : Flow (instances w) w.present h s.router s.conn s.up s.down = l.2 in
    let home = home_of w.keep s.home h (subst (λ x. IsSeen w.keep s.home x) l.1 g.is_seen) in
    record {
      home = h.made;
      home_is = home.0;
      coming = f.coming;
      lost = f.lost;
      bytes = f.downward.whole;
      part = f.downward.part;
      whole = whole_of (Open w.present s.router.spoken h s.router.out s.up f.wanted f.coming s.router.agreed f.lost) f.lost s.conn (λ o op. op.whole) f.open_at;
      notifies = f.notifies;
      rest = comes_on w s.router.spoken h home.1 s s.router.link f.wanted (without_notifies (units_in f.coming)) (subst (λ x. IsReadAt s.read_at x) l.1 g.is_read) refl refl t k f.shape;
    }

between : (w : World) (s : Side) → Good w.keep w.past w.present s → SideTells s → SideReads s → Rests s → Between w s s.router.link
between w s g t k rests = by_link s.router.link refl g.router.link
  where
    by_link : (l : Link) → s.router.link ≡ l → GoodLink (instances w) w.present g.seen l s.router s.conn s.up s.down → Between w s l
    by_link Closed is h = (h.0, h.3, rests.none_down (ap is_closed is))
    by_link (Ended end) is h = false_true (sym rests.link_on ∙ ap is_ended is)
    by_link _ is h = live_answer w s (ap is_reading is) g t k

-- One answer
pub one_answer : OneAnswerAlways
one_answer made history w leads =
    all_weaker (λ s. (Known w s × SideReads s) × Rests s) (λ s. Between w s s.router.link) w.sides (λ s k. between w s k.0.0.0 k.0.0.1 k.0.1 k.1)
    (all_both (λ s. Known w s × SideReads s) Rests w.sides (all_both (Known w) SideReads w.sides (history_known made history w leads) (history_keeps SideReads kept_reads made history w leads)) (history_rests made history w leads))
