-- Each link ends lawfully, each end is noted, also if an event is refused, and none is dropped.
use Rattle.rtr_world.proofs.Words.{◌≡◌, ℕ, true, false, List, [], ◌∷◌, ◌++◌, Option, Some, None, zero, suc, Bool, refl, take, ⊤, not, ◌&&◌, ◌==◌, AllByRecursion, sym, ap, ◌∙◌, subst, inl, inr, subst₂, append_assoc, Instance, Unit, Judgement, Begins, Whole, Faulty, judge, type_of, End, Noted, called, RouterCall, clocked, close, closed_at, Connects, Receives, Pulls, Closes, AsksNow, Ticks, Speaks, router_pulled, asked_by, asks_if, connects_at, ticks_at, asks, receives, of_received, Receiving, router_byte, router_stops, with_bytes, Link, Ended, Asked, is_due, is_idle, outstanding, spoken, Item, Question, AskSerial, At, Reads, question_of, Router, on_unit, may_lack, LinkTells, counted, finds_memory, feed, Tells, feed_keeps, and_parts, false_true, by_unit, either, option_map, Configures}
use Rattle.rtr_world.specs.World.{Ending, Side, World, instances, SideEvent, is_ended, ending_at, newly_ended, noted, outstanding_before_last, router_restarts, cut, side_part, side_refused, side_step, with_end, Publish, Restart, On, cache_gone, settle, tell_closed, RouterGets, Event}
use Rattle.rtr_world.specs.Claims.{EndsNoted, NotesEnds, EndsKept, NoneDropped, OneMore, IsLawfulEnd, OfAnother, LawfulEnds, NamesNone, NoneByMemory, NotByMemory}
use Rattle.rtr_world.specs.History.{Done, Memory, Outcome, Entry, LeadsFrom, after, side_at}
use Rattle.rtr_world.proofs.SideLaws.{after_at, all_weaker, all_new, side_after}
use Rattle.rtr_world.proofs.Rests.{Rests, history_rests}
use Rattle.rtr_world.proofs.EventCalls.{IfComes, Rewired, told_by, each_after, call_of, lesser, part_by, after_call, step_by, closed_by, settle_keeps, KeptByCalls, refused_at, IsOwnCall, closed_link}
use Rattle.rtr_world.proofs.RouterCases.{asks_by, clocked_by, close_by, none_counted}
use Rattle.rtr_world.proofs.WorldSteps.{Known, always_kept, received, first}
use Rattle.rtr_world.proofs.UnitCases.{Brings, goes_on, ends_other, ends_memory, commits}
use Rattle.rtr_world.proofs.Versions.{Seen, IsSeen}

-- Each link ends lawfully.
-- a link that ended did so lawfully, at the last item
abbrev pub LawfulLink : Link → List Item → Option Instance → Type 0
LawfulLink (Ended end) items home = IsLawfulEnd end (outstanding_before_last items) (spoken items) home
LawfulLink _ items home = ⊤

lawful_on : (l : Link) (items : List Item) (home : Option Instance) → is_ended l ≡ false → LawfulLink l items home
lawful_on (Ended end) items home on = absurd (let e : true ≡ false = on in cc)
lawful_on _ items home on = tt

-- an outstanding question is the link's
asked_is : (r : Router) (items : List Item) (q : Question) → r.link ≡ Asked q → Tells r items → outstanding items ≡ Some q
asked_is r items q is t =
    let l : LinkTells (Asked q) r.agreed r.session r.table items = subst (λ x. LinkTells x r.agreed r.session r.table items) is t.link in
    λ i. question_of (l.2 i) (l.1 i)

-- the session of the connection
other_session : (keep : ℕ) (home : Option Instance) (h : Seen) (session serial : ℕ) → IsSeen keep home (Some h) → (session ≡ h.session → ⊥) → OfAnother (Some (AskSerial session serial)) h.version home
other_session keep None h session serial s other = absurd s
other_session keep (Some home) h session serial s other = λ e. other (e ∙ sym s.2)

module _ (all : List Instance) (keep : ℕ) (home : Option Instance) (seen : Option Seen) (is_seen : IsSeen keep home seen) where
  -- a PDU is read
  unit_lawful : (h : Seen) (r : Router) (u : Unit) (items : List Item) → seen ≡ Some h → h.version ≡ r.spoken → Tells r items → Brings all h r r.link u (on_unit r.link u r)
      → LawfulLink (on_unit r.link u r).link (asked_by (on_unit r.link u r).link (on_unit r.link u r).out ++ Reads u ∷ items) home
  unit_lawful h r u items eh of t (goes_on on none c) = lawful_on (on_unit r.link u r).link (asked_by (on_unit r.link u r).link (on_unit r.link u r).out ++ Reads u ∷ items) home on
  unit_lawful h r u items eh of t (ends_other session serial is other e none) =
      subst (λ l. LawfulLink l (asked_by l (on_unit r.link u r).out ++ Reads u ∷ items) home) (sym e)
      (subst₂ (λ o v. OfAnother o v home) (sym (asked_is r items (AskSerial session serial) is t)) (of ∙ sym t.spoken_is) (other_session keep home h session serial (subst (λ x. IsSeen keep home x) eh is_seen) other))
  unit_lawful h r u items eh of t (ends_memory e none) = subst (λ l. LawfulLink l (asked_by l (on_unit r.link u r).out ++ Reads u ∷ items) home) (sym e) tt
  unit_lawful h r u items eh of t (commits version table e v of_it own stands since) = lawful_on (on_unit r.link u r).link (asked_by (on_unit r.link u r).link (on_unit r.link u r).out ++ Reads u ∷ items) home (ap is_ended e)

-- the clock
clocked_lawful : (now : ℕ) (r : Router) (items : List Item) (home : Option Instance) → is_ended r.link ≡ false → LawfulLink (clocked now r).link items home
clocked_lawful now r items home on = clocked_by (λ k. LawfulLink k.link items home) now r (lawful_on r.link items home on) (lawful_on r.link items home on) tt

-- a link that is closed has not ended
pub closed_so : (r : Router) → is_ended (close r).link ≡ false
closed_so r = close_by (λ k. is_ended k.link ≡ false) r (λ e. ap is_ended (closed_link r.link e)) (λ e. refl)

-- What a call adds to the ends of links
pub record SideLawful (s : Side) : Type 0 where
  pub endings : AllByRecursion (λ (e : Ending). IsLawfulEnd e.end e.question e.version e.home) s.endings

-- A fact of all ends holds of one more, if it follows from what the link became.
with_end_so : (Q : Ending → Type 0) (s : Side) (items : List Item) (So : Link → Type 0) → ((end : End) → So (Ended end) → Q (ending_at s end items)) → (l k : Link) → (is_ended l ≡ false → So k) → AllByRecursion Q s.endings → AllByRecursion Q (with_end (newly_ended l k) s items)
with_end_so Q s items So goes (Ended end) k is h = h
with_end_so Q s items So goes _ (Ended end) is h = (goes end (is refl), h)
with_end_so Q s items So goes _ _ is h = h

noted_lawful : (all : List Instance) (n : Noted) (s : Side) → (is_ended s.router.link ≡ false → LawfulLink n.router.link (n.items ++ s.items) s.home) → SideLawful s → SideLawful (noted all n s)
noted_lawful all n s end h = record { endings = with_end_so (λ e. IsLawfulEnd e.end e.question e.version e.home) s (n.items ++ s.items) (λ k. LawfulLink k (n.items ++ s.items) s.home) (λ end is. is) s.router.link n.router.link end h.endings }

asks_lawful : (r : Router) (b : Bool) (items : List Item) (home : Option Instance) → LawfulLink r.link items home → LawfulLink (asks_if b r).router.link ((asks_if b r).items ++ items) home
asks_lawful r b items home h = asks_by (λ n. LawfulLink n.router.link (n.items ++ items) home) b r tt h

gets_lawful : (w : World) (s : Side) (most : ℕ) (wanting : Option ℕ) → Known w s → SideLawful s → SideLawful (noted (instances w) (called (Receives s.router.now wanting (take most s.down)) s.router) s)
gets_lawful w s most wanting known h =
    noted_lawful (instances w) (of_received (receives s.router.now wanting (take most s.down) s.router)) s
    (λ on. received w s known (λ r items. LawfulLink r.link items s.home) (λ r held items q. q) (λ r u items. tt)
    (λ e r u items is of t q brings. unit_lawful (instances w) w.keep s.home known.0.seen known.0.is_seen e r u items is of t brings) most wanting
    (clocked_lawful s.router.now s.router (At s.router.now ∷ s.items) s.home on)) h

call_lawful : (w : World) (s : Side) (call : RouterCall) → IsOwnCall call → SideLawful s → SideLawful (noted (instances w) (called call s.router) s)
unfolding connects_at closed_at ticks_at asks router_pulled
call_lawful w s call own h = noted_lawful (instances w) (called call s.router) s (link call own) h
  where
    link : (call : RouterCall) → IsOwnCall call → is_ended s.router.link ≡ false → LawfulLink (called call s.router).router.link ((called call s.router).items ++ s.items) s.home
    link (Connects now) own on = tt
    link (Receives now wanting piece) own on = absurd own
    link (Configures config) own on = absurd own
    link (Closes now) own on = lawful_on (close (clocked now s.router)).link ((closed_at now s.router).items ++ s.items) s.home (closed_so (clocked now s.router))
    link AsksNow own on = asks_lawful s.router (is_idle s.router.link) s.items s.home (lawful_on s.router.link s.items s.home on)
    link (Ticks now) own on =
        let k : Router = clocked now s.router in
        let b : Bool = is_due k.link k.due k.now in
        subst (λ x. LawfulLink (asks_if b k).router.link x s.home) (sym (append_assoc (asks_if b k).items (At now ∷ []) s.items)) (asks_lawful k b (At now ∷ s.items) s.home (clocked_lawful now s.router (At now ∷ s.items) s.home on))
    link _ own on = lawful_on s.router.link s.items s.home on

lawful_wires : (s : Side) → SideLawful s → Rewired SideLawful s
lawful_wires s h conn up down home read = record { endings = h.endings }

-- After every list of events each link that ended did so lawfully.
pub lawful_ends : LawfulEnds
unfolding router_restarts
lawful_ends = always_kept SideLawful (record { new = record { endings = tt }; keeps = keeps }) (λ w s. AllByRecursion (λ (e : Ending). IsLawfulEnd e.end e.question e.version e.home) s.endings) (λ w s h. h.endings)
  where
    keeps : (w : World) → KeptByCalls w (λ s wanting. Known w s) SideLawful
    keeps w = record {
      wires = lawful_wires;
      own = call_lawful w;
      gets = gets_lawful w;
      restart = λ s h. record { endings = h.endings };
      refused = λ s h. told_by SideLawful (instances w) lawful_wires (λ s h. call_lawful w s (Closes s.router.now) tt h) (refused_at s) (record { endings = h.endings });
    }

-- No end that was noted is dropped.
-- What is noted adds one at most, and a close adds none.
noted_more : (all : List Instance) (n : Noted) (s : Side) → OneMore s.endings (noted all n s).endings
noted_more all n s = by_end (newly_ended s.router.link n.router.link)
  where
    by_end : (end : Option End) → OneMore s.endings (with_end end s (n.items ++ s.items))
    by_end None = inl refl
    by_end (Some end) = inr (_, refl)

no_ending : (l k : Link) → is_ended k ≡ false → newly_ended l k ≡ None
no_ending (Ended end) k on = refl
no_ending _ (Ended end) on = absurd (let e : true ≡ false = on in cc)
no_ending _ _ on = refl

-- The clean-up notes none, and drops none.
told_endings : (all : List Instance) (s : Side) → (tell_closed all s).endings ≡ s.endings
unfolding closed_at
told_endings all s = closed_by (λ t. t.endings ≡ s.endings) all s (λ e. refl)
    (λ e. ap (λ x. with_end x s ((closed_at s.router.now s.router).items ++ s.items)) (no_ending s.router.link (close (clocked s.router.now s.router)).link (closed_so (clocked s.router.now s.router))))

pub settled_endings : (all : List Instance) (s : Side) → (settle all s).endings ≡ s.endings
settled_endings all s = settle_keeps (λ (x : Side). x.endings ≡ s.endings) (λ x c u d h. h) all (λ x h. told_endings all x ∙ h) s refl

abbrev After : List Ending → Side → Type 0
After old s = OneMore old s.endings

settle_after : (old : List Ending) (all : List Instance) (s : Side) → After old s → After old (settle all s)
settle_after old all s h = subst (OneMore old) (sym (settled_endings all s)) h

-- One event at a router
call_after : (all : List Instance) (s : Side) (o : Option RouterCall) → After s.endings (after_call all s o)
call_after all s None = inl refl
call_after all s (Some call) = noted_more all (called call s.router) s

step_after : (w : World) (event : SideEvent) (wanting : Option ℕ) (s : Side) → After s.endings (side_step w event wanting s)
unfolding router_restarts
step_after w event wanting s = step_by (After s.endings) w wanting s event (λ is conn up down home read. call_after (instances w) s (call_of event wanting s)) (λ e. inl refl)

refused_after : (w : World) (event : SideEvent) (bytes : ℕ) (wanting : Option ℕ) (s : Side) → After s.endings (side_refused w event bytes wanting s)
unfolding side_refused cut
refused_after w event bytes wanting s = part_by (After s.endings) w event bytes wanting s (inl refl) (λ is. step_after w (lesser event bytes) wanting s)

-- What an event makes of a router's side
side_after_more : (r : ℕ) (event : Event) (outcome : Outcome) (w : World) (s : Side) → After s.endings (side_after r event outcome w s)
side_after_more r (On d event) (Done wanting) w s = settle_after s.endings (instances w) _ (either (After s.endings) (d == r) _ _ (λ here. step_after w event wanting s) (λ there. inl refl))
side_after_more r (On d event) (Memory bytes wanting) w s = settle_after s.endings (instances w) _ (either (After s.endings) (d == r) _ _ (λ here. refused_after w event bytes wanting s) (λ there. inl refl))
side_after_more r (Publish set) (Done wanting) w s = settle_after s.endings _ s (inl refl)
side_after_more r (Restart session session0 start) (Done wanting) w s = settle_after s.endings _ (cache_gone s) (inl refl)
side_after_more r event outcome w s = inl refl

-- All routers
abbrev OneMoreAt : Option Side → Option Side → Type 0
OneMoreAt None None = ⊤
OneMoreAt (Some s) (Some n) = OneMore s.endings n.endings
OneMoreAt s n = ⊥

each_more : (sides news : List Side) → ((r : ℕ) → OneMoreAt (side_at r sides) (side_at r news)) → NoneDropped sides news
each_more [] [] h = tt
each_more (s ∷ sides) (n ∷ news) h = (h zero, each_more sides news (λ r. h (suc r)))
each_more _ _ h = absurd (h zero)

pub ends_kept : EndsKept
ends_kept w event outcome = each_more w.sides (after event outcome w).sides (λ r. subst (OneMoreAt (side_at r w.sides)) (sym (after_at r event outcome w)) (by_side r (side_at r w.sides)))
  where
    by_side : (r : ℕ) (o : Option Side) → OneMoreAt o (option_map (side_after r event outcome w) o)
    by_side r None = tt
    by_side r (Some s) = side_after_more r event outcome w s

no_end : {A : Type 0} (l : Link) (end : End) → is_ended l ≡ false → l ≡ Ended end → A
no_end l end on e = absurd (let x : true ≡ false = ap is_ended (sym e) ∙ on in cc)

abbrev Notes : Side → Side → Type 0
Notes s t = (end : End) → t.router.link ≡ Ended end → t.endings ≡ ending_at s end t.items ∷ s.endings

call_notes : (all : List Instance) (s : Side) (o : Option RouterCall) → is_ended s.router.link ≡ false → Notes s (after_call all s o)
call_notes all s None on end e = no_end s.router.link end on e
call_notes all s (Some call) on end e = ap (λ x. with_end x s ((called call s.router).items ++ s.items)) (ap (newly_ended s.router.link) e ∙ now s.router.link on)
  where
    now : (l : Link) → is_ended l ≡ false → newly_ended l (Ended end) ≡ Some end
    now (Ended end) on = absurd (let x : true ≡ false = on in cc)
    now _ on = refl

notes : (w : World) (s : Side) → is_ended s.router.link ≡ false → (event : SideEvent) (wanting : Option ℕ) → Notes s (side_step w event wanting s)
unfolding router_restarts
notes w s on event wanting =
    step_by (Notes s) w wanting s event (λ is conn up down home read. call_notes (instances w) s (call_of event wanting s) on) (λ is end e. absurd (let x : false ≡ true = ap is_ended e in cc))

-- what moved before a refusal
notes_part : (w : World) (s : Side) → is_ended s.router.link ≡ false → (event : SideEvent) (bytes : ℕ) (wanting : Option ℕ) (end : End) → let part : Side = side_part w event bytes wanting s in part.router.link ≡ Ended end → (side_refused w event bytes wanting s).endings ≡ ending_at s end part.items ∷ s.endings
unfolding side_refused cut
notes_part w s on event bytes wanting = part_by (Notes s) w event bytes wanting s (λ end e. no_end s.router.link end on e) (λ is. notes w s on (lesser event bytes) wanting)

-- and still is after the clean-up
pub ends_noted : EndsNoted
ends_noted made history w leads = all_weaker Rests (NotesEnds w) w.sides (λ s h. record {
  through = λ event wanting end e. let n = notes w s h.link_on event wanting end e in (n, settled_endings (instances w) (side_step w event wanting s) ∙ n);
  refused = λ event bytes wanting end e. let n = notes_part w s h.link_on event bytes wanting end e in (n, settled_endings (instances w) (side_refused w event bytes wanting s) ∙ n);
}) (history_rests made history w leads)

-- No link ends by running out of memory at its router if no outcome names a PDU.
abbrev Free : Link → Type 0
Free (Ended end) = NotByMemory end
Free _ = ⊤

-- What a router does when it reads a PDU
unit_free : (l : Link) (u : Unit) (r : Router) → Free r.link → Free (on_unit l u r).link
unit_free l u r h = by_unit (λ n. Free n.link) l u r (record {
  stays = h;
  asks = λ agreed k. tt;
  begins = λ question session. tt;
  reported = tt;
  failed = tt;
  waits = λ agreed k. tt;
  told = λ agreed k code. tt;
  empties = λ agreed k code. tt;
  stages = λ on a. tt;
  wrong = λ on code. tt;
  over = λ on. tt;
  commits = λ on a version. tt;
})

-- a byte, if memory does not run out
byte_free : (bytes : List ℕ) (r : Router) (j : Judgement) → Free r.link → Free (with_bytes true bytes r j).router.link
byte_free bytes r Begins h = h
byte_free bytes r (Whole u) h = either (λ (n : Noted). Free n.router.link) (may_lack r.link u r && not true) _ _ (λ lacking. false_true (and_parts (may_lack r.link u r) (not true) lacking).1) (λ there. unit_free r.link u (record r { held = [] }) h)
byte_free bytes r (Faulty fault) h = either NotByMemory (type_of bytes == 10) _ _ (λ malformed. tt) (λ reported. tt)

record Goes (m : Receiving) : Type 0 where
  free : Free m.router.link
  none : m.wanting ≡ None

goes_byte : (b : ℕ) (rest : List ℕ) (m : Receiving) → router_stops m.router ≡ false → Goes m → Goes (router_byte m b)
unfolding router_byte
goes_byte b rest m on g =
    let bytes : List ℕ = m.router.held ++ b ∷ [] in
    let j : Judgement = judge m.router.spoken (not m.router.agreed) (m.router.held ++ b ∷ []) in
    record {
      free = subst (λ x. Free (with_bytes (finds_memory x) bytes m.router j).router.link) (sym g.none) (byte_free bytes m.router j g.free);
      none = ap (counted j) g.none ∙ none_counted j;
    }

-- the clock
clocked_free : (now : ℕ) (r : Router) → Free r.link → Free (clocked now r).link
clocked_free now r h = clocked_by (λ k. Free k.link) now r h h tt

-- A side
record Spared (s : Side) : Type 0 where
  free : Free s.router.link
  endings : AllByRecursion (λ (e : Ending). NotByMemory e.end) s.endings

noted_spared : (all : List Instance) (n : Noted) (s : Side) → Free n.router.link → Spared s → Spared (noted all n s)
noted_spared all n s free h = record { free = free; endings = with_end_so (λ e. NotByMemory e.end) s (n.items ++ s.items) Free (λ end is. is) s.router.link n.router.link (λ on. free) h.endings }

gets_spared : (w : World) (s : Side) (most : ℕ) (wanting : Option ℕ) → wanting ≡ None → Spared s → Spared (noted (instances w) (called (Receives s.router.now wanting (take most s.down)) s.router) s)
unfolding receives
gets_spared w s most wanting none h =
    let m : Receiving = record { router = clocked s.router.now s.router; items = At s.router.now ∷ []; wanting = wanting } in
    let g = feed_keeps (λ x. router_stops x.router) router_byte (λ rest x. Goes x) goes_byte m (take most s.down) (record { free = clocked_free s.router.now s.router h.free; none = none }) in
    noted_spared (instances w) (of_received (feed (λ x. router_stops x.router) router_byte m (take most s.down))) s g.free h

own_spared : (w : World) (s : Side) (call : RouterCall) → IsOwnCall call → Spared s → Spared (noted (instances w) (called call s.router) s)
unfolding connects_at closed_at ticks_at asks router_pulled
own_spared w s call own h = noted_spared (instances w) (called call s.router) s (free call own) h
  where
    free : (call : RouterCall) → IsOwnCall call → Free (called call s.router).router.link
    free (Receives now wanting piece) own = absurd own
    free (Connects now) own = tt
    free (Pulls most) own = h.free
    free (Closes now) own = close_by (λ k. Free k.link) (clocked now s.router) (λ e. clocked_free now s.router h.free) (λ e. tt)
    free AsksNow own = asks_by (λ n. Free n.router.link) (is_idle s.router.link) s.router tt h.free
    free (Ticks now) own = let k : Router = clocked now s.router in asks_by (λ n. Free n.router.link) (is_due k.link k.due k.now) k tt (clocked_free now s.router h.free)
    free (Speaks version) own = h.free
    free (Configures config) own = absurd own

spared_wires : (s : Side) → Spared s → Rewired Spared s
spared_wires s h conn up down home read = record { free = h.free; endings = h.endings }

keeps_spared : (w : World) → KeptByCalls w (λ s wanting. wanting ≡ None) Spared
unfolding router_restarts
keeps_spared w = record {
  wires = spared_wires;
  own = own_spared w;
  gets = gets_spared w;
  restart = λ s h. record { free = tt; endings = h.endings };
  refused = λ s h. told_by Spared (instances w) spared_wires (λ s h. own_spared w s (Closes s.router.now) tt h) (refused_at s) (record { free = h.free; endings = h.endings });
}

-- If no outcome names a PDU, no bytes that come to a router do.
none_comes : (event : Event) (outcome : Outcome) (s : Side) → NamesNone event outcome → IfComes (λ s wanting. wanting ≡ None) event outcome s
none_comes (On r (RouterGets most)) (Done wanting) s none = none
none_comes (On r (RouterGets most)) (Memory bytes wanting) s none = none
none_comes (On r event) (Done wanting) s none = tt
none_comes (On r event) (Memory bytes wanting) s none = tt
none_comes _ _ s none = tt

abbrev AllSpared : World → Type 0
AllSpared w = AllByRecursion Spared w.sides

after_spared : (event : Event) (outcome : Outcome) (w : World) → NamesNone event outcome → AllSpared w → AllSpared (after event outcome w)
after_spared event outcome w none h = each_after (λ w s wanting. wanting ≡ None) Spared keeps_spared event outcome w Spared (λ s x. x) (λ s x. none_comes event outcome s none) h

from_old : (old : World) (history : List Entry) (w : World) → LeadsFrom old history w → AllByRecursion (λ (e : Entry). NamesNone e.event e.outcome) history → AllSpared old → AllSpared w
from_old old [] w leads none h = subst AllSpared (sym leads) h
from_old old (entry ∷ history) w leads none h = from_old leads.0 history w leads.2 none.1 (subst AllSpared (sym leads.1.2) (after_spared entry.event entry.outcome old none.0 h))

pub none_by_memory : NoneByMemory
none_by_memory made history w leads none =
    all_weaker Spared (λ s. AllByRecursion (λ (e : Ending). NotByMemory e.end) s.endings) w.sides (λ s h. h.endings)
    (from_old (first made) history w leads.1 none (all_new Spared (record { free = tt; endings = tt }) made.routers))
