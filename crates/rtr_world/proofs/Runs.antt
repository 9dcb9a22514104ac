-- Each router of a world is one to which calls lead.
use Rattle.rtr_world.proofs.Words.{◌≡◌, ℕ, Bool, true, false, not, ◌&&◌, List, [], ◌∷◌, ◌++◌, take, Option, refl, ⊤, drop, Some, None, IfSome, map, AllByRecursion, ◌∙◌, sym, ap, subst, inl, inr, Instance, IsInstance, published, Judgement, Begins, Whole, Faulty, judge, finds_memory, is_none, Conn, Gives, Notifies, Taking, Takes, conn_byte, conn_notified, conn_pulled, conn_stops, conn_takes, ConnCall, IsConnCall, serving, IsRouterCall, Router, on_unit, may_lack, Receiving, RouterCall, Connects, Receives, Closes, AsksNow, Ticks, called, asked_by, with_bytes, router_stops, router_byte, clocked, asks, asks_if, connects_at, closed_at, ticks_at, receives, Link, Asked, is_due, is_idle, is_reading, Closed, Ended, Item, At, Reads, Refused, Restarts, in_version, cases_Bool, IfSome_then, all_both, none_bytes, feed_keeps, stopped, feed_takes, Configures}
use Rattle.rtr_ends.specs.Cache.{Publishes}
use Rattle.rtr_world.specs.Claims.{IsRun, RoutersRun, since_restart, ConnsRun, IsConnRun}
use Rattle.rtr_world.specs.History.{conn_due, Outcome, Done, Memory, IsEvent, after}
use Rattle.rtr_world.specs.World.{Side, World, instances, noted, router_restarts, timing, SideEvent, RouterRestart, Connect, RouterSends, CacheGets, CacheSends, Cut, NotifyRouter, Event, Publish, Restart, On, cache_gets, cache_gone, cache_sends, connects, cut, gets_at, goes_through, is_refused, notifies_at, on_side, router_gets, router_sends, sends_from, settle, settled, side_refused, side_step, speaks}
use Rattle.rtr_world.proofs.RouterCases.{asks_by, clocked_by}
use Rattle.rtr_world.proofs.WorldSteps.{Known, history_keeps, KeptAlways, GoodWorld, known_leads, known_sides, first}
use Rattle.rtr_world.proofs.SideSteps.{live_of}
use Rattle.rtr_world.proofs.UnitStreams.{all_bytes, either_by}
use Rattle.rtr_world.proofs.WireBytes.{low_front, low_stream, low_take, Low, low-append, low_drop, low_rest}
use Rattle.rtr_world.proofs.EventCalls.{refused_at, IsOwnCall, closed_by, told_by, Lessens, settle_keeps}
use Rattle.rtr_world.proofs.Invariant.{GoodLink, IfOpen, Open}
use Rattle.rtr_world.proofs.KeptTables.{AllTell}
use Rattle.rtr_world.proofs.SideLaws.{all_both as both_facts, all_map, all_new, all_on_side, all_weaker}

-- an item that a call adds
abbrev IsOfCall : Item → Type 0
IsOfCall Refused = ⊥
IsOfCall Restarts = ⊥
IsOfCall item = ⊤

abbrev AreOfCall : List Item → Type 0
AreOfCall items = AllByRecursion IsOfCall items

-- what is behind a restart and in front of these
since_call : (xs items : List Item) → AreOfCall xs → since_restart (xs ++ items) ≡ xs ++ since_restart items
since_call [] items h = refl
since_call (Refused ∷ xs) items h = absurd h.0
since_call (Restarts ∷ xs) items h = absurd h.0
since_call (x ∷ xs) items h = ap (λ l. x ∷ l) (since_call xs items h.1)

-- What calls add

asked_of_call : (l : Link) (out : List ℕ) → AreOfCall (asked_by l out)
asked_of_call (Asked question) (b ∷ out) = (tt, tt)
asked_of_call _ _ = tt

read_of_call : (memory : Bool) (bytes : List ℕ) (r : Router) (j : Judgement) → AreOfCall (with_bytes memory bytes r j).items
read_of_call memory bytes r Begins = tt
read_of_call memory bytes r (Faulty fault) = (tt, tt)
read_of_call memory bytes r (Whole u) =
    let n : Router = on_unit r.link u (record r { held = [] }) in
    either_by (λ x. AreOfCall x.items) u (record r { held = [] }) (may_lack r.link u r && not memory) (λ e. (tt, tt)) (all_both IsOfCall (asked_by n.link n.out) (Reads u ∷ []) (asked_of_call n.link n.out) (tt, tt))

receives_of_call : (now : ℕ) (wanting : Option ℕ) (piece : List ℕ) (r : Router) → AreOfCall (receives now wanting piece r).machine.items
unfolding receives router_byte
receives_of_call now wanting piece r =
    feed_keeps (λ m. router_stops m.router) router_byte (λ rest m. AreOfCall m.items)
    (λ b rest m on h. all_both IsOfCall (with_bytes (finds_memory m.wanting) (m.router.held ++ b ∷ []) m.router (judge m.router.spoken (not m.router.agreed) (m.router.held ++ b ∷ []))).items m.items
    (read_of_call (finds_memory m.wanting) (m.router.held ++ b ∷ []) m.router (judge m.router.spoken (not m.router.agreed) (m.router.held ++ b ∷ []))) h)
    (record { router = clocked now r; items = At now ∷ []; wanting = wanting }) piece (tt, tt)

asks_of_call : (b : Bool) (r : Router) → AreOfCall (asks_if b r).items
asks_of_call b r = asks_by (λ n. AreOfCall n.items) b r (tt, tt) tt

call_of_call : (call : RouterCall) (r : Router) → AreOfCall (called call r).items
unfolding connects_at closed_at ticks_at asks
call_of_call (Connects now) r = (tt, (tt, (tt, tt)))
call_of_call (Receives now wanting piece) r = receives_of_call now wanting piece r
call_of_call (Closes now) r = (tt, (tt, tt))
call_of_call AsksNow r = asks_of_call (is_idle r.link) r
call_of_call (Ticks now) r =
    let told : Router = clocked now r in
    all_both IsOfCall (asks_if (is_due told.link told.due told.now) told).items (At now ∷ []) (asks_of_call (is_due told.link told.due told.now) told) (tt, tt)
call_of_call (Configures config) r = (tt, tt)
call_of_call _ r = tt

-- one call more
one_more : (call : RouterCall) (r : Router) (items : List Item) → IsRouterCall call → IsRun r items → IsRun (called call r).router ((called call r).items ++ items)
one_more call r items can_be h = record {
  calls = call ∷ h.calls;
  can_be = (can_be, h.can_be);
  router_is = ap (λ x. (called call x).router) h.router_is;
  items_are = (λ i. (called call (h.router_is i)).items ++ h.items_are i) ∙ sym (since_call (called call r).items items (call_of_call call r));
}

-- a side whose router is one
abbrev RouterRuns : Side → Type 0
RouterRuns s = IsRun s.router s.items

-- What a link that does not live is handed changes nothing more than nothing would.
takes_none : (now : ℕ) (wanting : Option ℕ) (piece : List ℕ) (r : Router) → is_reading r.link ≡ false → (receives now wanting piece r).machine ≡ (receives now wanting [] r).machine
unfolding receives
takes_none now wanting [] r dead = refl
takes_none now wanting (b ∷ piece) r dead =
    ap (λ f. f.machine) (stopped (λ (m : Receiving). router_stops m.router) router_byte (record { router = clocked now r; items = At now ∷ []; wanting = wanting }) b piece (ap (λ x. not (x && is_none (clocked now r).out)) (clocked_by (λ k. is_reading k.link ≡ false) now r dead dead refl)))

-- On one that lives they are bytes.
gets_run : (w : World) (s : Side) (most : ℕ) (wanting : Option ℕ) → Known w s → RouterRuns s → RouterRuns (noted (instances w) (called (Receives s.router.now wanting (take most s.down)) s.router) s)
gets_run w s most wanting known h = elim (cases_Bool (is_reading s.router.link)) [
  | inl live ↦ (let l = live_of s.router.link (instances w) w.present known.0.seen s.router s.conn s.up s.down known.0.router.link live in
      let low = low_stream s.router.held (s.down ++ (conn_due s.conn ++ l.2.lost)) l.2.coming l.2.downward in
      one_more (Receives s.router.now wanting (take most s.down)) s.router s.items (all_bytes (take most s.down) (low_take most s.down (low_front s.down (conn_due s.conn ++ l.2.lost) low))) h)
  | inr dead ↦ subst (λ (m : Receiving). IsRun m.router (m.items ++ s.items)) (sym (takes_none s.router.now wanting (take most s.down) s.router dead)) (one_more (Receives s.router.now wanting []) s.router s.items none_bytes h)
]

own_runs : (w : World) (s : Side) (call : RouterCall) → IsOwnCall call → RouterRuns s → RouterRuns (noted (instances w) (called call s.router) s)
own_runs w s (Receives now wanting piece) own h = absurd own
own_runs w s l own h = one_more l s.router s.items tt h

kept : KeptAlways RouterRuns
unfolding router_restarts
kept = record {
  new = record { calls = []; can_be = tt; router_is = refl; items_are = refl };
  keeps = λ w. record {
    wires = λ s h conn up down home read. h;
    own = own_runs w;
    gets = gets_run w;
    restart = λ s h. record { calls = []; can_be = tt; router_is = refl; items_are = refl };
    refused = λ s h. told_by RouterRuns (instances w) (λ s h conn up down home read. h) (λ s h. own_runs w s (Closes s.router.now) tt h) (refused_at s) (record { calls = h.calls; can_be = h.can_be; router_is = h.router_is; items_are = h.items_are });
  };
}

pub routers_run : RoutersRun
routers_run made history w leads = history_keeps RouterRuns kept made history w leads

-- Each open connection of a world is one to which calls of the cache's machine lead.
-- A connection is a run, and what is on its way to it are bytes.
record Runs (keep : ℕ) (present : Instance) (home : Option Instance) (up : List ℕ) (o : Conn) : Type 0 where
  run : IsConnRun keep present home o
  low : Low up

abbrev RunsAt : ℕ → Instance → Option Instance → List ℕ → Option Conn → Type 0
RunsAt keep present home up o = IfSome o (Runs keep present home up)

abbrev SideRuns : ℕ → Instance → Side → Type 0
SideRuns keep present s = RunsAt keep present s.home s.up s.conn

-- one call more, at the same cache
called_run : (keep : ℕ) (i : Instance) (home : Option Instance) (o : Conn) (h : IsConnRun keep i home o) (call : ConnCall) (next : Conn) (now : Instance) → IsConnCall call → (serving keep timing h.opened (call ∷ h.calls)).conn ≡ next
    → (serving keep timing h.opened (call ∷ h.calls)).cache ≡ now → IsConnRun keep now home next
called_run keep i home o h call next now can conn cache = record {
  opened = h.opened;
  can_open = h.can_open;
  home_is = h.home_is;
  calls = call ∷ h.calls;
  can_be = (can, h.can_be);
  conn_is = conn;
  cache_is = cache;
}

-- What a router has to be pulled are bytes, while its connection is open.
low_out : (w : World) (s : Side) (o : Conn) → s.conn ≡ Some o → Known w s → Low s.router.out
low_out w s o e known = by_link s.router.link known.0.router.link
  where
    by_link : (l : Link) → GoodLink (instances w) w.present known.0.seen l s.router s.conn s.up s.down → Low s.router.out
    by_link Closed g = subst (λ x. Low x) (sym g.3) tt
    by_link (Ended end) g = subst (λ x. Low x) (sym g) tt
    by_link _ l =
        let op : Open w.present s.router.spoken l.0 s.router.out s.up l.2.wanted l.2.coming s.router.agreed l.2.lost o = subst (λ x. IfOpen x (Open w.present s.router.spoken l.0 s.router.out s.up l.2.wanted l.2.coming s.router.agreed l.2.lost)) e l.2.open_at in
        low_rest s.up s.router.out (low_stream o.held (s.up ++ s.router.out) (in_version s.router.spoken l.2.wanted) op.upward)

-- One event
module _ (w : World) (is : IsInstance w.present) where
  abbrev R : Side → Type 0
  R s = SideRuns w.keep w.present s

  sends_runs : (most : ℕ) (s : Side) (o : Option Conn) → s.conn ≡ o → Known w s → RunsAt w.keep w.present s.home s.up o → RunsAt w.keep w.present s.home (s.up ++ take most s.router.out) o
  sends_runs most s None e known h = tt
  sends_runs most s (Some o) e known h = record { run = h.run; low = low-append s.up (take most s.router.out) h.low (low_take most s.router.out (low_out w s o e known)) }

  gets_runs : (most : ℕ) (wanting : Option ℕ) (s : Side) (o : Option Conn) → s.conn ≡ o → RunsAt w.keep w.present s.home s.up o → R (gets_at w most wanting s o)
  unfolding conn_takes
  gets_runs most wanting s None e h = subst (λ x. RunsAt w.keep w.present s.home s.up x) (sym e) tt
  gets_runs most wanting s (Some o) e h =
      let t = feed_takes (λ (m : Taking). conn_stops m.conn) (conn_byte w.keep timing w.present) (record { conn = o; moments = []; wanting = wanting }) (take most s.up) in
      let rest : List ℕ = (conn_takes w.keep timing w.present wanting (take most s.up) o).rest in
      record {
        run = called_run w.keep w.present s.home o h.run (Takes wanting (take most s.up)) _ w.present (all_bytes (take most s.up) (low_take most s.up h.low)) (λ k. (conn_takes w.keep timing (h.run.cache_is k) wanting (take most s.up) (h.run.conn_is k)).machine.conn) h.run.cache_is;
        low = low-append (conn_takes w.keep timing w.present wanting (take most s.up) o).rest (drop most s.up) (low_rest t.0 (conn_takes w.keep timing w.present wanting (take most s.up) o).rest (subst (λ x. Low x) t.1.piece_is (low_take most s.up h.low))) (low_drop most s.up h.low);
      }

  given_runs : (most : ℕ) (s : Side) (o : Option Conn) → s.conn ≡ o → RunsAt w.keep w.present s.home s.up o → R (sends_from w.keep most s o)
  given_runs most s None e h = subst (λ x. RunsAt w.keep w.present s.home s.up x) (sym e) tt
  given_runs most s (Some o) e h = record { run = called_run w.keep w.present s.home o h.run (Gives most) _ w.present tt (λ k. conn_pulled w.keep timing most (h.run.conn_is k)) h.run.cache_is; low = h.low }

  notified_runs : (s : Side) (o : Option Conn) → s.conn ≡ o → RunsAt w.keep w.present s.home s.up o → R (notifies_at w s o)
  notified_runs s None e h = subst (λ x. RunsAt w.keep w.present s.home s.up x) (sym e) tt
  notified_runs s (Some o) e h = record { run = called_run w.keep w.present s.home o h.run Notifies _ w.present tt (λ k. conn_notified w.keep timing (h.run.cache_is k) (h.run.conn_is k)) h.run.cache_is; low = h.low }

  step_runs : (event : SideEvent) (wanting : Option ℕ) (s : Side) → Known w s → R s → R (side_step w event wanting s)
  unfolding side_step connects router_restarts speaks router_sends router_gets cache_sends cache_gets cut
  step_runs RouterRestart wanting s known h = tt
  step_runs Connect wanting s known h = record { run = record { opened = w.present; can_open = is; home_is = refl; calls = []; can_be = tt; conn_is = refl; cache_is = refl }; low = tt }
  step_runs (RouterSends most) wanting s known h = sends_runs most s s.conn refl known h
  step_runs (CacheGets most) wanting s known h = gets_runs most wanting s s.conn refl h
  step_runs (CacheSends most) wanting s known h = given_runs most s s.conn refl h
  step_runs (Cut left) wanting s known h = tt
  step_runs NotifyRouter wanting s known h = notified_runs s s.conn refl h
  step_runs _ wanting s known h = h

-- The clean-up: the router is notified of a close, or there is less on the wires.
module _ (keep : ℕ) (present : Instance) (all : List Instance) where
  unknown : (home : Option Instance) (up : List ℕ) (o : Option Conn) → RunsAt keep present home up o → RunsAt keep present None up o
  unknown home up o h = IfSome_then o h (λ x r. record { run = record { opened = r.run.opened; can_open = r.run.can_open; home_is = tt; calls = r.run.calls; can_be = r.run.can_be; conn_is = r.run.conn_is; cache_is = r.run.cache_is }; low = r.low })

  less_runs : Lessens (SideRuns keep present)
  less_runs s false u d h = tt
  less_runs s true true d h = h
  less_runs s true false d h = IfSome_then s.conn h (λ o r. record { run = r.run; low = tt })

  settle_runs : (sides : List Side) → AllByRecursion (SideRuns keep present) sides → AllByRecursion (SideRuns keep present) (map (settle all) sides)
  settle_runs sides h = all_map (SideRuns keep present) (SideRuns keep present) (settle all) sides (settle_keeps (SideRuns keep present) less_runs all (λ s h. closed_by (SideRuns keep present) all s (λ e. unknown s.home s.up s.conn h) (λ e. unknown s.home s.up s.conn h))) h

-- Every event
abbrev AllRun : World → Type 0
AllRun w = AllByRecursion (SideRuns w.keep w.present) w.sides

after_runs : (event : Event) (outcome : Outcome) (w : World) → IsEvent event → GoodWorld w → AllTell w → AllRun w → AllRun (after event outcome w)
unfolding goes_through settled is_refused side_refused cut
after_runs (Publish set) (Done wanting) w fits g t h =
    let i : Instance = published set w.present in
    settle_runs w.keep i (i ∷ w.past) w.sides (all_weaker (SideRuns w.keep w.present) (SideRuns w.keep i) w.sides (λ s h. IfSome_then s.conn h (λ o r. record { run = called_run w.keep w.present s.home o r.run (Publishes set) o (published set w.present) fits r.run.conn_is (ap (published set) r.run.cache_is); low = r.low })) h)
after_runs (Restart session session0 start) (Done wanting) w fits g t h =
    let n : World = goes_through (Restart session session0 start) wanting w in
    settle_runs w.keep n.present (instances n) (map cache_gone w.sides) (all_map (SideRuns w.keep w.present) (SideRuns w.keep n.present) cache_gone w.sides (λ s x. tt) h)
after_runs (On r event) (Done wanting) w fits g t h =
    settle_runs w.keep w.present (instances w) (on_side r (side_step w event wanting) w.sides)
    (all_on_side (λ s. Known w s × R w g.present.is s) (R w g.present.is) r (side_step w event wanting) w.sides (λ s x. x.1) (λ s x. step_runs w g.present.is event wanting s x.0 x.1)
    (both_facts (Known w) (R w g.present.is) w.sides (known_sides w g t) h))
after_runs (On r event) (Memory bytes wanting) w fits g t h =
    settle_runs w.keep w.present (instances w) (on_side r (side_refused w event bytes wanting) w.sides)
    (all_on_side (R w g.present.is) (R w g.present.is) r (side_refused w event bytes wanting) w.sides (λ s x. x) (λ s x. tt) h)
after_runs _ _ w fits g t h = h

pub conns_run : ConnsRun
conns_run made history w leads =
    all_weaker (SideRuns w.keep w.present) (λ s. IfSome s.conn (IsConnRun w.keep w.present s.home)) w.sides (λ s h. IfSome_then s.conn h (λ o r. r.run))
    (known_leads AllRun (λ event outcome x fits may g t h. after_runs event outcome x fits g t h) made history w leads (all_new (SideRuns (first made).keep (first made).present) tt made.routers)).2
