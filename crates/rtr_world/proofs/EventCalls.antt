-- What happens at a side is at most one call on its router, and changes of its wires: what each call and each wire keeps, each event keeps.
use Rattle.rtr_world.proofs.Words.{◌≡◌, ℕ, Bool, true, false, List, [], ◌∷◌, ◌++◌, map, take, Option, Some, None, refl, ⊤, if◌then◌else◌, AllByRecursion, ◌∙◌, sym, ap, subst, Instance, Conn, new_conn, Router, RouterCall, Connects, Receives, Pulls, Closes, AsksNow, Ticks, Speaks, called, silent, clocked, close, router_pulled, closed_at, Link, Closed, Ended, is_closed, is_reading, Refused, either, false_true, by_close, Configures}
use Rattle.rtr_world.specs.World.{Side, World, instances, SideEvent, RouterRestart, Speak, Connect, RouterSends, CacheGets, CacheSends, RouterGets, Cut, NotifyRouter, Ask, Tick, is_ended, newly_ended, noted, with_end, connects, router_restarts, speaks, router_sends, sends_from, cache_sends, gets_at, cache_gets, notifies_at, router_gets, cut, on_side, side_step, side_part, side_refused, tell_closed, settle, settle_link, settle_rest, settle_wire, Event, Publish, Restart, On, cache_gone, close_ended, goes_through, is_refused, settle_conn, settled}
use Rattle.rtr_world.specs.History.{Outcome, Done, Memory, MayEnd, after, refusal, Entry, IsEvent, LeadsFrom}
use Rattle.rtr_world.proofs.SideLaws.{all_map, all_on_side, all_weaker}

-- What each event keeps holds after every list of events; what the parts of the clean-up keep, the clean-up keeps.
-- a fact of worlds that each event keeps
pub leads_keep : (P : World → Type 0) → ((event : Event) (outcome : Outcome) (w : World) → IsEvent event → MayEnd (refusal w event) w event outcome → P w → P (after event outcome w))
    → (old : World) (history : List Entry) (w : World) → LeadsFrom old history w → P old → P w
leads_keep P keeps old [] w leads h = subst P (sym leads) h
leads_keep P keeps old (entry ∷ history) w leads h =
    leads_keep P keeps leads.0 history w leads.2 (subst P (sym leads.1.2) (keeps entry.event entry.outcome old leads.1.0 leads.1.1 h))

-- The fact looks at no wire and at nothing of the cache's side, nor at when that read.
abbrev pub Blind : (Side → Type 0) → Type 0
Blind P = (s : Side) (conn : Option Conn) (up down : List ℕ) (read : Option Instance) → P s → P (record s { conn = conn; up = up; down = down; read_at = read })

module _ (P : Side → Type 0) (blind : Blind P) where
  pub sends_keep : (keep most : ℕ) (s : Side) (o : Option Conn) → P s → P (sends_from keep most s o)
  sends_keep keep most s None h = h
  sends_keep keep most s (Some o) h = blind s _ _ _ _ h

  pub gets_keep : (w : World) (most : ℕ) (wanting : Option ℕ) (s : Side) (o : Option Conn) → P s → P (gets_at w most wanting s o)
  gets_keep w most wanting s None h = h
  gets_keep w most wanting s (Some o) h = blind s _ _ _ _ h

-- What the parts of the clean-up keep. A connection that ended is closed, and its router is notified. Bytes towards a closed link are gone,
-- and without a connection nothing is on its way.
module _ (P : Side → Type 0) (all : List Instance) (ended : (s : Side) (o : Conn) → s.conn ≡ Some o → o.state.due ≡ [] → P s → P (record s { conn = None })) (told : (s : Side) → P s → P (tell_closed all s))
    (gone : (s : Side) (c : Bool) → s.router.link ≡ Closed → P s → P (record s { conn = if c then s.conn else None; down = [] })) (none : (s : Side) → P s → P (record (tell_closed all s) { up = [] })) where
  ended_keeps : (s : Side) (o : Conn) (b : Bool) (due : List ℕ) → s.conn ≡ Some o → o.state.due ≡ due → P s → P (close_ended s b due)
  ended_keeps s o true [] is e h = ended s o is e h
  ended_keeps s o _ _ is e h = h

  conn_keeps : (s : Side) (o : Option Conn) → s.conn ≡ o → P s → P (settle_conn s o)
  conn_keeps s None is h = h
  conn_keeps s (Some o) is h = ended_keeps s o o.state.ended o.state.due is refl h

  link_keeps : (s : Side) (l : Link) (out : List ℕ) → P s → P (settle_link all s l out)
  link_keeps s (Ended end) [] h = told s h
  link_keeps s _ _ h = h

  rest_keeps : (s : Side) (l : Link) (up : List ℕ) → s.router.link ≡ l → P s → P (settle_rest s l up)
  rest_keeps s Closed [] is h = gone s false is h
  rest_keeps s Closed (b ∷ up) is h = gone s true is h
  rest_keeps s _ up is h = h

  wire_keeps : (s : Side) (o : Option Conn) (down : List ℕ) → P s → P (settle_wire all s o down)
  wire_keeps s None [] h = none s h
  wire_keeps s _ _ h = h

  -- the second half of the clean-up, and all of it
  pub wires_keep : (b : Side) → P b → P (let c : Side = settle_rest b b.router.link b.up in settle_wire all c c.conn c.down)
  wires_keep b h = let c : Side = settle_rest b b.router.link b.up in wire_keeps c c.conn c.down (rest_keeps b b.router.link b.up refl h)

  pub settle_by : (s : Side) → P s → P (settle all s)
  unfolding settle
  settle_by s h =
      let a : Side = settle_conn s s.conn in
      wires_keep (settle_link all (settle_conn s s.conn) (settle_conn s s.conn).router.link (settle_conn s s.conn).router.out) (link_keeps a a.router.link a.router.out (conn_keeps s s.conn refl h))

-- It holds too if there is less on the wires, or no connection at the cache.
abbrev pub Lessens : (Side → Type 0) → Type 0
Lessens P = (s : Side) (c u d : Bool) → P s → P (record s { conn = if c then s.conn else None; up = if u then s.up else []; down = if d then s.down else [] })

module _ (P : Side → Type 0) (less : Lessens P) (all : List Instance) (told : (s : Side) → P s → P (tell_closed all s)) where
  pub behind_link : (b : Side) → P b → P (let c : Side = settle_rest b b.router.link b.up in settle_wire all c c.conn c.down)
  behind_link = wires_keep P all (λ s o is e h. less s false true true h) told (λ s c is h. less s c true false h) (λ s h. less (tell_closed all s) true false true (told s h))

  pub settle_keeps : (s : Side) → P s → P (settle all s)
  settle_keeps = settle_by P all (λ s o is e h. less s false true true h) told (λ s c is h. less s c true false h) (λ s h. less (tell_closed all s) true false true (told s h))

-- the call of an event, if any
abbrev pub call_of : SideEvent → Option ℕ → Side → Option RouterCall
call_of (Speak version) wanting s = Some (Speaks version)
call_of Connect wanting s = Some (Connects s.router.now)
call_of (RouterSends most) wanting s = Some (Pulls most)
call_of (RouterGets most) wanting s = Some (Receives s.router.now wanting (take most s.down))
call_of Ask wanting s = Some AsksNow
call_of (Tick now) wanting s = Some (Ticks now)
call_of event wanting s = None

abbrev pub after_call : List Instance → Side → Option RouterCall → Side
after_call all s None = s
after_call all s (Some call) = noted all (called call s.router) s

-- any event but a restart of the router
abbrev pub IsNoRestart : SideEvent → Type 0
IsNoRestart RouterRestart = ⊥
IsNoRestart event = ⊤

-- So it is with other wires too.
abbrev pub Rewired : (Side → Type 0) → Side → Type 0
Rewired P s = (conn : Option Conn) (up down : List ℕ) (home read : Option Instance) → P (record s { conn = conn; up = up; down = down; home = home; read_at = read })

no_end : (l : Link) → newly_ended l l ≡ None
no_end (Ended end) = refl
no_end _ = refl

silent_noted : (all : List Instance) (r : Router) (s : Side) → r.link ≡ s.router.link → noted all (silent r) s ≡ record s { router = r }
silent_noted all r s e =
    ap (λ x. record s { router = r; endings = with_end x s s.items }) (ap (newly_ended s.router.link) e ∙ no_end s.router.link)

-- What holds after the call, with any wires, holds after the event.
module _ (P : Side → Type 0) (w : World) (wanting : Option ℕ) (s : Side) where
  sends_by : (most : ℕ) → Rewired P (after_call (instances w) s (Some (Pulls most))) → P (router_sends most s)
  unfolding router_sends router_pulled
  sends_by most k =
      subst (λ (t : Side). P (record t { up = s.up ++ take most s.router.out })) (silent_noted (instances w) (router_pulled most s.router) s refl)
      (k s.conn (s.up ++ take most s.router.out) s.down s.home s.read_at)

  cache_sends_by : (most : ℕ) (o : Option Conn) → Rewired P s → P (sends_from w.keep most s o)
  cache_sends_by most None k = k s.conn s.up s.down s.home s.read_at
  cache_sends_by most (Some o) k = k _ _ _ _ _

  cache_gets_by : (most : ℕ) (o : Option Conn) → Rewired P s → P (gets_at w most wanting s o)
  cache_gets_by most None k = k s.conn s.up s.down s.home s.read_at
  cache_gets_by most (Some o) k = k _ _ _ _ _

  notifies_by : (o : Option Conn) → Rewired P s → P (notifies_at w s o)
  notifies_by None k = k s.conn s.up s.down s.home s.read_at
  notifies_by (Some o) k = k _ _ _ _ _

  pub step_by : (event : SideEvent) → (IsNoRestart event → Rewired P (after_call (instances w) s (call_of event wanting s))) → (event ≡ RouterRestart → P (router_restarts s)) → P (side_step w event wanting s)
  unfolding side_step connects speaks cache_sends cache_gets router_gets cut
  step_by RouterRestart k anew = anew refl
  step_by (Speak version) k anew = subst P (silent_noted (instances w) (record s.router { speaks = version }) s refl) (k tt s.conn s.up s.down s.home s.read_at)
  step_by Connect k anew = k tt (Some (new_conn w.present)) [] [] (Some w.present) None
  step_by (RouterSends most) k anew = sends_by most (k tt)
  step_by (CacheGets most) k anew = cache_gets_by most s.conn (k tt)
  step_by (CacheSends most) k anew = cache_sends_by most s.conn (k tt)
  step_by (RouterGets most) k anew = k tt s.conn s.up _ s.home s.read_at
  step_by (Cut left) k anew = k tt None [] (take left s.down) s.home s.read_at
  step_by NotifyRouter k anew = notifies_by s.conn (k tt)
  step_by _ k anew = k tt s.conn s.up s.down s.home s.read_at

-- What moved before a refusal is what a lesser event moves, or nothing.
abbrev pub lesser : SideEvent → ℕ → SideEvent
lesser (RouterSends most) bytes = RouterSends bytes
lesser (CacheGets most) bytes = CacheGets bytes
lesser (CacheSends most) bytes = CacheSends bytes
lesser (RouterGets most) bytes = RouterGets bytes
lesser event bytes = event

abbrev pub IsMoving : SideEvent → Type 0
IsMoving (RouterSends most) = ⊤
IsMoving (CacheGets most) = ⊤
IsMoving (CacheSends most) = ⊤
IsMoving (RouterGets most) = ⊤
IsMoving event = ⊥

pub part_by : (P : Side → Type 0) (w : World) (event : SideEvent) (bytes : ℕ) (wanting : Option ℕ) (s : Side) → P s → (IsMoving event → P (side_step w (lesser event bytes) wanting s)) → P (side_part w event bytes wanting s)
unfolding side_step
part_by P w (RouterSends most) bytes wanting s h k = k tt
part_by P w (CacheGets most) bytes wanting s h k = k tt
part_by P w (CacheSends most) bytes wanting s h k = k tt
part_by P w (RouterGets most) bytes wanting s h k = k tt
part_by P w _ bytes wanting s h k = h

-- `closed` is called at a router that is notified of a close, if it was not closed.
pub closed_by : (P : Side → Type 0) (all : List Instance) (s : Side) → (is_closed s.router.link ≡ true → P (record s { home = None; read_at = None }))
    → (is_closed s.router.link ≡ false → P (record (noted all (called (Closes s.router.now) s.router) s) { home = None; read_at = None })) → P (tell_closed all s)
closed_by P all s shut told = either P (is_closed s.router.link) _ _ shut told

pub reading_on : (l : Link) → is_reading l ≡ true → is_ended l ≡ false
reading_on (Ended end) live = false_true live
reading_on _ live = refl

pub closed_link : (l : Link) → is_closed l ≡ true → l ≡ Closed
closed_link Closed e = refl
closed_link _ e = false_true e

pub closes : (r : Router) → is_closed (close r).link ≡ true
closes r = by_close (λ k. is_closed k.link ≡ true) r (λ e. e) (λ e. refl)

pub told_closes : (all : List Instance) (s : Side) → is_closed (tell_closed all s).router.link ≡ true
unfolding closed_at
told_closes all s = closed_by (λ t. is_closed t.router.link ≡ true) all s (λ e. e) (λ e. closes (clocked s.router.now s.router))

-- A connection that is cut with nothing to arrive is closed by the clean-up, and the router is notified once.
module _ (P : Side → Type 0) (all : List Instance) where
  told_twice : (s : Side) → tell_closed all (tell_closed all s) ≡ tell_closed all s
  told_twice s =
      let t : Side = tell_closed all s in
      ap (λ b. if b then record t { home = None; read_at = None } else record (noted all (closed_at t.router.now t.router) t) { home = None; read_at = None }) (told_closes all s)
      ∙ closed_by (λ x. record x { home = None; read_at = None } ≡ x) all s (λ e. refl) (λ e. refl)

  rest_still : (s : Side) (l : Link) (up : List ℕ) → let t : Side = record s { conn = None; down = [] } in settle_rest t l up ≡ t
  rest_still s Closed [] = refl
  rest_still s Closed (b ∷ up) = refl
  rest_still s _ up = refl

  wire_by : (s : Side) → let t : Side = record s { conn = None; down = [] } in P (record (tell_closed all t) { up = [] }) → P (let c : Side = settle_rest t t.router.link t.up in settle_wire all c c.conn c.down)
  wire_by s h = subst (λ (c : Side). P (settle_wire all c c.conn c.down)) (sym (rest_still s s.router.link s.up)) h

  told_still : (s : Side) → let t : Side = record s { conn = None; down = [] } in record (tell_closed all t) { conn = None; down = [] } ≡ tell_closed all t
  told_still s = let t : Side = record s { conn = None; down = [] } in closed_by (λ x. record x { conn = None; down = [] } ≡ x) all t (λ e. refl) (λ e. refl)

  link_by : (s : Side) (l : Link) (out : List ℕ) → let t : Side = record s { conn = None; down = [] } in P (record (tell_closed all t) { up = [] })
      → P (let b : Side = settle_link all t l out in let c : Side = settle_rest b b.router.link b.up in settle_wire all c c.conn c.down)
  link_by s (Ended end) [] h =
      let t : Side = record s { conn = None; down = [] } in
      subst (λ (b : Side). P (let c : Side = settle_rest b b.router.link b.up in settle_wire all c c.conn c.down)) (told_still s)
      (wire_by (tell_closed all t) (subst (λ (x : Side). P (record (tell_closed all x) { up = [] })) (sym (told_still s)) (subst (λ (x : Side). P (record x { up = [] })) (sym (told_twice t)) h)))
  link_by s _ _ h = wire_by s h

  pub still_by : (s : Side) → s.conn ≡ None → s.down ≡ [] → P (record (tell_closed all s) { up = [] }) → P (settle all s)
  unfolding settle
  still_by s none down h =
      let same : s ≡ record s { conn = None; down = [] } = λ i. record s { conn = none i; down = down i } in
      subst (λ (x : Side). P (settle all x)) (sym same) (link_by s s.router.link s.router.out (subst (λ (x : Side). P (record (tell_closed all x) { up = [] })) same h))

-- the calls of events at which nothing comes. No event configures a router.
abbrev pub IsOwnCall : RouterCall → Type 0
IsOwnCall (Receives now wanting piece) = ⊥
IsOwnCall (Configures config) = ⊥
IsOwnCall call = ⊤

-- What is known if bytes come to the router
abbrev pub IfGets : SideEvent → Type 0 → Type 0
IfGets (RouterGets most) X = X
IfGets event X = ⊤

pub if_gets : (event : SideEvent) (X : Type 0) → X → IfGets event X
if_gets (RouterGets most) X x = x
if_gets _ X x = tt

-- a side whose event was refused, before the router is notified
abbrev pub refused_at : Side → Side
refused_at s = record s { conn = None; up = []; down = []; items = Refused ∷ s.items }

pub record KeptByCalls (w : World) (Comes : Side → Option ℕ → Type 0) (P : Side → Type 0) : Type 0 where
  pub wires : (s : Side) → P s → Rewired P s
  pub own : (s : Side) (call : RouterCall) → IsOwnCall call → P s → P (noted (instances w) (called call s.router) s)
  pub gets : (s : Side) (most : ℕ) (wanting : Option ℕ) → Comes s wanting → P s → P (noted (instances w) (called (Receives s.router.now wanting (take most s.down)) s.router) s)
  pub restart : (s : Side) → P s → P (router_restarts s)
  pub refused : (s : Side) → P s → P (tell_closed (instances w) (refused_at s))

-- A router is notified of a close: what a close and other wires keep.
pub told_by : (P : Side → Type 0) (all : List Instance) → ((s : Side) → P s → Rewired P s) → ((s : Side) → P s → P (noted all (called (Closes s.router.now) s.router) s)) → (s : Side) → P s → P (tell_closed all s)
told_by P all wires closes s h =
    let n : Side = noted all (called (Closes s.router.now) s.router) s in
    closed_by P all s (λ e. wires s h s.conn s.up s.down None None) (λ e. wires n (closes s h) n.conn n.up n.down None None)

module _ (w : World) (Comes : Side → Option ℕ → Type 0) (P : Side → Type 0) (k : KeptByCalls w Comes P) where
  call_keeps : (event : SideEvent) (wanting : Option ℕ) (s : Side) → IfGets event (Comes s wanting) → P s → P (after_call (instances w) s (call_of event wanting s))
  call_keeps (Speak version) wanting s comes h = k.own s (Speaks version) tt h
  call_keeps Connect wanting s comes h = k.own s (Connects s.router.now) tt h
  call_keeps (RouterSends most) wanting s comes h = k.own s (Pulls most) tt h
  call_keeps (RouterGets most) wanting s comes h = k.gets s most wanting comes h
  call_keeps Ask wanting s comes h = k.own s AsksNow tt h
  call_keeps (Tick now) wanting s comes h = k.own s (Ticks now) tt h
  call_keeps _ wanting s comes h = h

  pub step_keeps : (event : SideEvent) (wanting : Option ℕ) (s : Side) → IfGets event (Comes s wanting) → P s → P (side_step w event wanting s)
  step_keeps event wanting s comes h = step_by P w wanting s event (λ is. k.wires (after_call (instances w) s (call_of event wanting s)) (call_keeps event wanting s comes h)) (λ e. k.restart s h)

  pub settles_keep : (s : Side) → P s → P (settle (instances w) s)
  settles_keep s h = settle_keeps P (λ t c u d x. k.wires t x _ _ _ t.home t.read_at) (instances w) (told_by P (instances w) k.wires (λ s h. k.own s (Closes s.router.now) tt h)) s h

  part_gets : (event : SideEvent) (bytes : ℕ) (X : Type 0) → IfGets event X → IfGets (lesser event bytes) X
  part_gets (RouterGets most) bytes X x = x
  part_gets _ bytes X x = tt

  pub refused_keeps : (event : SideEvent) (bytes : ℕ) (wanting : Option ℕ) (s : Side) → IfGets event (Comes s wanting) → P s → P (settle (instances w) (side_refused w event bytes wanting s))
  unfolding side_refused cut
  refused_keeps event bytes wanting s comes h =
      let p : Side = side_part w event bytes wanting s in
      let t : Side = tell_closed (instances w) (refused_at p) in
      still_by P (instances w) (refused_at p) refl refl
      (k.wires t (k.refused p (part_by P w event bytes wanting s h (λ is. step_keeps (lesser event bytes) wanting s (part_gets event bytes (Comes s wanting) comes) h))) t.conn [] t.down t.home t.read_at)

  -- the sides of the world
  pub each_settles : (sides : List Side) → AllByRecursion P sides → AllByRecursion P (map (settle (instances w)) sides)
  each_settles sides h = all_map P P (settle (instances w)) sides settles_keep h

  module _ (Is : Side → Type 0) (is : (s : Side) → Is s → P s) (r : ℕ) (event : SideEvent) (wanting : Option ℕ) (comes : (s : Side) → Is s → IfGets event (Comes s wanting)) (h : AllByRecursion Is w.sides) where
    pub done_keeps : AllByRecursion P (map (settle (instances w)) (on_side r (side_step w event wanting) w.sides))
    done_keeps = each_settles _ (all_on_side Is P r (side_step w event wanting) w.sides is (λ s x. step_keeps event wanting s (comes s x) (is s x)) h)

    pub refusal_keeps : (bytes : ℕ) → AllByRecursion P (map (settle (instances w)) (on_side r (side_refused w event bytes wanting) w.sides))
    refusal_keeps bytes =
        all_map (λ s. P (settle (instances w) s)) P (settle (instances w)) (on_side r (side_refused w event bytes wanting) w.sides) (λ s x. x)
        (all_on_side Is (λ s. P (settle (instances w) s)) r (side_refused w event bytes wanting) w.sides (λ s x. settles_keep s (is s x)) (λ s x. refused_keeps event bytes wanting s (comes s x) (is s x)) h)

-- what is known of the bytes that an event brings to a router
abbrev pub IfComes : (Side → Option ℕ → Type 0) → Event → Outcome → Side → Type 0
IfComes Comes (On r event) (Done wanting) s = IfGets event (Comes s wanting)
IfComes Comes (On r event) (Memory bytes wanting) s = IfGets event (Comes s wanting)
IfComes Comes event outcome s = ⊤

pub if_comes : (Comes : Side → Option ℕ → Type 0) (event : Event) (outcome : Outcome) (s : Side) → ((wanting : Option ℕ) → Comes s wanting) → IfComes Comes event outcome s
if_comes Comes (On r event) (Done wanting) s h = if_gets event (Comes s wanting) (h wanting)
if_comes Comes (On r event) (Memory bytes wanting) s h = if_gets event (Comes s wanting) (h wanting)
if_comes Comes _ _ s h = tt

-- What the calls and the wires keep, every event keeps at each router.
pub each_after : (Comes : World → Side → Option ℕ → Type 0) (P : Side → Type 0) (k : (w : World) → KeptByCalls w (Comes w) P) (event : Event) (outcome : Outcome) (w : World) (Is : Side → Type 0) → ((s : Side) → Is s → P s)
    → ((s : Side) → Is s → IfComes (Comes w) event outcome s) → AllByRecursion Is w.sides → AllByRecursion P (after event outcome w).sides
unfolding goes_through settled is_refused
each_after Comes P k (Publish set) (Done wanting) w Is is comes h = let n : World = goes_through (Publish set) wanting w in each_settles n (Comes n) P (k n) w.sides (all_weaker Is P w.sides is h)
each_after Comes P k (Restart session session0 start) (Done wanting) w Is is comes h =
    let n : World = goes_through (Restart session session0 start) wanting w in
    each_settles n (Comes n) P (k n) (map cache_gone w.sides) (all_map Is P cache_gone w.sides (λ s x. (k w).wires s (is s x) None [] s.down s.home s.read_at) h)
each_after Comes P k (On r event) (Done wanting) w Is is comes h = done_keeps w (Comes w) P (k w) Is is r event wanting comes h
each_after Comes P k (On r event) (Memory bytes wanting) w Is is comes h = refusal_keeps w (Comes w) P (k w) Is is r event wanting comes h bytes
each_after Comes P k _ _ w Is is comes h = all_weaker Is P w.sides is h
