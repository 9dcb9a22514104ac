-- A router that connected holds the newest version if its link is idle: its own moves keep that.
use Rattle.rtr_world.proofs.Words.{◌≡◌, ℕ, ◌≤◌, Bool, true, false, not, ◌&&◌, nat_lt, List, [], ◌∷◌, ◌++◌, length, take, drop, Option, Some, refl, ◌+◌, ◌-◌, None, ⊤, map, AllByRecursion, sym, ap, ◌∙◌, subst, subst₂, arith, inl, inr, zero, suc, and_parts, nil_from_length, take-append-drop, length-append, nat_tests, Instance, versions, versions_from, VrpSet, serial_at, Judgement, Whole, judge, Version, Unit, session_in, report, whole_answer, Conn, is_none, finds_memory, feed, Router, emptied, on_unit, Receiving, clocked, close, connects_at, receives, router_byte, router_pulled, router_stops, with_bytes, Link, Closed, Idle, Ended, is_closed, is_reading, Committed, is_over, later, At, AskReset, base_of, led_to, of_version, unit_held, feed_keeps, false_true, by_clock, by_close, by_whole, true_of_not}
use Rattle.rtr_world.specs.CatchUp.{IsMove, HoldsNewest, AreMoves, IdleIsCurrent, IsFresh, IsMoveOf}
use Rattle.rtr_world.specs.History.{Outcome, Done, Memory, after, Entry, LeadsFrom, side_at}
use Rattle.rtr_world.specs.OneAnswer.{units_in, without_notifies}
use Rattle.rtr_world.specs.World.{Side, World, instances, SideEvent, Connect, RouterSends, CacheGets, CacheSends, RouterGets, Cut, connects, router_sends, cache_sends, cache_gets, router_gets, cut, side_step, side_part, side_refused, settle, tell_closed, timing, Event, On, goes_through, is_refused, new_world, on_side, settled}
use Rattle.rtr_world.proofs.EventCalls.{told_closes, gets_keep, sends_keep, settle_keeps, lesser, part_by}
use Rattle.rtr_world.proofs.Invariant.{Good, GoodRouter, Live, Mine, OneReply}
use Rattle.rtr_world.proofs.SideSteps.{byte_good, clocked_good, live_of, router_by}
use Rattle.rtr_world.proofs.Versions.{Present, TableAt, some_is, Seen, IsSeen, HeldAt, Stands, has_sets, held_at, of_present}
use Rattle.rtr_world.proofs.UnitEffects.{Belongs, by_shape}
use Rattle.rtr_world.proofs.UnitsAtRouters.{nothing_right}
use Rattle.rtr_world.proofs.CatchUpAnswers.{other_report}
use Rattle.rtr_world.proofs.SideLaws.{all_new}
use Rattle.rtr_world.proofs.KeptTables.{AllTell, SideTells, after_tells, new_side_tells}
use Rattle.rtr_world.proofs.WorldSteps.{GoodWorld, after_good, new_good}

-- A PDU that makes a link idle brings the newest version.
-- A version is not over at the moment of its commit.
lasts : (limit now : ℕ) → nat_lt limit (now - now) ≡ false
lasts limit now = grind (arith, nat_tests)

-- No Data Available is answered if nothing is published.
no_versions : (pv : Version) (session start : ℕ) (sets : List VrpSet) (copy : List ℕ) → report 2 copy ∷ [] ≡ whole_answer pv session timing (versions_from start sets) → sets ≡ []
no_versions pv session start [] copy e = refl
no_versions pv session start (x ∷ older) copy e = absurd (let k : report 2 copy ∷ [] ≡ whole_answer pv session timing (versions_from start (x ∷ older)) = e in cc)

-- what is committed is not over on a link that lives, and on an idle one it is the newest version
abbrev pub Current : Version → Instance → Link → Option Committed → VrpSet → ℕ → Type 0
Current pv i Closed version table now = ⊤
Current pv i (Ended end) version table now = ⊤
Current pv i Idle version table now = HoldsNewest pv (session_in pv i) (versions i) version table × (is_over version now ≡ false)
Current pv i link version table now = is_over version now ≡ false

abbrev pub IsCurrent : Version → Instance → Router → Type 0
IsCurrent pv i r = Current pv i r.link r.version r.table r.now

-- on a connection that was made at the present instance as it is
module _ (all : List Instance) (i : Instance) (p : Present all i) (r : Router) (h : Seen) (made : h.made ≡ i) (own : h.session ≡ session_in r.spoken i) (sets : length i.sets ≤ length h.sets) where
  abbrev C : Router → Type 0
  C k = IsCurrent r.spoken i k

  newest_stands : (version : Committed) (set : VrpSet) (a : Stands all r.spoken version.session version.serial set) → version.version ≡ r.spoken → version.session ≡ session_in r.spoken i → length i.sets ≤ length a.older + 1
      → HoldsNewest r.spoken (session_in r.spoken i) (versions i) (Some version) set
  newest_stands version set a of e since =
      let same = of_present all i p r.spoken version.session version.serial set a e in
      let is : i.sets ≡ a.newer ++ set ∷ a.older = ap (λ x. x.sets) (sym same) ∙ a.sets in
      let size = length-append a.newer (set ∷ a.older) in
      let whole = ap length is in
      let none : a.newer ≡ [] = nil_from_length a.newer (omega (arith, size, whole, since)) in
      let one : i.sets ≡ set ∷ a.older = is ∙ ap (λ x. x ++ set ∷ a.older) none in
      subst (λ x. HoldsNewest r.spoken (session_in r.spoken i) (versions_from i.start x) (Some version) set) (sym one) (of, e, a.serial_is ∙ ap (λ x. serial_at x.start (length a.older)) same, refl)

  -- If nothing is published, nothing of this session is held.
  none_of : (version : Option Committed) (table : VrpSet) → HeldAt all r.spoken version table → Mine h.session version → i.sets ≡ [] → version ≡ None
  none_of None table t mine e = refl
  none_of (Some version) table t mine e = absurd (has_sets all i p r.spoken version.session version.serial table t (mine ∙ own) e)

  none_held : (version : Option Committed) (table : VrpSet) (now : ℕ) → TableAt all version table → Mine h.session (of_version r.spoken version) → i.sets ≡ [] → is_over version now ≡ false → Current r.spoken i Idle version table now
  none_held version table now t mine e fresh = (
    subst (λ x. HoldsNewest r.spoken (session_in r.spoken i) (versions_from i.start x) version table) (sym e)
        (none_of (of_version r.spoken version) table (held_at all r.spoken version table t) mine e, λ none. subst (λ v. TableAt all v table) none t),
    fresh,
  )

  no_sets : (units : List Unit) (copy : List ℕ) → units ≡ report 2 copy ∷ [] → OneReply all r.spoken h AskReset units → i.sets ≡ []
  no_sets units copy e (inl from) =
      let none : from.cache.sets ≡ [] = no_versions r.spoken (session_in r.spoken from.cache) from.cache.start from.cache.sets copy (sym e ∙ from.are) in
      sym (ap (λ x. x.sets) made) ∙ nothing_right from.was.since.more h.made.sets (sym from.was.since.sets ∙ none)
  no_sets units copy e (inr other) =
      absurd (other_report 2 1 copy [] (λ n. absurd (omega (arith, n))) (sym e ∙ other.1))

  -- every PDU
  unit_current : (u : Unit) (more wanted : List Unit) → Belongs all h r u more wanted → TableAt all r.version r.table → C r → C (on_unit r.link u r)
  unit_current u more wanted c t = by_shape all h r (λ l v k. Current r.spoken i l r.version r.table r.now → C k) u more wanted c (record {
    asks = λ one serial is s c. c.1;
    stays = λ l one serial is live s c. subst (λ x. Current r.spoken i x r.version r.table r.now) (sym is) c;
    replies = λ w. record {
      idles = λ copy e f one c. none_held r.version r.table r.now t f (no_sets (report 2 copy ∷ without_notifies more) copy (ap (λ x. report 2 copy ∷ x) e) one) c;
      again = λ serial e f one c. c;
      other = λ session serial copy differs f one c. tt;
      lacks = λ q e f one c. tt;
      begins = λ q own a f one c. c;
    };
    stages = λ a announce v b w ag se f o e c. c;
    commits = λ a v one number intervals w e ag mine stands since c. (
      newest_stands (record { version = r.spoken; session = one; serial = number; moment = r.now; intervals = intervals }) (led_to (base_of a.question r.table) a.withdrawn a.announced) stands refl (mine ∙ own) (omega (arith, since, sets)),
      lasts intervals.expire r.now,
    );
  })

-- A link that lives is of the version that the router speaks, and was made at this instance; an idle one holds its newest version.
abbrev pub FreshLink : Instance → Option Instance → Router → Type 0
FreshLink i home r = (is_reading r.link ≡ true → (r.spoken ≡ r.speaks) × (home ≡ Some i)) × IsCurrent r.spoken i r

abbrev pub Fresh : Instance → Side → Type 0
Fresh i s = FreshLink i s.home s.router

-- a link that does not live
no_current : (pv : Version) (i : Instance) (l : Link) (version : Option Committed) (table : VrpSet) (now : ℕ) → is_reading l ≡ false → Current pv i l version table now
no_current pv i Closed version table now e = tt
no_current pv i (Ended end) version table now e = tt
no_current pv i _ version table now e = false_true (sym e)

dead_fresh : (i : Instance) (home : Option Instance) (r : Router) → is_reading r.link ≡ false → FreshLink i home r
dead_fresh i home r e = ((λ live. false_true (sym e ∙ live)), no_current r.spoken i r.link r.version r.table r.now e)

closed_reads : (l : Link) → is_closed l ≡ true → is_reading l ≡ false
closed_reads Closed e = refl
closed_reads _ e = false_true e

-- What is held on a link that lives is not over.
lasting : (pv : Version) (i : Instance) (l : Link) (version : Option Committed) (table : VrpSet) (now : ℕ) → is_reading l ≡ true → Current pv i l version table now → is_over version now ≡ false
lasting pv i Closed version table now live c = false_true live
lasting pv i (Ended end) version table now live c = false_true live
lasting pv i Idle version table now live c = c.1
lasting pv i _ version table now live c = c

-- the clean-up
told_fresh : (i : Instance) (all : List Instance) (s : Side) → Fresh i s → Fresh i (tell_closed all s)
told_fresh i all s h = let k : Side = tell_closed all s in dead_fresh i k.home k.router (closed_reads k.router.link (told_closes all s))

pub settle_fresh : (i : Instance) (all : List Instance) (s : Side) → Fresh i s → Fresh i (settle all s)
settle_fresh i all s h = settle_keeps (λ x. Fresh i x) (λ x c u d k. k) all (told_fresh i all) s h

-- the clock: it does not advance
same_moment : (now : ℕ) → later now now ≡ now
same_moment now = grind (arith, nat_tests)

clocked_fresh : (i : Instance) (home : Option Instance) (r : Router) → FreshLink i home r → FreshLink i home (clocked r.now r)
clocked_fresh i home r h = by_clock (FreshLink i home) r.now r (λ lasts. (h.0, current)) (λ over on. by_live over (is_reading r.link) refl) (λ over live opened. absurd (not_over over live))
  where
    current : Current r.spoken i r.link r.version r.table (later r.now r.now)
    current = subst (λ x. Current r.spoken i r.link r.version r.table x) (sym (same_moment r.now)) h.1

    not_over : is_over r.version (later r.now r.now) ≡ true → is_reading r.link ≡ true → ⊥
    not_over over live = let e : true ≡ false = sym over ∙ lasting r.spoken i r.link r.version r.table (later r.now r.now) live current in cc

    by_live : is_over r.version (later r.now r.now) ≡ true → (live : Bool) → is_reading r.link ≡ live → FreshLink i home (record (emptied r) { now = later r.now r.now })
    by_live over true live = absurd (not_over over live)
    by_live over false dead = dead_fresh i home (record (emptied r) { now = later r.now r.now }) dead

-- What is held after the clock is not over.
clocked_lasts : (now : ℕ) (r : Router) → is_over (close (clocked now r)).version (close (clocked now r)).now ≡ false
clocked_lasts now r = by_close (λ x. is_over x.version x.now ≡ false) (clocked now r) (λ e. lasts) (λ e. lasts)
  where
    lasts : is_over (clocked now r).version (clocked now r).now ≡ false
    lasts = by_clock (λ x. is_over x.version x.now ≡ false) now r (λ holds. holds) (λ over on. refl) (λ over live opened. refl)

-- No byte changes the version of the next connection.
bytes_speak : (memory : Bool) (bytes : List ℕ) (r : Router) (j : Judgement) → (with_bytes memory bytes r j).router.speaks ≡ r.speaks
bytes_speak memory bytes r (Whole u) = by_whole (λ n. n.router.speaks ≡ r.speaks) memory bytes r u refl (unit_held r.link u (record r { held = [] })).1
bytes_speak memory bytes r _ = refl

pub byte_speaks : (m : Receiving) (b : ℕ) → (router_byte m b).router.speaks ≡ m.router.speaks
unfolding router_byte
byte_speaks m b = bytes_speak (finds_memory m.wanting) (m.router.held ++ b ∷ []) m.router (judge m.router.spoken (not m.router.agreed) (m.router.held ++ b ∷ []))

-- what is known of a connection that was made at the instance as it is
record Made (i : Instance) (pv : Version) (h : Seen) : Type 0 where
  pub made : h.made ≡ i
  pub session : h.session ≡ session_in pv i
  pub sets : length i.sets ≤ length h.sets

seen_made : (keep : ℕ) (i : Instance) (pv : Version) (home : Option Instance) (seen : Option Seen) (h : Seen) → h.version ≡ pv → home ≡ Some i → seen ≡ Some h → IsSeen keep home seen → Made i pv h
seen_made keep i pv home seen h of he se is =
    let k : IsSeen keep (Some i) (Some h) = subst₂ (λ a b. IsSeen keep a b) he se is in
    record { made = k.0; session = k.2 ∙ ap (λ v. session_in v i) of; sets = k.3 }

module _ (all : List Instance) (i : Instance) (p : Present all i) (keep : ℕ) (home : Option Instance) (seen : Option Seen) (is_seen : IsSeen keep home seen) (conn : Option Conn) (up : List ℕ) where
  abbrev StaysFresh : List ℕ → Receiving → Type 0
  StaysFresh down m = GoodRouter all i seen conn up down m.router × FreshLink i home m.router

  -- A link that lives on is of the same version.
  same_spoken : (down down' : List ℕ) (r n : Router) → Live all i seen r conn up down → Live all i seen n conn up down' → n.spoken ≡ r.spoken
  same_spoken down down' r n l k = sym k.2.version ∙ ap (λ x. x.version) (some_is k.0 l.0 (sym k.1 ∙ l.1)) ∙ l.2.version

  stays_fresh : (down down' : List ℕ) (r n : Router) → Live all i seen r conn up down → GoodRouter all i seen conn up down' n → n.speaks ≡ r.speaks → (r.spoken ≡ r.speaks) × (home ≡ Some i) → IsCurrent r.spoken i n → FreshLink i home n
  stays_fresh down down' r n l g same fresh c = by_link (is_reading n.link) refl
    where
      by_link : (live : Bool) → is_reading n.link ≡ live → FreshLink i home n
      by_link false e = dead_fresh i home n e
      by_link true e =
          let of : n.spoken ≡ r.spoken = same_spoken down down' r n l (live_of n.link all i seen n conn up down' g.link e) in
          ((λ live. (of ∙ fresh.0 ∙ sym same, fresh.1)), subst (λ v. IsCurrent v i n) (sym of) c)

  read_current : (down : List ℕ) (m : Receiving) (b : ℕ) → router_stops m.router ≡ false → StaysFresh (b ∷ down) m → IsCurrent m.router.spoken i (router_byte m b).router
  unfolding router_byte
  read_current down m b on s =
      let r : Router = m.router in
      router_by all i seen conn up (λ n. IsCurrent r.spoken i n.router) down r b (finds_memory m.wanting) on s.0 (λ h f e x. s.1.1) (λ h u e. tt) (λ h f e u more is x c.
      let k = seen_made keep i r.spoken home seen h f.version (s.1.0 c.live).1 e is_seen in
      unit_current all i p (record r { held = [] }) h k.made k.session k.sets u.unit (units_in more) f.wanted c s.0.table s.1.1)

  stays_byte : (tail : List ℕ) (b : ℕ) (rest : List ℕ) (m : Receiving) → router_stops m.router ≡ false → StaysFresh (b ∷ rest ++ tail) m → StaysFresh (rest ++ tail) (router_byte m b)
  stays_byte tail b rest m on s =
      let parts = and_parts (is_reading m.router.link) (is_none m.router.out) (true_of_not (is_reading m.router.link && is_none m.router.out) on) in
      let l = live_of m.router.link all i seen m.router conn up (b ∷ rest ++ tail) s.0.link parts.0 in
      let good = byte_good all i seen conn up (rest ++ tail) m b on s.0 in
      (good, stays_fresh (b ∷ rest ++ tail) (rest ++ tail) m.router (router_byte m b).router l good (byte_speaks m b) (s.1.0 parts.0) (read_current (rest ++ tail) m b on s))

  -- it is handed a piece
  stays_fed : (tail : List ℕ) (m : Receiving) (piece : List ℕ) → StaysFresh (piece ++ tail) m
      → StaysFresh ((feed (λ x. router_stops x.router) router_byte m piece).rest ++ tail) (feed (λ x. router_stops x.router) router_byte m piece).machine
  stays_fed tail m piece s = feed_keeps (λ x. router_stops x.router) router_byte (λ rest x. StaysFresh (rest ++ tail) x) (stays_byte tail) m piece s

module _ (w : World) (p : Present (instances w) w.present) where
  abbrev GoodS : Side → Type 0
  GoodS s = Good w.keep w.past w.present s

  abbrev FreshS : Side → Type 0
  FreshS s = Fresh w.present s

  router_gets_fresh : (most : ℕ) (wanting : Option ℕ) (s : Side) → GoodS s → FreshS s → FreshS (router_gets w most wanting s)
  unfolding router_gets receives
  router_gets_fresh most wanting s g h =
      let start = subst (λ d. GoodRouter (instances w) w.present g.seen s.conn s.up d s.router) (sym (take-append-drop most s.down)) g.router in
      let told = clocked_good (instances w) w.present g.seen s.conn s.up (take most s.down ++ drop most s.down) s.router.now s.router start in
      let fed = stays_fed (instances w) w.present p w.keep s.home g.seen g.is_seen s.conn s.up (drop most s.down) (record { router = clocked s.router.now s.router; items = At s.router.now ∷ []; wanting = wanting }) (take most s.down)
      (told, clocked_fresh w.present s.home s.router h) in
      fed.1

  pub connects_fresh : (s : Side) → FreshS (connects w s)
  unfolding connects connects_at
  connects_fresh s = ((λ live. (refl, refl)), clocked_lasts s.router.now s.router)

  pub step_fresh : (event : SideEvent) (wanting : Option ℕ) (s : Side) → IsMove event → GoodS s → FreshS s → FreshS (side_step w event wanting s)
  unfolding side_step router_sends router_pulled cache_gets cache_sends cut
  step_fresh Connect wanting s is g h = connects_fresh s
  step_fresh (RouterSends most) wanting s is g h = h
  step_fresh (CacheGets most) wanting s is g h = gets_keep FreshS (λ x conn up down read k. k) w most wanting s s.conn h
  step_fresh (CacheSends most) wanting s is g h = sends_keep FreshS (λ x conn up down read k. k) w.keep most s s.conn h
  step_fresh (RouterGets most) wanting s is g h = router_gets_fresh most wanting s g h
  step_fresh (Cut left) wanting s is g h = h
  step_fresh _ wanting s is g h = absurd is

  lesser_move : (event : SideEvent) (bytes : ℕ) → IsMove event → IsMove (lesser event bytes)
  lesser_move Connect bytes is = is
  lesser_move _ bytes is = is

  part_fresh : (event : SideEvent) (bytes : ℕ) (wanting : Option ℕ) (s : Side) → IsMove event → GoodS s → FreshS s → FreshS (side_part w event bytes wanting s)
  part_fresh event bytes wanting s is g h = part_by FreshS w event bytes wanting s h (λ m. step_fresh (lesser event bytes) wanting s (lesser_move event bytes is) g h)

  pub refused_fresh : (event : SideEvent) (bytes : ℕ) (wanting : Option ℕ) (s : Side) → IsMove event → GoodS s → FreshS s → FreshS (side_refused w event bytes wanting s)
  unfolding side_refused cut
  refused_fresh event bytes wanting s is g h = part_fresh event bytes wanting s is g h

-- After every list of events, a router that connected last and only moved since holds the newest version if its link is idle. a fact of the
-- side of this number
abbrev pub AtSide : (Side → Type 0) → ℕ → List Side → Type 0
AtSide P r [] = ⊤
AtSide P zero (s ∷ sides) = P s
AtSide P (suc r) (s ∷ sides) = AtSide P r sides

pub at_on_side : (K P Q : Side → Type 0) (r : ℕ) (f : Side → Side) (sides : List Side) → ((s : Side) → K s → P s → Q (f s)) → AllByRecursion K sides → AtSide P r sides → AtSide Q r (on_side r f sides)
at_on_side K P Q r f [] goes k h = tt
at_on_side K P Q zero f (s ∷ sides) goes k h = goes s k.0 h
at_on_side K P Q (suc r) f (s ∷ sides) goes k h = at_on_side K P Q r f sides goes k.1 h

pub at_map : (P Q : Side → Type 0) (r : ℕ) (f : Side → Side) (sides : List Side) → ((s : Side) → P s → Q (f s)) → AtSide P r sides → AtSide Q r (map f sides)
at_map P Q r f [] goes h = tt
at_map P Q zero f (s ∷ sides) goes h = goes s h
at_map P Q (suc r) f (s ∷ sides) goes h = at_map P Q r f sides goes h

at_any : (r : ℕ) (sides : List Side) → AtSide (λ s. ⊤) r sides
at_any r [] = tt
at_any zero (s ∷ sides) = tt
at_any (suc r) (s ∷ sides) = at_any r sides

pub of_side : (P : Side → Type 0) (r : ℕ) (sides : List Side) (s : Side) → AtSide P r sides → side_at r sides ≡ Some s → P s
of_side P r [] s h e = absurd (let k : ◌≡◌ {A = Option Side} None (Some s) = e in cc)
of_side P zero (x ∷ sides) s h e = let same : x ≡ s = cc in subst P same h
of_side P (suc r) (x ∷ sides) s h e = of_side P r sides s h e

module _ (r : ℕ) where
  abbrev FreshAt : World → Type 0
  FreshAt w = AtSide (Fresh w.present) r w.sides

  settled_fresh : (w : World) → FreshAt w → FreshAt (settled w)
  unfolding settled
  settled_fresh w h = at_map (Fresh w.present) (Fresh w.present) r (settle (instances w)) w.sides (settle_fresh w.present (instances w)) h

  connected_fresh : (wanting : Option ℕ) (w : World) → GoodWorld w → FreshAt (after (On r Connect) (Done wanting) w)
  unfolding goes_through side_step
  connected_fresh wanting w g =
      settled_fresh (goes_through (On r Connect) wanting w)
      (at_on_side (Good w.keep w.past w.present) (λ s. ⊤) (Fresh w.present) r (side_step w Connect wanting) w.sides (λ s k h. connects_fresh w g.present s) g.sides (at_any r w.sides))

  after_fresh : (event : SideEvent) (outcome : Outcome) (w : World) → IsMove event → GoodWorld w → FreshAt w → FreshAt (after (On r event) outcome w)
  unfolding goes_through is_refused
  after_fresh event (Done wanting) w is g h =
      settled_fresh (goes_through (On r event) wanting w)
      (at_on_side (Good w.keep w.past w.present) (Fresh w.present) (Fresh w.present) r (side_step w event wanting) w.sides (λ s k x. step_fresh w g.present event wanting s is k x) g.sides h)
  after_fresh event (Memory bytes wanting) w is g h =
      settled_fresh (record w { sides = on_side r (side_refused w event bytes wanting) w.sides })
      (at_on_side (Good w.keep w.past w.present) (Fresh w.present) (Fresh w.present) r (side_refused w event bytes wanting) w.sides (λ s k x. refused_fresh w g.present event bytes wanting s is k x) g.sides h)
  after_fresh event _ w is g h = h

  move_fresh : (event : Event) (outcome : Outcome) (w : World) → IsMoveOf r event → GoodWorld w → FreshAt w → FreshAt (after event outcome w)
  move_fresh (On one event) outcome w is g h = subst (λ x. FreshAt (after (On x event) outcome w)) (sym is.0) (after_fresh event outcome w is.1 g h)
  move_fresh _ outcome w is g h = absurd is

  moves_fresh : (old : World) (moves : List Entry) (w : World) → LeadsFrom old moves w → AreMoves r moves → GoodWorld old → AllTell old → FreshAt old → FreshAt w
  moves_fresh old [] w leads are g t h = subst FreshAt (sym leads) h
  moves_fresh old (entry ∷ moves) w leads are g t h =
      moves_fresh leads.0 moves w leads.2 are.1 (subst GoodWorld (sym leads.1.2) (after_good entry.event entry.outcome old leads.1.0 leads.1.1 g t))
      (subst AllTell (sym leads.1.2) (after_tells entry.event entry.outcome old t)) (subst FreshAt (sym leads.1.2) (move_fresh entry.event entry.outcome old are.0 g h))

  history_fresh : (old : World) (before moves : List Entry) (wanting : Option ℕ) (w : World) → LeadsFrom old (before ++ record { event = On r Connect; outcome = Done wanting } ∷ moves) w → AreMoves r moves → GoodWorld old → AllTell old → FreshAt w
  history_fresh old [] moves wanting w leads are g t =
      moves_fresh leads.0 moves w leads.2 are (subst GoodWorld (sym leads.1.2) (after_good (On r Connect) (Done wanting) old leads.1.0 leads.1.1 g t))
      (subst AllTell (sym leads.1.2) (after_tells (On r Connect) (Done wanting) old t)) (subst FreshAt (sym leads.1.2) (connected_fresh wanting old g))
  history_fresh old (entry ∷ before) moves wanting w leads are g t =
      history_fresh leads.0 before moves wanting w leads.2 are (subst GoodWorld (sym leads.1.2) (after_good entry.event entry.outcome old leads.1.0 leads.1.1 g t))
      (subst AllTell (sym leads.1.2) (after_tells entry.event entry.outcome old t))

is_fresh : (i : Instance) (home : Option Instance) (r : Router) (l : Link) → r.link ≡ l → FreshLink i home r → IsFresh i home r l
is_fresh i home r Closed is h = tt
is_fresh i home r (Ended end) is h = tt
is_fresh i home r Idle is h = let k : Current r.spoken i Idle r.version r.table r.now = subst (λ x. Current r.spoken i x r.version r.table r.now) is h.1 in let o = h.0 (ap is_reading is) in (o.0, o.1, k.0)
is_fresh i home r _ is h = h.0 (ap is_reading is)

pub idle_is_current : IdleIsCurrent
idle_is_current made before moves r wanting w s leads are e =
    let fresh = history_fresh r (new_world made.routers made.session made.session0 made.start made.keep) before moves wanting w leads.1 are (new_good made leads.0) (all_new SideTells new_side_tells made.routers) in
    is_fresh w.present s.home s.router s.router.link refl (of_side (Fresh w.present) r w.sides s fresh e)
