-- Every event keeps the invariant of the world, and so the headline holds.
use Rattle.rtr_world.proofs.Words.{◌≡◌, ℕ, suc, ◌+◌, ◌-◌, ◌<◌, ◌≤◌, ◌^◌, Bool, true, false, ◌&&◌, ◌||◌, ◌==◌, nat_lt, List, [], ◌∷◌, ◌++◌, length, Option, Some, None, is_some, if◌then◌else◌, refl, ⊤, map, take, drop, AllByRecursion, sym, ap, ◌∙◌, subst, arith, inl, inr, append_assoc, and_parts, or_parts, length-append, take-append-drop, Route, Instance, IsInstance, versions, HasState, state, is_current, published, VrpSet, state_is, published_is_instance, Unit, Version, V0, V1, EndOfData, EndOfData0, session_in, Conn, finds_memory, IsLater, Router, on_unit, IsKept, Link, Idle, Asked, Answering, Ended, Begun, Committed, Question, base_of, kept, Item, At, Reads, Lacks, Kept, acts_once, at_end_of_data, bounded, does_commit, led_to, moment, nothing, spoken, under_way, Receiving, asked_by, router_stops, router_byte, clocked, receives, is_kept, byte_tells, clocked_tells, feed_keeps, Tells, acts_exactly, eq_self, eq_of, eq_true, lt_true, chosen, configured}
use Rattle.rtr_ends.specs.declared.link.End.TheVariants as ends
use Rattle.rtr_world.specs.Claims.{ActExactlyOnce, Always, EachOnce, HoldsNamed, IsRouteJudged, IsNamed, Headline, NoWayBack, RouteStates, AnswersNow, Tables, ActsOnce, OneWorld, EachLeads, RefusesRightly}
use Rattle.rtr_world.specs.History.{Outcome, Done, SessionUsed, TooManyVersions, Memory, is_near, room_for, room_since, all_have_room, is_used, refusal, MayEnd, after, IsEvent, Entry, Made, IsMade, conn_due, Leads, LeadsFrom}
use Rattle.rtr_world.specs.OneAnswer.{units_in, without_notifies}
use Rattle.rtr_world.specs.VersionPlaces.{NeverBack, position_of}
use Rattle.rtr_world.specs.World.{Side, SideEvent, World, instances, Event, Publish, Restart, On, cache_gone, on_side, goes_through, settled, is_refused, side_step, side_refused, settle, new_world, cache_gets, new_side}
use Rattle.rtr_world.proofs.EventSteps.{step_good, refused_good, settle_good, gets_now}
use Rattle.rtr_world.proofs.EventCalls.{leads_keep, KeptByCalls, each_after, if_comes}
use Rattle.rtr_world.proofs.Invariant.{WasCache, OfAnswer, OneReply, Replies, no_data, not_kept, other_session, no_memory, response, Shape, IfOpen, Linked, Open, Flow, Good, GoodRouter, if_open}
use Rattle.rtr_world.proofs.Places.{IfSeen, IsHome, ordered_published, ordered_restarted}
use Rattle.rtr_world.proofs.SideLaws.{all_new, all_on_side, all_map, all_both, all_weaker}
use Rattle.rtr_world.proofs.SideSteps.{live_map, byte_good, clocked_good, router_by}
use Rattle.rtr_world.proofs.UnitStreams.{Stream}
use Rattle.rtr_world.proofs.KeptTables.{AllTell, SideTells, after_tells, new_side_tells}
use Rattle.rtr_world.proofs.Versions.{Stands, TableAt, Present, table_named, position_at, of_present, stands_published, stands_restarted, find_session, lt_of, same_session_in, some_is, Seen, IsSeen}
use Rattle.rtr_world.proofs.UnitCases.{Brings, unit_brings}

-- What a transcript commits, acts, and acts once.
at_end_once : (answer : Option Begun) (version : Committed) (k : Kept) → ActsOnce (does_commit answer version.session k.table) answer k.table (at_end_of_data answer version k).table
at_end_once None version k = tt
at_end_once (Some a) version k = by_test (version.session == a.session) (acts_once (base_of a.question k.table) a.withdrawn a.announced) refl
  where
    by_test : (same once : Bool) → acts_once (base_of a.question k.table) a.withdrawn a.announced ≡ once
        → ActsOnce (same && once) (Some a) k.table (if same then (if once then record { version = Some version; table = led_to (base_of a.question k.table) a.withdrawn a.announced; before = k.table } else k) else nothing).table
    by_test false once is = tt
    by_test true false is = tt
    by_test true true is = (acts_exactly (base_of a.question k.table) a.withdrawn a.announced).0 is

pub each_once : (items : List Item) → EachOnce items
each_once [] = tt
each_once (Reads (EndOfData session serial refresh retry expire) ∷ items) =
    (at_end_once (under_way items) (record { version = spoken items; session = session; serial = serial; moment = moment items; intervals = chosen (configured items) (bounded refresh retry expire) }) (kept items), each_once items)
each_once (Reads (EndOfData0 session serial) ∷ items) =
    (at_end_once (under_way items) (record { version = spoken items; session = session; serial = serial; moment = moment items; intervals = (configured items).intervals }) (kept items), each_once items)
each_once (_ ∷ items) = (tt, each_once items)

pub record GoodWorld (w : World) : Type 0 where
  pub present : Present (instances w) w.present
  pub sides : AllByRecursion (Good w.keep w.past w.present) w.sides

-- An answer that stays one makes a shape that stays.
abbrev StaysAnswer : List Instance → List Instance → Version → Seen → Type 0
StaysAnswer all all' pv h =
    ((base : VrpSet) (a : Begun) (rest : List Unit) → OfAnswer all pv h base a rest → OfAnswer all' pv h base a rest)
    × ((cache : Instance) → WasCache all h cache → WasCache all' h cache)

replies_map : (all all' : List Instance) (pv : Version) (h : Seen) (q : Question) (base : VrpSet) (rest : List Unit) → StaysAnswer all all' pv h → Replies all pv h q base rest → Replies all' pv h q base rest
replies_map all all' pv h q base rest stays (no_data copy a b) = no_data copy a b
replies_map all all' pv h q base rest stays (not_kept serial a b) = not_kept serial a b
replies_map all all' pv h q base rest stays (other_session session serial copy a differs b) = other_session session serial copy a differs b
replies_map all all' pv h q base rest stays (no_memory a) = no_memory a
replies_map all all' pv h q base rest stays (response tail a b c) = response tail a b (stays.0 base _ tail c)

one_map : (all all' : List Instance) (pv : Version) (h : Seen) (q : Question) (units : List Unit) → StaysAnswer all all' pv h → OneReply all pv h q units → OneReply all' pv h q units
one_map all all' pv h q units stays (inl a) = inl (record { cache = a.cache; was = stays.1 a.cache a.was; are = a.are })
one_map all all' pv h q units stays (inr a) = inr (record { cache = a.0.cache; was = stays.1 a.0.cache a.0.was; takes = a.0.takes }, a.1)

shape_map : (l : Link) (all all' : List Instance) (pv : Version) (h : Seen) (agreed : Bool) (version : Option Committed) (table : VrpSet) (wanted rest : List Unit) → StaysAnswer all all' pv h → Shape all pv h l agreed version table wanted rest → Shape all' pv h l agreed version table wanted rest
shape_map Idle all all' pv h agreed version table wanted rest stays s = s
shape_map (Asked q) all all' pv h agreed version table wanted rest stays s =
    (s.0, elim (s.1) [ inl w ↦ inl w | inr w ↦ inr (w.0, replies_map all all' pv h q (base_of q table) rest stays w.1, one_map all all' pv h q rest stays w.2) ])
shape_map (Answering a) all all' pv h agreed version table wanted rest stays s = (s.0, s.1, s.2, s.3, stays.0 (base_of a.question table) a rest s.4)
shape_map _ all all' pv h agreed version table wanted rest stays s = tt

-- a flow whose answer and connection stay
flow_map : (all all' : List Instance) (i i' : Instance) (h : Seen) (r : Router) (conn conn' : Option Conn) (up up' down : List ℕ) (f : Flow all i h r conn up down) (lost : List ℕ) → conn_due conn ++ f.lost ≡ conn_due conn' ++ lost
    → IfOpen conn' (Open i' r.spoken h r.out up' f.wanted f.coming r.agreed lost) → StaysAnswer all all' r.spoken h → Flow all' i' h r conn' up' down
flow_map all all' i i' h r conn conn' up up' down f lost bytes opens stays = record {
  said = record { wanted = f.wanted; coming = f.coming; version = f.version; session = f.session; notifies = f.notifies; own = f.own; mine = f.mine; shape = shape_map r.link all all' r.spoken h r.agreed r.version r.table f.wanted (without_notifies (units_in f.coming)) stays f.shape };
  lost = lost;
  downward = subst (λ x. Stream r.held (down ++ x) f.coming) bytes f.downward;
  open_at = opens;
}

-- A set is published
module _ (keep : ℕ) (past : List Instance) (i : Instance) (y : VrpSet) (p : Present (i ∷ past) i) where
  abbrev next : Instance
  next = record i { sets = y ∷ i.sets }

  -- room after a version that is there
  room_of : (pv : Version) (session serial : ℕ) (set : VrpSet) (a : Stands (i ∷ past) pv session serial set) (least : ℕ) → least ≤ length a.older → (session_in pv i ≡ session → nat_lt (length i.sets - least) (2 ^ 31) ≡ true) → session_in pv i ≡ session → length a.newer + 1 < 2 ^ 31
  room_of pv session serial set a least low test e =
      let found = of_present (i ∷ past) i p pv session serial set a (sym e) in
      let few = lt_of (length i.sets - least) 2147483648 (test e) in
      let count : length i.sets ≡ length a.newer + (length a.older + 1) = ap (λ x. length x.sets) (sym found) ∙ ap length a.sets ∙ length-append a.newer (set ∷ a.older) ∙ more (length a.newer) (length a.older) in
      omega (arith, few, count, low)
    where
      more : (n m : ℕ) → n + suc m ≡ n + (m + 1)
      more n m = omega arith

  pub room_after : (version : Committed) (table : VrpSet) (t : Stands (i ∷ past) version.version version.session version.serial table) → room_for i (Some version) ≡ true → session_in version.version i ≡ version.session → length t.newer + 1 < 2 ^ 31
  room_after version table t room = room_of version.version version.session version.serial table t (length t.older) (omega arith) test
    where
      test : session_in version.version i ≡ version.session → nat_lt (length i.sets - length t.older) (2 ^ 31) ≡ true
      test e =
          let found = of_present (i ∷ past) i p version.version version.session version.serial table t (sym e) in
          let place : position_of version.serial (versions i) ≡ Some (length t.older) = ap (λ x. position_of version.serial (versions x)) (sym found) ∙ position_at (i ∷ past) version.version version.session version.serial table t in
          ap (is_near i) (sym place) ∙ sym (ap (λ b. if b then is_near i (position_of version.serial (versions i)) else true) (eq_true (session_in version.version i) version.session e)) ∙ room

  table_published : (version : Option Committed) (table : VrpSet) → room_for i version ≡ true → TableAt (i ∷ past) version table → TableAt (next ∷ past) version table
  table_published None table room t = t
  table_published (Some version) table room t = (stands_published past i y version.version version.session version.serial table t (room_after version table t room)).0

  -- room after what was seen
  room_seen : (home : Option Instance) (h : Seen) (pv : Version) → IsSeen keep home (Some h) → h.version ≡ pv → IsHome i h → room_since i home ≡ true → session_in pv i ≡ h.session → nat_lt (length i.sets - (length h.sets - 1)) (2 ^ 31) ≡ true
  room_seen None h pv seen of at_home room e = absurd seen
  room_seen (Some home) h pv seen of at_home room e =
      let same : i.session ≡ home.session = at_home (ap (λ v. session_in v i) of ∙ e) ∙ ap (λ x. x.session) seen.0 in
      let test : nat_lt (length i.sets - (length home.sets - 1)) (2 ^ 31) ≡ true = sym (ap (λ b. if b then is_near i (Some (length home.sets - 1)) else true) (eq_true i.session home.session same)) ∙ room in
      let few = lt_of (length i.sets - (length home.sets - 1)) 2147483648 test in
      let more = seen.3 in
      lt_true (length i.sets - (length h.sets - 1)) 2147483648 (omega (arith, few, more))

  later_published : (cache : Instance) → IsLater cache i → IsLater cache next
  later_published cache l = record { session = l.session; session0 = l.session0; start = l.start; more = y ∷ l.more; sets = ap (λ x. y ∷ x) l.sets }

  was_published : (h : Seen) (cache : Instance) → WasCache (i ∷ past) h cache → WasCache (next ∷ past) h cache
  was_published h cache f = by_session (i.session == h.made.session) refl f.found
    where
      by_session : (b : Bool) → (i.session == h.made.session) ≡ b → (if b then Some i else find_session V1 h.made.session past) ≡ Some f.latest → WasCache (next ∷ past) h cache
      by_session true e g =
          record {
            since = f.since;
            latest = next;
            found = ap (λ b. if b then Some next else find_session V1 h.made.session past) e;
            until = later_published cache (subst (λ x. IsLater cache x) (sym (some_is i f.latest g)) f.until);
            read = f.read;
          }
      by_session false e g = record {
        since = f.since;
        latest = f.latest;
        found = ap (λ b. if b then Some next else find_session V1 h.made.session past) e ∙ g;
        until = f.until;
        read = f.read;
      }

  answer_published : (pv : Version) (h : Seen) → (session_in pv i ≡ h.session → nat_lt (length i.sets - (length h.sets - 1)) (2 ^ 31) ≡ true) → (base : VrpSet) (a : Begun) (rest : List Unit) → OfAnswer (i ∷ past) pv h base a rest → OfAnswer (next ∷ past) pv h base a rest
  answer_published pv h test base a rest o =
      let low : length h.sets - 1 ≤ length o.stands.older = (let s = o.since in omega (arith, s)) in
      let s = stands_published past i y pv h.session o.serial o.set o.stands (room_of pv h.session o.serial o.set o.stands (length h.sets - 1) low test) in
      record { serial = o.serial; set = o.set; stands = s.0; leads = o.leads; since = subst (λ x. length h.sets ≤ length x + 1) (sym s.1) o.since; from = record { cache = o.from.cache; was = was_published h o.from.cache o.from.was; are = o.from.are }; ends = o.ends; commits = o.commits; order = o.order }

  linked_published : (pv : Version) (h : Seen) (lost : List ℕ) → Linked i pv h lost → Linked next pv h lost
  linked_published pv h lost l = record {
    whole = l.whole;
    session = l.session ∙ sym (same_session_in pv i (y ∷ i.sets));
    made = (let m = l.made in omega (arith, m));
    later = later_published h.made l.later;
  }

  side_published : (s : Side) → (room_for i s.router.version && room_since i s.home) ≡ true → Good keep past i s → Good keep past next s
  side_published s room g =
      let parts = and_parts (room_for i s.router.version) (room_since i s.home) room in
      record {
        seen = g.seen;
        is_seen = g.is_seen;
        is_read = g.is_read;
        order = ordered_published past i y s.places g.seen g.order;
        router = record {
          table = table_published s.router.version s.router.table parts.0 g.router.table;
          unmarked = g.router.unmarked;
          config = g.router.config;
          link = live_map s.router.link (i ∷ past) (next ∷ past) i next g.seen g.seen s.router s.router s.conn s.conn s.up s.up s.down s.down (λ x. x) (λ x. x) refl refl g.router.link (λ l. (
            l.0,
            l.1,
            flow_map (i ∷ past) (next ∷ past) i next l.0 s.router s.conn s.conn s.up s.up s.down l.2 l.2.lost refl
                (if_open (Open i s.router.spoken l.0 s.router.out s.up l.2.wanted l.2.coming s.router.agreed l.2.lost) (Open next s.router.spoken l.0 s.router.out s.up l.2.wanted l.2.coming s.router.agreed l.2.lost) s.conn
                (λ o op. record { linked = linked_published s.router.spoken l.0 l.2.lost op.linked; upward = op.upward; spoken = op.spoken; unheard = op.unheard }) l.2.open_at)
                (answer_published s.router.spoken l.0 (room_seen s.home l.0 s.router.spoken (subst (λ x. IsSeen keep s.home x) l.1 g.is_seen) l.2.version (subst (λ x. IfSeen x (IsHome i)) l.1 g.order.at_home) parts.1), was_published l.0),
          ));
        };
      }

  sides_published : (sides : List Side) → all_have_room i sides ≡ true → AllByRecursion (Good keep past i) sides → AllByRecursion (Good keep past next) sides
  sides_published [] room g = tt
  sides_published (s ∷ sides) room g =
      let parts = and_parts (room_for i s.router.version && room_since i s.home) (all_have_room i sides) room in
      (side_published s parts.0 g.0, sides_published sides parts.1 g.1)

-- The cache restarts under sessions that no instance has
module _ (keep : ℕ) (past : List Instance) (old i : Instance) (new : (pv : Version) → find_session pv (session_in pv i) (old ∷ past) ≡ None) where
  table_restarted : (version : Option Committed) (table : VrpSet) → TableAt (old ∷ past) version table → TableAt (i ∷ (old ∷ past)) version table
  table_restarted None table t = t
  table_restarted (Some version) table t = (stands_restarted (old ∷ past) i version.version version.session version.serial table (new version.version) t).0

  was_restarted : (h : Seen) (cache : Instance) → WasCache (old ∷ past) h cache → WasCache (i ∷ (old ∷ past)) h cache
  was_restarted h cache f = record { since = f.since; latest = f.latest; found = by_session (i.session == h.made.session) refl; until = f.until; read = f.read }
    where
      by_session : (b : Bool) → (i.session == h.made.session) ≡ b → find_session V1 h.made.session (i ∷ (old ∷ past)) ≡ Some f.latest
      by_session true e =
          let none : find_session V1 h.made.session (old ∷ past) ≡ None = subst (λ s. find_session V1 s (old ∷ past) ≡ None) (eq_of i.session h.made.session e) (new V1) in
          absurd (let k : ◌≡◌ {A = Option Instance} None (Some f.latest) = sym none ∙ f.found in cc)
      by_session false e = ap (λ b. if b then Some i else find_session V1 h.made.session (old ∷ past)) e ∙ f.found

  answer_restarted : (pv : Version) (h : Seen) (base : VrpSet) (a : Begun) (rest : List Unit) → OfAnswer (old ∷ past) pv h base a rest → OfAnswer (i ∷ (old ∷ past)) pv h base a rest
  answer_restarted pv h base a rest o =
      let s = stands_restarted (old ∷ past) i pv h.session o.serial o.set (new pv) o.stands in
      record { serial = o.serial; set = o.set; stands = s.0; leads = o.leads; since = subst (λ x. length h.sets ≤ length x + 1) (sym s.1) o.since; from = record { cache = o.from.cache; was = was_restarted h o.from.cache o.from.was; are = o.from.are }; ends = o.ends; commits = o.commits; order = o.order }

  side_restarted : (s : Side) → Good keep past old s → Good keep (old ∷ past) i (cache_gone s)
  side_restarted s g = record {
    seen = g.seen;
    is_seen = g.is_seen;
    is_read = g.is_read;
    order = ordered_restarted past old i s.places g.seen new g.order;
    router = record {
      table = table_restarted s.router.version s.router.table g.router.table;
      unmarked = g.router.unmarked;
      config = g.router.config;
      link = live_map s.router.link (old ∷ past) (i ∷ (old ∷ past)) old i g.seen g.seen s.router s.router s.conn None s.up [] s.down s.down (λ x. x) (λ x. x) refl refl g.router.link (λ l. (
        l.0,
        l.1,
        flow_map (old ∷ past) (i ∷ (old ∷ past)) old i l.0 s.router s.conn None s.up [] s.down l.2 (conn_due s.conn ++ l.2.lost) refl tt (answer_restarted s.router.spoken l.0, was_restarted l.0),
      ));
    };
  }

-- Every event
settled_good : (w : World) → GoodWorld w → GoodWorld (settled w)
unfolding settled
settled_good w g = record { present = g.present; sides = all_map (Good w.keep w.past w.present) (Good w.keep w.past w.present) (settle (instances w)) w.sides (settle_good w g.present) g.sides }

pub or_cases : (a b : Bool) → (a || b) ≡ true → a ≡ false → b ≡ true
or_cases true b h e = absurd (let k : true ≡ false = e in cc)
or_cases false b h e = h

-- what is not refused
pub published_so : (a : Bool) (w : World) (event : Event) (wanting : Option ℕ) → MayEnd (if a then None else Some TooManyVersions) w event (Done wanting) → a ≡ true
published_so true w event wanting h = refl
published_so false w event wanting h = absurd (let e : Done wanting ≡ TooManyVersions = h in cc)

restarted_so : (a : Bool) (w : World) (event : Event) (wanting : Option ℕ) → MayEnd (if a then Some SessionUsed else None) w event (Done wanting) → a ≡ false
restarted_so true w event wanting h = absurd (let e : Done wanting ≡ SessionUsed = h in cc)
restarted_so false w event wanting h = refl

none_found : (o : Option Instance) → is_some o ≡ false → o ≡ None
none_found None h = refl
none_found (Some i) h = absurd (let e : true ≡ false = h in cc)

-- an instance that begins
abbrev pub begun : ℕ → ℕ → ℕ → Instance
begun session session0 start = record { session = session; session0 = session0; start = start; sets = [] }

-- It goes through if no other has a session of it.
pub unused_so : (session session0 start : ℕ) (wanting : Option ℕ) (w : World) → MayEnd (refusal w (Restart session session0 start)) w (Restart session session0 start) (Done wanting) → (pv : Version) → find_session pv (session_in pv (begun session session0 start)) (instances w) ≡ None
unfolding refusal
unused_so session session0 start wanting w may =
    let unused = or_parts (is_used V1 (instances w) session) (is_used V0 (instances w) session0) (restarted_so (is_used V1 (instances w) session || is_used V0 (instances w) session0) w (Restart session session0 start) wanting may) in
    by_version unused.0 unused.1
  where
    by_version : is_used V1 (instances w) session ≡ false → is_used V0 (instances w) session0 ≡ false → (pv : Version) → find_session pv (session_in pv (begun session session0 start)) (instances w) ≡ None
    by_version one zero V0 = none_found (find_session V0 session0 (instances w)) zero
    by_version one zero V1 = none_found (find_session V1 session (instances w)) one

pub through_good : (event : Event) (wanting : Option ℕ) (w : World) → IsEvent event → MayEnd (refusal w event) w event (Done wanting) → GoodWorld w → AllTell w → GoodWorld (goes_through event wanting w)
unfolding goes_through refusal
through_good (Publish set) wanting w fits may g t = by_current (is_current w.present.sets set) refl
  where
    i : Instance
    i = w.present

    free : (is_current i.sets set || all_have_room i w.sides) ≡ true
    free = published_so (is_current i.sets set || all_have_room i w.sides) w (Publish set) wanting may

    by_current : (b : Bool) → is_current i.sets set ≡ b → GoodWorld (record w { present = published set i })
    by_current true e = subst (λ b. GoodWorld (record w { present = if b then i else record i { sets = set ∷ i.sets } })) (sym e) (record { present = g.present; sides = g.sides })
    by_current false e =
        let n : IsInstance (if is_current i.sets set then i else record i { sets = set ∷ i.sets }) = published_is_instance set i fits g.present.is in
        subst (λ b. GoodWorld (record w { present = if b then i else record i { sets = set ∷ i.sets } })) (sym e)
        (record {
          present = record {
            found = λ pv. ap (λ b. if b then Some (record i { sets = set ∷ i.sets }) else find_session pv (session_in pv (record i { sets = set ∷ i.sets })) w.past) (eq_self (session_in pv (record i { sets = set ∷ i.sets })));
            is = subst (λ b. IsInstance (if b then i else record i { sets = set ∷ i.sets })) e n;
          };
          sides = sides_published w.keep w.past i set g.present w.sides (or_cases (is_current i.sets set) (all_have_room i w.sides) free e) g.sides;
        })
through_good (Restart session session0 start) wanting w fits may g t =
    let new = unused_so session session0 start wanting w may in
    record {
      present = record {
        found = λ pv. ap (λ b. if b then Some (begun session session0 start) else find_session pv (session_in pv (begun session session0 start)) (instances w)) (eq_self (session_in pv (begun session session0 start)));
        is = record { session = fits.0; session0 = fits.1; start = fits.2; sets = tt; news = tt };
      };
      sides = all_map (Good w.keep w.past w.present) (Good w.keep (instances w) (begun session session0 start)) cache_gone w.sides (side_restarted w.keep w.past w.present (begun session session0 start) new) g.sides;
    }
through_good (On r event) wanting w fits may g t =
    record {
      present = g.present;
      sides = all_on_side (λ s. Good w.keep w.past w.present s × SideTells s) (Good w.keep w.past w.present) r (side_step w event wanting) w.sides (λ s h. h.0) (λ s h. step_good w g.present event wanting s h.0 h.1)
          (all_both (Good w.keep w.past w.present) SideTells w.sides g.sides t);
    }

-- what is refused because memory ran out, before the routers are notified
pub part_so : (r : ℕ) (event : SideEvent) (bytes : ℕ) (wanting : Option ℕ) (w : World) → GoodWorld w → AllTell w → GoodWorld (record w { sides = on_side r (side_refused w event bytes wanting) w.sides })
part_so r event bytes wanting w g t = record {
  present = g.present;
  sides = all_on_side (λ s. Good w.keep w.past w.present s × SideTells s) (Good w.keep w.past w.present) r (side_refused w event bytes wanting) w.sides (λ s h. h.0) (λ s h. refused_good w g.present event bytes wanting s h.0 h.1)
      (all_both (Good w.keep w.past w.present) SideTells w.sides g.sides t);
}

pub after_good : (event : Event) (outcome : Outcome) (w : World) → IsEvent event → MayEnd (refusal w event) w event outcome → GoodWorld w → AllTell w → GoodWorld (after event outcome w)
unfolding is_refused
after_good event (Done wanting) w fits may g t = settled_good (goes_through event wanting w) (through_good event wanting w fits may g t)
after_good (On r event) (Memory bytes wanting) w fits may g t = settled_good (record w { sides = on_side r (side_refused w event bytes wanting) w.sides }) (part_so r event bytes wanting w g t)
after_good _ _ w fits may g t = g

abbrev pub first : Made → World
first made = new_world made.routers made.session made.session0 made.start made.keep

pub new_good : (made : Made) → IsMade made → GoodWorld (first made)
new_good made is = record {
  present = record {
    found = λ pv. ap (λ b. if b then Some (begun made.session made.session0 made.start) else None) (eq_self (session_in pv (begun made.session made.session0 made.start)));
    is = record { session = is.session; session0 = is.session0; start = is.start; sets = tt; news = tt };
  };
  sides = all_new (Good made.keep [] (begun made.session made.session0 made.start)) (record { seen = None; is_seen = tt; is_read = tt; order = record { never_back = tt; current = tt; at_seen = tt; at_home = tt }; router = record { table = refl; unmarked = refl; config = refl; link = (refl, refl, refl, refl) } }) made.routers;
}

-- What each event keeps of good worlds holds after every list of events.
pub known_leads : (P : World → Type 0) → ((event : Event) (outcome : Outcome) (w : World) → IsEvent event → MayEnd (refusal w event) w event outcome → GoodWorld w → AllTell w → P w → P (after event outcome w))
    → (made : Made) (history : List Entry) (w : World) → Leads made history w → P (first made) → GoodWorld w × AllTell w × P w
known_leads P keeps made history w leads h =
    leads_keep (λ x. GoodWorld x × AllTell x × P x)
    (λ event outcome x fits may k. (after_good event outcome x fits may k.0 k.1, after_tells event outcome x k.1, keeps event outcome x fits may k.0 k.1 k.2)) (first made) history w leads.1
    (new_good made leads.0, all_new SideTells new_side_tells made.routers, h)

pub good_world : (made : Made) (history : List Entry) (w : World) → Leads made history w → GoodWorld w
good_world made history w leads = (known_leads (λ x. ⊤) (λ event outcome x fits may g t h. tt) made history w leads tt).0

-- what is known of a side at an event
abbrev pub Known : World → Side → Type 0
Known w s = Good w.keep w.past w.present s × SideTells s

pub known_sides : (w : World) → GoodWorld w → AllTell w → AllByRecursion (Known w) w.sides
known_sides w g t = all_both (Good w.keep w.past w.present) SideTells w.sides g.sides t

pub history_known : (made : Made) (history : List Entry) (w : World) → Leads made history w → AllByRecursion (Known w) w.sides
history_known made history w leads = let k = known_leads (λ x. ⊤) (λ event outcome x fits may g t h. tt) made history w leads tt in known_sides w k.0 k.1

-- What follows from that holds always.
pub always : (Q : World → Side → Type 0) → ((w : World) → Present (instances w) w.present → (s : Side) → Known w s → Q w s) → Always Q
always Q each made history w leads = all_weaker (Known w) (Q w) w.sides (each w (good_world made history w leads).present) (history_known made history w leads)

-- Each router holds what its transcript keeps.
pub tables : Tables
tables = always (λ w s. IsKept s.router s.items) (λ w p s k. is_kept s.router s.items k.1.tells)

-- The headline
named_so : (w : World) (s : Side) → Known w s → IsNamed (instances w) (kept s.items).version s.router.table
named_so w s k = subst (λ v. IsNamed (instances w) v s.router.table) (is_kept s.router s.items k.1.tells).version (table_named (instances w) s.router.version s.router.table k.0.router.table)

pub headline : Headline
headline = always (λ w s. IsNamed (instances w) (kept s.items).version s.router.table) (λ w p s k. named_so w s k)

-- and so do the states of routes
judged : (all : List Instance) (version : Option Committed) (table : VrpSet) (route : Route) → IsNamed all version table → IsRouteJudged all version route (state table route)
judged all None table route is = subst (λ t. HasState t route (state table route)) is (state_is table route)
judged all (Some version) table route is = (table, is, state_is table route)

pub route_states : RouteStates
route_states =
    always (λ w s. (route : Route) → IsRouteJudged (instances w) (kept s.items).version route (state s.router.table route)) (λ w p s k route. judged (instances w) (kept s.items).version s.router.table route (named_so w s k))

-- No way back
pub no_way_back : NoWayBack
no_way_back = always (λ w s. NeverBack s.places) (λ w p s k. k.0.order.never_back)

-- the set and the answers over it
pub sentence : Always (λ w s. HoldsNamed (instances w) s.items s.router.table)
sentence = always (λ w s. HoldsNamed (instances w) s.items s.router.table) (λ w p s k. record {
  named_so = named_so w s k;
  once = each_once s.items;
  routes = λ route. judged (instances w) (kept s.items).version s.router.table route (named_so w s k);
})

pub act_once : ActExactlyOnce
act_once = always (λ w s. EachOnce s.items) (λ w p s k. each_once s.items)

-- A question is answered as the cache is when it is read.
pub answers_now : AnswersNow
unfolding cache_gets
answers_now = always _ (λ w p s k live most wanting. gets_now w p most wanting s s.conn refl live k.0)

-- What each call, each wire and each PDU keeps holds after every list of events.
-- what each event keeps
pub record KeptAlways (P : Side → Type 0) : Type 0 where
  pub new : P new_side
  pub keeps : (w : World) → KeptByCalls w (λ s wanting. Known w s) P

module _ (P : Side → Type 0) (k : KeptAlways P) where
  abbrev AllP : World → Type 0
  AllP w = AllByRecursion P w.sides

  abbrev KnownP : World → Side → Type 0
  KnownP w s = Known w s × P s

  known : (w : World) → GoodWorld w → AllTell w → AllP w → AllByRecursion (KnownP w) w.sides
  known w g t h = all_both (Known w) P w.sides (known_sides w g t) h

  after_keeps : (event : Event) (outcome : Outcome) (w : World) → GoodWorld w → AllTell w → AllP w → AllP (after event outcome w)
  after_keeps event outcome w g t h = each_after (λ w s wanting. Known w s) P k.keeps event outcome w (KnownP w) (λ s x. x.1) (λ s x. if_comes (λ s wanting. Known w s) event outcome s (λ wanting. x.0)) (known w g t h)

  pub history_keeps : (made : Made) (history : List Entry) (w : World) → Leads made history w → AllByRecursion P w.sides
  history_keeps made history w leads = (known_leads AllP (λ event outcome x fits may g t h. after_keeps event outcome x g t h) made history w leads (all_new P k.new made.routers)).2

  pub always_kept : (Q : World → Side → Type 0) → ((w : World) (s : Side) → P s → Q w s) → Always Q
  always_kept Q each made history w leads = all_weaker P (Q w) w.sides (each w) (history_keeps made history w leads)

-- What a PDU, or a part of one, that comes to a router on its wire keeps, a piece keeps.
module _ (w : World) (s : Side) (known : Known w s) (Q : Router → List Item → Type 0)
    (part : (r : Router) (held : List ℕ) (items : List Item) → Q r items → Q (record r { held = held }) items)
    (lack : (r : Router) (u : Unit) (items : List Item) → Q (record r { link = Ended ends.Memory }) (Lacks u ∷ items))
    (read : (h : Seen) (r : Router) (u : Unit) (items : List Item) → known.0.seen ≡ Some h → h.version ≡ r.spoken → Tells r items → Q r items → Brings (instances w) h r r.link u (on_unit r.link u r)
    → Q (on_unit r.link u r) (asked_by (on_unit r.link u r).link (on_unit r.link u r).out ++ Reads u ∷ items)) where
  record Goes (down : List ℕ) (m : Receiving) : Type 0 where
    good : GoodRouter (instances w) w.present known.0.seen s.conn s.up down m.router
    tells : Tells m.router (m.items ++ s.items)
    holds : Q m.router (m.items ++ s.items)

  byte_holds : (b : ℕ) (down : List ℕ) (m : Receiving) → router_stops m.router ≡ false → Goes (b ∷ down) m → Q (router_byte m b).router ((router_byte m b).items ++ s.items)
  unfolding router_byte
  byte_holds b down m on g =
      let k : Router = record m.router { held = [] } in
      let told : Tells k (m.items ++ s.items) = record { kept_is = g.tells.kept_is; due_is = g.tells.due_is; now_is = g.tells.now_is; spoken_is = g.tells.spoken_is; config_is = g.tells.config_is; link = g.tells.link } in
      let asked : Unit → List Item = λ u. asked_by (on_unit k.link u k).link (on_unit k.link u k).out in
      router_by (instances w) w.present known.0.seen s.conn s.up (λ n. Q n.router ((n.items ++ m.items) ++ s.items)) down m.router b (finds_memory m.wanting) on g.good
      (λ h f e x. part m.router (m.router.held ++ b ∷ []) (m.items ++ s.items) g.holds) (λ h u e. lack k u (m.items ++ s.items))
      (λ h f e u more is x c. subst (λ x. Q (on_unit k.link u.unit k) x) (sym (append_assoc (asked u.unit ++ Reads u.unit ∷ []) m.items s.items ∙ append_assoc (asked u.unit) (Reads u.unit ∷ []) (m.items ++ s.items)))
      (read h k u.unit (m.items ++ s.items) e f.version told (part m.router [] (m.items ++ s.items) g.holds) (unit_brings (instances w) h k u.unit (units_in more) f.wanted c)))

  pub received : (most : ℕ) (wanting : Option ℕ) → Q (clocked s.router.now s.router) (At s.router.now ∷ s.items)
      → Q (receives s.router.now wanting (take most s.down) s.router).machine.router ((receives s.router.now wanting (take most s.down) s.router).machine.items ++ s.items)
  unfolding receives
  received most wanting start =
      let tail : List ℕ = drop most s.down in
      let good : GoodRouter (instances w) w.present known.0.seen s.conn s.up (take most s.down ++ tail) s.router =
      subst (λ d. GoodRouter (instances w) w.present known.0.seen s.conn s.up d s.router) (sym (take-append-drop most s.down)) known.0.router in
      (feed_keeps (λ x. router_stops x.router) router_byte (λ rest x. Goes (rest ++ tail) x) (λ b rest m on g. record {
        good = byte_good (instances w) w.present known.0.seen s.conn s.up (rest ++ tail) m b on g.good;
        tells = byte_tells m b s.items on g.tells;
        holds = byte_holds b (rest ++ tail) m on g;
      }) (record { router = clocked s.router.now s.router; items = At s.router.now ∷ []; wanting = wanting }) (take most s.down) (record {
        good = clocked_good (instances w) w.present known.0.seen s.conn s.up (take most s.down ++ tail) s.router.now s.router good;
        tells = clocked_tells s.router.now s.router s.items known.1.tells;
        holds = start;
      })).holds

-- Histories lead somewhere, and to one world.
one_from : (old : World) (history : List Entry) (w v : World) → LeadsFrom old history w → LeadsFrom old history v → w ≡ v
one_from old [] w v h k = h ∙ sym k
one_from old (entry ∷ history) w v h k =
    let same : h.0 ≡ k.0 = h.1.2 ∙ sym k.1.2 in
    one_from k.0 history w v (subst (λ x. LeadsFrom x history w) same h.2) k.2

pub one_world : OneWorld
one_world made history w v h k = one_from (new_world made.routers made.session made.session0 made.start made.keep) history w v h.1 k.1

-- an outcome that an event may have
abbrev outcome_of : Option Outcome → Outcome
outcome_of None = Done None
outcome_of (Some refused) = refused

may_end : (o : Option Outcome) (w : World) (event : Event) → MayEnd o w event (outcome_of o)
may_end None w event = tt
may_end (Some refused) w event = refl

each_from : (old : World) (events : List Event) → AllByRecursion IsEvent events → (history : List Entry) × (w : World) × (map (λ e. e.event) history ≡ events) × LeadsFrom old history w
each_from old [] fits = ([], old, refl, refl)
each_from old (event ∷ events) fits =
    let outcome : Outcome = outcome_of (refusal old event) in
    let next : World = after event (outcome_of (refusal old event)) old in
    let rest = each_from (after event (outcome_of (refusal old event)) old) events fits.1 in (
      record { event = event; outcome = outcome_of (refusal old event) } ∷ rest.0,
      rest.1,
      ap (λ x. event ∷ x) rest.2,
      (after event (outcome_of (refusal old event)) old, (fits.0, may_end (refusal old event) old event, refl), rest.3),
    )

pub each_leads : EachLeads
each_leads made events is fits =
    let k = each_from (new_world made.routers made.session made.session0 made.start made.keep) events fits in (k.0, k.1, k.2, (is, k.3))

pub refuses_rightly : RefusesRightly
unfolding refusal
refuses_rightly w = record {
  never = λ set current. ap (λ b. if b || all_have_room w.present w.sides then None else Some TooManyVersions) current;
  alone = λ event refused outcome due ends. subst (λ o. MayEnd o w event outcome) due ends;
}
