-- What a PDU that comes to the router does to its link.
use Rattle.rtr_world.proofs.Words.{◌≡◌, ℕ, ◌+◌, ◌≤◌, Bool, true, false, List, [], ◌∷◌, ◌++◌, length, Some, if◌then◌else◌, refl, not, Option, None, sym, ap, ◌∙◌, subst, arith, append_assoc, Payload, Instance, VrpSet, Unit, SerialNotify, CacheResponse, Prefix, EndOfData, EndOfData0, judge, Version, session_in, Router, on_unit, Link, Closed, Idle, Asked, Answering, Ended, Begun, Committed, Question, AskSerial, base_of, led_to, Item, Reads, kept, is_commit, Conn, finds_memory, Noted, reads, with_bytes, Receiving, asked_by, router_stops, router_byte, feed, feed_keeps, Tells, live_unit, byte_tells, goes_so, eq_self}
use Rattle.rtr_ends.specs.declared.link.End.TheVariants as ends
use Rattle.rtr_world.specs.OneAnswer.{units_in, without_notifies}
use Rattle.rtr_world.specs.World.{is_ended, places_of}
use Rattle.rtr_world.specs.VersionPlaces.{VersionPlace, version_place_of}
use Rattle.rtr_world.proofs.Invariant.{read_of, Shape, nothing_yet, Flow, GoodLink, GoodRouter, Live, Open, if_open}
use Rattle.rtr_world.proofs.UnitsAtRouters.{stage_reads}
use Rattle.rtr_world.proofs.UnitEffects.{Belongs, by_shape}
use Rattle.rtr_world.proofs.SideSteps.{byte_good, router_by}
use Rattle.rtr_world.proofs.EventCalls.{reading_on}
use Rattle.rtr_world.proofs.Versions.{Stands, find_session, Seen, same_instance, some_is, IsReadAt, IsSeen}
use Rattle.rtr_world.proofs.Places.{Found, Ordered, ordered_more, place_at, stands_found, young_enough}

abbrev pub is_end : Unit → Bool
is_end (EndOfData session serial refresh retry expire) = true
is_end (EndOfData0 session serial) = true
is_end u = false

abbrev pub is_answering : Link → Bool
is_answering (Answering a) = true
is_answering l = false

-- How a link continues: it stays at a notify; an answer begins; a record is staged; or no answer is under way.
pub data Continues (l : Link) (u : Unit) (next : Link) : Type 0 where
  stays : (session serial : ℕ) → u ≡ SerialNotify session serial → next ≡ l → Continues l u next
  begins : (q : Question) (session : ℕ) → u ≡ CacheResponse session → next ≡ Answering (nothing_yet q session) → Continues l u next
  stages : (a b : Begun) (announce : Bool) (v : Payload) → l ≡ Answering a → u ≡ Prefix announce v → next ≡ Answering b → read_of b ≡ read_of a ++ Prefix announce v ∷ [] → Continues l u next
  leaves : is_answering next ≡ false → Continues l u next

-- The link continues. Or a report says that another session is asked for, or that memory runs out. Or a version is committed that is at
-- least as late as the one that was current when the connection was made.
pub data Brings (all : List Instance) (h : Seen) (r : Router) (l : Link) (u : Unit) (k : Router) : Type 0 where
  goes_on : is_ended k.link ≡ false → is_end u ≡ false → Continues l u k.link → Brings all h r l u k
  ends_other : (session serial : ℕ) → l ≡ Asked (AskSerial session serial) → (session ≡ h.session → ⊥) → k.link ≡ Ended (ends.Told 0) → is_end u ≡ false → Brings all h r l u k
  ends_memory : k.link ≡ Ended (ends.Told 1) → is_end u ≡ false → Brings all h r l u k
  commits : (version : Committed) (table : VrpSet) → k.link ≡ Idle → k.version ≡ Some version → version.version ≡ r.spoken → version.session ≡ h.session
      → (stands : Stands all version.version version.session version.serial table) → length h.sets ≤ length stands.older + 1 → Brings all h r l u k

-- every PDU that may come
pub unit_brings : (all : List Instance) (h : Seen) (r : Router) (u : Unit) (more wanted : List Unit) → Belongs all h r u more wanted → Brings all h r r.link u (on_unit r.link u r)
unit_brings all h r u more wanted c = by_shape all h r (Brings all h r) u more wanted c (record {
  asks = λ one serial is s. goes_on refl refl (leaves refl);
  stays = λ l one serial is live s. goes_on (ap is_ended is ∙ reading_on l live) refl (stays one serial refl is);
  replies = λ w. record {
    idles = λ copy e f one. goes_on refl refl (leaves refl);
    again = λ serial e f one. goes_on refl refl (leaves refl);
    other = λ session serial copy differs f one. ends_other session serial refl differs refl refl;
    lacks = λ q e f one. ends_memory refl refl;
    begins = λ q own a f one. goes_on refl refl (begins q h.session refl refl);
  };
  stages = λ a announce v b w ag se f o e. goes_on refl refl (stages a b announce v refl refl refl (stage_reads (base_of a.question r.table) a announce v b (without_notifies more) e o.order).0);
  commits = λ a v one number intervals w e ag own stands since.
      commits (record { version = r.spoken; session = one; serial = number; moment = r.now; intervals = intervals }) (led_to (base_of a.question r.table) a.withdrawn a.announced) refl refl refl own stands since;
})

-- What a router commits of a piece, and where that is.
-- the places of items that come after others
places-append : (all : List Instance) (xs ys before : List Item) → places_of all (xs ++ ys) before ≡ places_of all xs (ys ++ before) ++ places_of all ys before
places-append all [] ys before = refl
places-append all (x ∷ xs) ys before =
    (λ j. (if is_commit (x ∷ append_assoc xs ys before j) then version_place_of all (kept (x ∷ append_assoc xs ys before j)).version ∷ [] else []) ++ places-append all xs ys before j)
    ∙ sym (append_assoc (if is_commit (x ∷ (xs ++ (ys ++ before))) then version_place_of all (kept (x ∷ (xs ++ (ys ++ before)))).version ∷ [] else []) (places_of all xs (ys ++ before)) (places_of all ys before))

-- only an End of Data commits
no_commit : (u : Unit) (items : List Item) → is_end u ≡ false → is_commit (Reads u ∷ items) ≡ false
no_commit (EndOfData session serial refresh retry expire) items h = absurd (let e : true ≡ false = h in cc)
no_commit (EndOfData0 session serial) items h = absurd (let e : true ≡ false = h in cc)
no_commit u items h = refl

one_place : (b : Bool) (p : Option VersionPlace) → ((if b then p ∷ [] else []) ++ []) ≡ (if b then p ∷ [] else [])
one_place true p = refl
one_place false p = refl

unit_places : (all : List Instance) (l : Link) (out : List ℕ) (u : Unit) (items : List Item) (b : Bool) → is_commit (Reads u ∷ items) ≡ b
    → places_of all (asked_by l out ++ Reads u ∷ []) items ≡ (if b then version_place_of all (kept (Reads u ∷ items)).version ∷ [] else [])
unit_places all l out u items b e = asked l out ∙ one_place (is_commit (Reads u ∷ items)) p ∙ ap (λ x. if x then version_place_of all (kept (Reads u ∷ items)).version ∷ [] else []) e
  where
    p : Option VersionPlace
    p = version_place_of all (kept (Reads u ∷ items)).version

    asked : (l : Link) (out : List ℕ) → places_of all (asked_by l out ++ Reads u ∷ []) items ≡ (if is_commit (Reads u ∷ items) then version_place_of all (kept (Reads u ∷ items)).version ∷ [] else []) ++ []
    asked (Asked q) [] = refl
    asked (Asked q) (c ∷ out) = refl
    asked Closed out = refl
    asked Idle out = refl
    asked (Answering a) out = refl
    asked (Ended end) out = refl

-- What reading adds to the places: nothing, or that of a version at least as late as what was seen
pub data Adds (past : List Instance) (i : Instance) (h : Seen) (n : Noted) (items : List Item) : Type 0 where
  nothing : places_of (i ∷ past) n.items items ≡ [] → Adds past i h n items
  one : (version : Committed) (table : VrpSet) (stands : Stands (i ∷ past) version.version version.session version.serial table) (f : Found (i ∷ past) version.version version.session version.serial (length stands.older))
      → n.router.link ≡ Idle → version.version ≡ h.version → version.session ≡ h.session → length h.sets ≤ length stands.older + 1
      → places_of (i ∷ past) n.items items ≡ Some (place_at f.rank (length stands.older)) ∷ [] → Adds past i h n items

unit_adds : (past : List Instance) (i : Instance) (h : Seen) (r : Router) (u : Unit) (items : List Item) → h.version ≡ r.spoken → Tells (on_unit r.link u r) (asked_by (on_unit r.link u r).link (on_unit r.link u r).out ++ Reads u ∷ items)
    → Brings (i ∷ past) h r r.link u (on_unit r.link u r) → Adds past i h (reads u r) items
unit_adds past i h r u items of t (goes_on on none c) = nothing (unit_places (i ∷ past) (on_unit r.link u r).link (on_unit r.link u r).out u items false (no_commit u items none))
unit_adds past i h r u items of t (ends_other session serial is other e none) = nothing (unit_places (i ∷ past) (on_unit r.link u r).link (on_unit r.link u r).out u items false (no_commit u items none))
unit_adds past i h r u items of t (ends_memory e none) = nothing (unit_places (i ∷ past) (on_unit r.link u r).link (on_unit r.link u r).out u items false (no_commit u items none))
unit_adds past i h r u items of t (commits version table e v spoken own stands since) = by_commit (is_commit (Reads u ∷ items)) refl
  where
    k : Router
    k = on_unit r.link u r

    f : Found (i ∷ past) version.version version.session version.serial (length stands.older)
    f = stands_found (i ∷ past) version.version version.session version.serial table stands

    told : Tells k (Reads u ∷ items)
    told = subst (λ l. Tells k (asked_by l k.out ++ Reads u ∷ items)) e t

    place : version_place_of (i ∷ past) (kept (Reads u ∷ items)).version ≡ Some (place_at f.rank (length stands.older))
    place = ap (λ x. version_place_of (i ∷ past) x.version) told.kept_is ∙ ap (version_place_of (i ∷ past)) v ∙ f.named

    by_commit : (b : Bool) → is_commit (Reads u ∷ items) ≡ b → Adds past i h (reads u r) items
    by_commit false c = nothing (unit_places (i ∷ past) k.link k.out u items false c)
    by_commit true c = one version table stands f e (spoken ∙ sym of) own since (unit_places (i ∷ past) k.link k.out u items true c ∙ ap (λ x. x ∷ []) place)

-- what a later version is seen as
seen_more : (keep : ℕ) (home : Option Instance) (h : Seen) (set : VrpSet) (older : List VrpSet) → length h.sets ≤ length older + 1 → IsSeen keep home (Some h) → IsSeen keep home (Some (record h { sets = set ∷ older }))
seen_more keep None h set older since s = s
seen_more keep (Some home) h set older since s = let k = s.3 in (s.0, s.1, s.2, omega (arith, k, since))

module _ (keep : ℕ) (past : List Instance) (i : Instance) (home read : Option Instance) (conn : Option Conn) (up : List ℕ) where
  abbrev all : List Instance
  all = i ∷ past

  -- an idle router whose version is later
  raised : (down : List ℕ) (r : Router) (h : Seen) (pv : Version) (session serial : ℕ) (set : VrpSet) (a : Stands (i ∷ past) pv session serial set) → pv ≡ h.version → session ≡ h.session → r.link ≡ Idle
      → GoodRouter (i ∷ past) i (Some h) conn up down r → GoodRouter (i ∷ past) i (Some (record h { sets = set ∷ a.older })) conn up down r
  raised down r h pv session serial set a of own is g =
      let l : Live (i ∷ past) i (Some h) r conn up down = subst (λ x. GoodLink (i ∷ past) i (Some h) x r conn up down) is g.link in
      let f : Flow (i ∷ past) i h r conn up down = subst (λ x. Flow (i ∷ past) i x r conn up down) (sym (some_is h l.0 l.1)) l.2 in
      let sh : Shape (i ∷ past) r.spoken h Idle r.agreed r.version r.table f.wanted (without_notifies (units_in f.coming)) = subst (λ x. Shape (i ∷ past) r.spoken h x r.agreed r.version r.table f.wanted (without_notifies (units_in f.coming))) is f.shape in
      let live : Live (i ∷ past) i (Some (record h { sets = set ∷ a.older })) r conn up down = (
        record h { sets = set ∷ a.older },
        refl,
        record {
          said = record { wanted = f.wanted; coming = f.coming; version = f.version; session = f.session; notifies = f.notifies; own = f.own; mine = f.mine; shape = subst (λ x. Shape (i ∷ past) r.spoken (record h { sets = set ∷ a.older }) x r.agreed r.version r.table f.wanted (without_notifies (units_in f.coming))) (sym is) sh };
          lost = f.lost;
          downward = f.downward;
          open_at = if_open (Open i r.spoken h r.out up f.wanted f.coming r.agreed f.lost) (Open i r.spoken (record h { sets = set ∷ a.older }) r.out up f.wanted f.coming r.agreed f.lost) conn
              (λ o op. record { linked = record { whole = op.whole; session = op.session; made = young (of ∙ f.version) op.session; later = op.later }; upward = op.upward; spoken = op.spoken; unheard = op.unheard }) f.open_at;
        },
      ) in
      record { table = g.table; unmarked = g.unmarked; config = g.config; link = subst (λ x. GoodLink (i ∷ past) i (Some (record h { sets = set ∷ a.older })) x r conn up down) (sym is) live }
    where
      young : pv ≡ r.spoken → h.session ≡ session_in r.spoken i → length (set ∷ a.older) ≤ length i.sets
      young of here =
          let is : session ≡ session_in pv i = own ∙ here ∙ ap (λ v. session_in v i) (sym of) in
          let present : find_session pv (session_in pv i) (i ∷ past) ≡ Some i = ap (λ b. if b then Some i else find_session pv (session_in pv i) past) (eq_self (session_in pv i)) in
          let same : a.i ≡ i = same_instance a.i i (find_session pv session (i ∷ past)) a.found (subst (λ s. find_session pv s (i ∷ past) ≡ Some i) (sym is) present) in
          let k = young_enough i a.newer set a.older (ap (λ x. x.sets) (sym same) ∙ a.sets) in omega (arith, k)

  -- what holds between two bytes
  pub record Goes (items : List Item) (places : List (Option VersionPlace)) (down : List ℕ) (m : Receiving) : Type 0 where
    pub seen : Option Seen
    pub good : GoodRouter (i ∷ past) i seen conn up down m.router
    pub tells : Tells m.router (m.items ++ items)
    pub is_seen : IsSeen keep home seen
    pub is_read : IsReadAt read seen
    pub order : Ordered past i (places_of (i ∷ past) m.items items ++ places) seen

  adds_goes : (items : List Item) (places : List (Option VersionPlace)) (down : List ℕ) (m : Receiving) (n : Noted) (wanting : Option ℕ) (seen : Option Seen) (h : Seen) → seen ≡ Some h → Adds past i h n (m.items ++ items) → GoodRouter (i ∷ past) i seen conn up down n.router
      → Tells n.router ((n.items ++ m.items) ++ items) → IsSeen keep home seen → IsReadAt read seen → Ordered past i (places_of (i ∷ past) m.items items ++ places) seen → Goes items places down (record { router = n.router; items = n.items ++ m.items; wanting = wanting })
  adds_goes items places down m n wanting seen h e (nothing none) g t s d o = record {
    seen = seen;
    good = g;
    tells = t;
    is_seen = s;
    is_read = d;
    order = subst (λ x. Ordered past i (x ++ places) seen) (sym (places-append (i ∷ past) n.items m.items items ∙ ap (λ x. x ++ places_of (i ∷ past) m.items items) none)) o;
  }
  adds_goes items places down m n wanting seen h e (one version table stands f is of own since more) g t s d o = record {
    seen = Some (record h { sets = table ∷ stands.older });
    good = raised down n.router h version.version version.session version.serial table stands of own is (subst (λ x. GoodRouter (i ∷ past) i x conn up down n.router) e g);
    tells = t;
    is_seen = seen_more keep home h table stands.older since (subst (λ x. IsSeen keep home x) e s);
    is_read = subst (λ x. IsReadAt read x) e d;
    order = subst (λ x. Ordered past i (x ++ places) (Some (record h { sets = table ∷ stands.older })))
        (sym (places-append (i ∷ past) n.items m.items items ∙ ap (λ x. x ++ places_of (i ∷ past) m.items items) more))
        (ordered_more past i h (places_of (i ∷ past) m.items items ++ places) version.version version.session version.serial table stands f of own since (subst (λ x. Ordered past i (places_of (i ∷ past) m.items items ++ places) x) e o));
  }

  goes_byte : (items : List Item) (places : List (Option VersionPlace)) (tail : List ℕ) (b : ℕ) (rest : List ℕ) (m : Receiving) → router_stops m.router ≡ false → Goes items places (b ∷ rest ++ tail) m → Goes items places (rest ++ tail) (router_byte m b)
  unfolding router_byte
  goes_byte items places tail b rest m on g =
      let r : Router = m.router in
      let n : Noted = with_bytes (finds_memory m.wanting) (r.held ++ b ∷ []) r (judge r.spoken (not r.agreed) (r.held ++ b ∷ [])) in
      let adds : (h : Seen) × (g.seen ≡ Some h) × Adds past i h n (m.items ++ items) =
      router_by (i ∷ past) i g.seen conn up (λ n. (h : Seen) × (g.seen ≡ Some h) × Adds past i h n (m.items ++ items)) (rest ++ tail) r b (finds_memory m.wanting) on g.good (λ h f e s. (h, e, nothing refl)) (λ h u e. (h, e, nothing refl))
      (λ h f e u more is s c. (
        h,
        e,
        unit_adds past i h (record r { held = [] }) u.unit (m.items ++ items) f.version
            (live_unit (record r { held = [] }) r.link u.unit (m.items ++ items) c.live refl (record { kept_is = g.tells.kept_is; due_is = g.tells.due_is; now_is = g.tells.now_is; spoken_is = g.tells.spoken_is; config_is = g.tells.config_is; none = (goes_so r on).1 }) g.tells.link)
            (unit_brings (i ∷ past) h (record r { held = [] }) u.unit (units_in more) f.wanted c),
      )) in
      adds_goes items places (rest ++ tail) m n (router_byte m b).wanting g.seen adds.0 adds.1 adds.2 (byte_good (i ∷ past) i g.seen conn up (rest ++ tail) m b on g.good) (byte_tells m b items on g.tells) g.is_seen g.is_read g.order

  -- it is handed a piece
  pub goes_fed : (items : List Item) (places : List (Option VersionPlace)) (tail : List ℕ) (m : Receiving) (piece : List ℕ) → Goes items places (piece ++ tail) m
      → Goes items places ((feed (λ x. router_stops x.router) router_byte m piece).rest ++ tail) (feed (λ x. router_stops x.router) router_byte m piece).machine
  goes_fed items places tail m piece g = feed_keeps (λ x. router_stops x.router) router_byte (λ rest x. Goes items places (rest ++ tail) x) (goes_byte items places tail) m piece g
