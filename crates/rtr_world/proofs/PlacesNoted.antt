-- Each commit has its place, and the last place is that of the version that is held.
use Rattle.rtr_world.proofs.Words.{◌≡◌, ◌⊎◌, ℕ, suc, Bool, true, false, ◌&&◌, ◌||◌, ◌==◌, List, [], ◌∷◌, ◌++◌, length, map, take, Option, Some, None, if◌then◌else◌, refl, ⊤, sym, ap, ◌∙◌, subst, append_assoc, inl, inr, AllByRecursion, either, and_parts, cases_Bool, Instance, is_current, VrpSet, SerialNotify, CacheResponse, EndOfData, EndOfData0, ErrorReport, Version, session_in, Noted, Closes, called, Receives, Begun, Committed, Item, At, Reads, Refused, Restarts, Kept, acts_once, at_end_of_data, base_of, bounded, differs, does_commit, emptied_if, has_agreed, is_commit, is_over, is_serial, is_wrong, kept, later, moment, of_version, outstanding, responded, session_of, spoken, under_way, waiting, chosen, configured}
use Rattle.rtr_world.specs.Claims.{HasPlaces, IsLastPlace, PlacesNoted}
use Rattle.rtr_world.specs.History.{Outcome, Done, Memory, MayEnd, after, all_have_room, refusal, room_for, room_since}
use Rattle.rtr_world.specs.VersionPlaces.{VersionPlace, version_place_of}
use Rattle.rtr_world.specs.World.{Side, World, instances, Event, Publish, Restart, On, cache_gone, goes_through, is_refused, noted, places_of, router_restarts, settled}
use Rattle.rtr_world.proofs.Invariant.{Good}
use Rattle.rtr_world.proofs.Places.{place_at, rank_of, rank_restarted, stands_found}
use Rattle.rtr_world.proofs.SideLaws.{all_both, all_map, all_new}
use Rattle.rtr_world.proofs.KeptTables.{AllTell, SideTells}
use Rattle.rtr_world.proofs.Versions.{Present, Stands, TableAt, find_session, same_session_in, stands_published, stands_restarted, some_is}
use Rattle.rtr_world.proofs.WorldSteps.{GoodWorld, begun, or_cases, published_so, room_after, unused_so, known_leads}
use Rattle.rtr_world.proofs.EventCalls.{if_gets, refusal_keeps, KeptByCalls, refused_at, each_settles, done_keeps, told_by}

-- What is no commit leaves the version, or none.
abbrev Leaves : Option Committed → Option Committed → Type 0
Leaves old new = (new ≡ None) ⊎ (new ≡ old)

emptied_leaves : (b : Bool) (k : Kept) → Leaves k.version (emptied_if b k).version
emptied_leaves true k = inl refl
emptied_leaves false k = inr refl

end_leaves : (answer : Option Begun) (version : Committed) (k : Kept) → does_commit answer version.session k.table ≡ false → Leaves k.version (at_end_of_data answer version k).version
end_leaves None version k none = inr refl
end_leaves (Some a) version k none = either (λ (x : Kept). Leaves k.version x.version) (version.session == a.session) _ _
    (λ same. either (λ (x : Kept). Leaves k.version x.version) (acts_once (base_of a.question k.table) a.withdrawn a.announced) _ _
    (λ once. absurd (let e : true ≡ false = sym (λ i. same i && once i) ∙ none in cc)) (λ other. inr refl)) (λ other. inl refl)

item_leaves : (item : Item) (items : List Item) → is_commit (item ∷ items) ≡ false → Leaves (kept items).version (kept (item ∷ items)).version
item_leaves (Reads (EndOfData session serial refresh retry expire)) items none =
    end_leaves (under_way items) (record { version = spoken items; session = session; serial = serial; moment = moment items; intervals = chosen (configured items) (bounded refresh retry expire) }) (kept items) none
item_leaves (Reads (EndOfData0 session serial)) items none =
    end_leaves (under_way items) (record { version = spoken items; session = session; serial = serial; moment = moment items; intervals = (configured items).intervals }) (kept items) none
item_leaves (Reads (SerialNotify session serial)) items none = emptied_leaves (has_agreed items && differs (session_of (responded items) (of_version (spoken items) (kept items).version)) session) (kept items)
item_leaves (Reads (CacheResponse session)) items none = emptied_leaves (is_wrong (waiting items) (of_version (spoken items) (kept items).version) session) (kept items)
item_leaves (Reads (ErrorReport r)) items none = emptied_leaves (r.code == 0 && is_serial (outstanding items)) (kept items)
item_leaves (At now) items none = emptied_leaves (is_over (kept items).version (later (moment items) now)) (kept items)
item_leaves Restarts items none = inl refl
item_leaves _ items none = inr refl

-- What a transcript gains
module _ (all : List Instance) where
  last_new : (version : Option Committed) (places : List (Option VersionPlace)) → IsLastPlace all version (version_place_of all version ∷ places)
  last_new None places = tt
  last_new (Some version) places = refl

  last_left : (old new : Option Committed) (places : List (Option VersionPlace)) → Leaves old new → IsLastPlace all old places → IsLastPlace all new places
  last_left old new places (inl none) h = subst (λ x. IsLastPlace all x places) (sym none) tt
  last_left old new places (inr same) h = subst (λ x. IsLastPlace all x places) (sym same) h

  one_more : (item : Item) (items : List Item) (places : List (Option VersionPlace)) → HasPlaces all items places
      → HasPlaces all (item ∷ items) ((if is_commit (item ∷ items) then version_place_of all (kept (item ∷ items)).version ∷ [] else []) ++ places)
  one_more item items places h = elim (cases_Bool (is_commit (item ∷ items))) [
    | inl yes_it ↦ record { count = rw yes_it (ap suc h.count); last = rw yes_it (last_new (kept (item ∷ items)).version places) }
    | inr not_it ↦ record { count = rw not_it h.count; last = rw not_it (last_left (kept items).version (kept (item ∷ items)).version places (item_leaves item items not_it) h.last) }
  ]

  more : (items before : List Item) (places : List (Option VersionPlace)) → HasPlaces all before places → HasPlaces all (items ++ before) (places_of all items before ++ places)
  more [] before places h = h
  more (item ∷ items) before places h =
      subst (λ x. HasPlaces all (item ∷ (items ++ before)) x)
      (sym (append_assoc (if is_commit (item ∷ (items ++ before)) then version_place_of all (kept (item ∷ (items ++ before))).version ∷ [] else []) (places_of all items before) places))
      (one_more item (items ++ before) (places_of all items before ++ places) (more items before places h))

  abbrev SidePlaces : Side → Type 0
  SidePlaces s = HasPlaces all s.items s.places

  noted_places : (n : Noted) (s : Side) → SidePlaces s → SidePlaces (noted all n s)
  noted_places n s h = more n.items s.items s.places h

keeps_places : (w : World) → KeptByCalls w (λ s wanting. ⊤) (SidePlaces (instances w))
unfolding router_restarts
keeps_places w = record {
  wires = λ s h conn up down home read. h;
  own = λ s call own h. noted_places (instances w) (called call s.router) s h;
  gets = λ s most wanting comes h. noted_places (instances w) (called (Receives s.router.now wanting (take most s.down)) s.router) s h;
  restart = λ s h. one_more (instances w) Restarts s.items s.places h;
  refused = λ s h. told_by (SidePlaces (instances w)) (instances w) (λ s h conn up down home read. h) (λ s h. noted_places (instances w) (called (Closes s.router.now) s.router) s h) (refused_at s) (one_more (instances w) Refused s.items s.places h);
}

-- A version keeps its place if as many are before it and its session has the same rank: when another is published, and when the cache
-- restarts.
same_place : (all more : List Instance) (version : Committed) (table : VrpSet) (t : Stands all version.version version.session version.serial table) (s : Stands more version.version version.session version.serial table) → s.older ≡ t.older
    → rank_of version.version version.session all ≡ rank_of version.version version.session more → version_place_of all (Some version) ≡ version_place_of more (Some version)
same_place all more version table t s older ranks =
    let f = stands_found all version.version version.session version.serial table t in
    let g = stands_found more version.version version.session version.serial table s in
    let same : f.rank ≡ g.rank = some_is f.rank g.rank (sym f.is ∙ ranks ∙ g.is) in
    f.named ∙ (λ j. Some (place_at (same j) (length (sym older j)))) ∙ sym g.named

place_published : (past : List Instance) (i : Instance) (y : VrpSet) → Present (i ∷ past) i → (version : Option Committed) (table : VrpSet) → room_for i version ≡ true → TableAt (i ∷ past) version table
    → version_place_of (i ∷ past) version ≡ version_place_of (record i { sets = y ∷ i.sets } ∷ past) version
place_published past i y p None table room t = refl
place_published past i y p (Some version) table room t =
    let s = stands_published past i y version.version version.session version.serial table t (room_after 0 past i y p version table t room) in
    same_place (i ∷ past) (record i { sets = y ∷ i.sets } ∷ past) version table t s.0 s.1 (ap (λ n. if n == version.session then Some (length past) else rank_of version.version version.session past) (sym (same_session_in version.version i (y ∷ i.sets))))

place_restarted : (all : List Instance) (i : Instance) → ((pv : Version) → find_session pv (session_in pv i) all ≡ None) → (version : Option Committed) (table : VrpSet) → TableAt all version table → version_place_of all version ≡ version_place_of (i ∷ all) version
place_restarted all i new None table t = refl
place_restarted all i new (Some version) table t =
    let s = stands_restarted all i version.version version.session version.serial table (new version.version) t in
    let f = stands_found all version.version version.session version.serial table t in
    same_place all (i ∷ all) version table t s.0 s.1 (f.is ∙ sym (rank_restarted i all version.version version.session f.rank (new version.version) f.is))

last_moved : (all more : List Instance) (version : Option Committed) (places : List (Option VersionPlace)) → version_place_of all version ≡ version_place_of more version → IsLastPlace all version places → IsLastPlace more version places
last_moved all more None places same h = tt
last_moved all more (Some version) [] same h = h
last_moved all more (Some version) (last ∷ earlier) same h = h ∙ same

places_moved : (all more : List Instance) (s : Side) → SideTells s → version_place_of all s.router.version ≡ version_place_of more s.router.version → SidePlaces all s → SidePlaces more s
places_moved all more s t same h =
    let e : (kept s.items).version ≡ s.router.version = ap (λ k. k.version) t.tells.kept_is in
    record { count = h.count; last = last_moved all more (kept s.items).version s.places (subst (λ v. version_place_of all v ≡ version_place_of more v) (sym e) same) h.last }

-- what is known at an event
abbrev AllPlaces : World → Type 0
AllPlaces w = AllByRecursion (SidePlaces (instances w)) w.sides

published_places : (keep : ℕ) (past : List Instance) (i : Instance) (y : VrpSet) → Present (i ∷ past) i → (sides : List Side) → all_have_room i sides ≡ true → AllByRecursion (Good keep past i) sides → AllByRecursion SideTells sides
    → AllByRecursion (SidePlaces (i ∷ past)) sides → AllByRecursion (SidePlaces (record i { sets = y ∷ i.sets } ∷ past)) sides
published_places keep past i y p [] room g t h = tt
published_places keep past i y p (s ∷ sides) room g t h =
    let parts = and_parts (room_for i s.router.version && room_since i s.home) (all_have_room i sides) room in
    let one = and_parts (room_for i s.router.version) (room_since i s.home) parts.0 in (
      places_moved (i ∷ past) (record i { sets = y ∷ i.sets } ∷ past) s t.0 (place_published past i y p s.router.version s.router.table one.0 g.0.router.table) h.0,
      published_places keep past i y p sides parts.1 g.1 t.1 h.1,
    )

restarted_places : (keep : ℕ) (past : List Instance) (old i : Instance) → ((pv : Version) → find_session pv (session_in pv i) (old ∷ past) ≡ None) → (sides : List Side) → AllByRecursion (λ s. Good keep past old s × (SideTells s × SidePlaces (old ∷ past) s)) sides
    → AllByRecursion (SidePlaces (i ∷ old ∷ past)) (map cache_gone sides)
restarted_places keep past old i new sides h =
    all_map (λ s. Good keep past old s × (SideTells s × SidePlaces (old ∷ past) s)) (SidePlaces (i ∷ old ∷ past)) cache_gone sides
    (λ s k. places_moved (old ∷ past) (i ∷ old ∷ past) s k.1.0 (place_restarted (old ∷ past) i new s.router.version s.router.table k.0.router.table) k.1.1) h

published_all : (set : VrpSet) (wanting : Option ℕ) (w : World) → MayEnd (refusal w (Publish set)) w (Publish set) (Done wanting) → GoodWorld w → AllTell w → AllPlaces w → AllPlaces (goes_through (Publish set) wanting w)
unfolding goes_through refusal
published_all set wanting w may g t h =
    let free = published_so (is_current w.present.sets set || all_have_room w.present w.sides) w (Publish set) wanting may in
    elim (cases_Bool (is_current w.present.sets set)) [
      | inl same ↦ rw same h
      | inr other ↦ rw other (published_places w.keep w.past w.present set g.present w.sides (or_cases (is_current w.present.sets set) (all_have_room w.present w.sides) free other) g.sides t h)
    ]

after_places : (event : Event) (outcome : Outcome) (w : World) → MayEnd (refusal w event) w event outcome → GoodWorld w → AllTell w → AllPlaces w → AllPlaces (after event outcome w)
unfolding goes_through settled is_refused
after_places (Publish set) (Done wanting) w may g t h =
    let n : World = goes_through (Publish set) wanting w in each_settles n (λ s wanting. ⊤) (SidePlaces (instances n)) (keeps_places n) w.sides (published_all set wanting w may g t h)
after_places (Restart session session0 start) (Done wanting) w may g t h =
    let n : World = goes_through (Restart session session0 start) wanting w in
    each_settles n (λ s wanting. ⊤) (SidePlaces (instances n)) (keeps_places n) (map cache_gone w.sides)
    (restarted_places w.keep w.past w.present (begun session session0 start) (unused_so session session0 start wanting w may) w.sides
    (all_both (Good w.keep w.past w.present) (λ s. SideTells s × SidePlaces (instances w) s) w.sides g.sides (all_both SideTells (SidePlaces (instances w)) w.sides t h)))
after_places (On r event) (Done wanting) w may g t h =
    done_keeps w (λ s wanting. ⊤) (SidePlaces (instances w)) (keeps_places w) (SidePlaces (instances w)) (λ s x. x) r event wanting (λ s x. if_gets event ⊤ tt) h
after_places (On r event) (Memory bytes wanting) w may g t h =
    refusal_keeps w (λ s wanting. ⊤) (SidePlaces (instances w)) (keeps_places w) (SidePlaces (instances w)) (λ s x. x) r event wanting (λ s x. if_gets event ⊤ tt) h bytes
after_places _ _ w may g t h = h

pub places_noted : PlacesNoted
places_noted made history w leads =
    (known_leads AllPlaces (λ event outcome x fits may g t h. after_places event outcome x may g t h) made history w leads
    (all_new (λ s. HasPlaces (begun made.session made.session0 made.start ∷ []) s.items s.places) (record { count = refl; last = tt }) made.routers)).2
