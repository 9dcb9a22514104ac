-- A world of the program and its model.
use Rattle.rtr_world.proofs.Words.{◌≡◌, ℕ, ◌+◌, ◌<◌, ◌≤◌, ◌==◌, ◌||◌, Bool, true, false, List, [], ◌∷◌, ◌++◌, map, length, find, Option, Some, None, is_some, IsSome, Result, slice_get, slice_set, if◌then◌else◌, refl, ⊤, AllByRecursion, list_any, sym, ap, ◌∙◌, subst, subst₂, arith, inl, inr, zero, suc, or-true, cases_eq, cases_lt, length-set, slice_get_past, list_any-append, Instance, Steps, Version, V0, V1, session_in, Conn, Cache, Sessions, set_same, set_other}
use Rattle.rtr_ends.specs.declared.cache.Conn.{Conn as Number}
use Rattle.rtr_world.specs.History.{Entry, Leads, LeadsFrom, Made, Reached, WorldStep, after, is_used, side_at}
use Rattle.rtr_world.specs.Reached.{AreOwn, HasAt, LeadsTo, Lost, LostAt, SettledAll, ShowsAt, ShowsParts, ShowsWorld, StepsOnce as StepsSo, StepsTo}
use Rattle.rtr_world.specs.SideShown.{ConnIs, Goes, Has, HasSessions, IsNewSide, Moves, ShowsSide}
use Rattle.rtr_world.specs.World.{World, Side, Event, instances, new_sides, on_side, settle}
use Rattle.rtr_world.specs.declared.event.WorldFault.{WorldFault}
use Rattle.rtr_world.specs.declared.side.Side as values
use Rattle.rtr_world.specs.declared.world.World as code
use Rattle.rtr_world.proofs.SideLaws.{inside, elsewhere, on_there}
use Rattle.rtr_world.proofs.Moving.{none_some}
use Rattle.rtr_world.proofs.Rests.{Rests, stays}

-- One event more
leads_from : (old : World) (history : List Entry) (w : World) (entry : Entry) (n : World) → LeadsFrom old history w → WorldStep w entry.event entry.outcome n → LeadsFrom old (history ++ entry ∷ []) n
leads_from old [] w entry n leads step = (n, subst (λ x. WorldStep x entry.event entry.outcome n) leads step, refl)
leads_from old (first ∷ history) w entry n leads step = (leads.0, leads.1, leads_from leads.0 history w entry n leads.2 step)

pub leads_on : (made : Made) (history : List Entry) (w : World) (entry : Entry) (n : World) → Leads made history w → WorldStep w entry.event entry.outcome n → Leads made (history ++ entry ∷ []) n
leads_on made history w entry n leads step = (leads.0, leads_from _ history w entry n leads.1 step)

-- New sides
pub all_new_show : (w : World) (at : ℕ → Option Conn) (items : List values.Side) → AllByRecursion IsNewSide items → (r : ℕ) → ShowsAt w at (side_at r (new_sides (length items))) (slice_get items r)
all_new_show w at [] h r = tt
all_new_show w at (v ∷ items) h zero = record { router = h.0.router; conn = subst (λ c. ConnIs at c None) (sym h.0.conn) tt; up = h.0.up; down = h.0.down; made = h.0.made; made_to = tt }
all_new_show w at (v ∷ items) h (suc r) = all_new_show w at items h.1 r

no_number : (items : List values.Side) → AllByRecursion IsNewSide items → (r n : ℕ) → HasAt (slice_get items r) n → ⊥
no_number [] h r n has = has
no_number (v ∷ items) h zero n has = subst (λ c. Has c n) h.0.conn has
no_number (v ∷ items) h (suc r) n has = no_number items h.1 r n has

pub new_own : (items : List values.Side) → AllByRecursion IsNewSide items → AreOwn items
new_own items h r d n has also = absurd (no_number items h r n has)

-- A side that is found
pub record FoundSide (w : World) (at : ℕ → Option Conn) (a : Option Side) (v : values.Side) : Type 0 where
  pub side : Side
  pub is : a ≡ Some side
  pub shows : ShowsSide w at side v

pub found_side : (w : World) (at : ℕ → Option Conn) (a : Option Side) (q : Option values.Side) (v : values.Side) → q ≡ Some v → ShowsAt w at a q → FoundSide w at a v
found_side w at (Some s) (Some u) v e h = record { side = s; is = refl; shows = subst (λ x. ShowsSide w at s x) (inside e) h }
found_side w at None None v e h = absurd (let k : ◌≡◌ {A = Option values.Side} None (Some v) = e in cc)
found_side w at _ _ v e h = absurd h

-- this many sides
same_length : (w : World) (at : ℕ → Option Conn) (sides : List Side) (items : List values.Side) → ((r : ℕ) → ShowsAt w at (side_at r sides) (slice_get items r)) → length sides ≡ length items
same_length w at [] [] h = refl
same_length w at (s ∷ sides) (v ∷ items) h = ap suc (same_length w at sides items (λ r. h (suc r)))
same_length w at _ _ h = absurd (h zero)

pub shown_length : (w : World) (at : ℕ → Option Conn) (cache : Cache Steps) (items : List values.Side) → ShowsParts w at cache items → length w.sides ≡ length items
shown_length w at cache items h = same_length w at w.sides items h.each

-- other sides do not matter to one
pub among : (w : World) (sides : List Side) (at : ℕ → Option Conn) (s : Side) (v : values.Side) → ShowsSide w at s v → ShowsSide (record w { sides = sides }) at s v
among w sides at s v h = record { router = h.router; conn = h.conn; up = h.up; down = h.down; made = h.made; made_to = h.made_to }

module _ (w : World) (at now : ℕ → Option Conn) (sides : List Side) where
  still_conn : (n : Option Number) (o : Option Conn) → ((k : ℕ) → Has n k → IsSome (at k) → now k ≡ at k) → ConnIs at n o → ConnIs now n o
  still_conn None None keeps h = tt
  still_conn (Some n) (Some o) keeps h = keeps n.0 refl (subst IsSome (sym h) refl) ∙ h
  still_conn _ _ keeps h = h

  pub still : (a : Option Side) (q : Option values.Side) → ((k : ℕ) → HasAt q k → IsSome (at k) → now k ≡ at k) → ShowsAt w at a q → ShowsAt (record w { sides = sides }) now a q
  still None None keeps h = tt
  still (Some s) (Some v) keeps h = record { router = h.router; conn = still_conn v.conn s.conn keeps h.conn; up = h.up; down = h.down; made = h.made; made_to = h.made_to }
  still _ _ keeps h = h

-- a number that a side has is one at the cache
some_at : (w : World) (at : ℕ → Option Conn) (a : Option Side) (q : Option values.Side) (k : ℕ) → ShowsAt w at a q → HasAt q k → IsSome (at k)
some_at w at (Some s) (Some v) k h has = by_conn v.conn s.conn has h.conn
  where
    by_conn : (n : Option Number) (o : Option Conn) → Has n k → ConnIs at n o → IsSome (at k)
    by_conn (Some n) (Some o) e is = subst (λ m. IsSome (at m)) e (subst IsSome (sym is) refl)
    by_conn (Some n) None e is = absurd is
    by_conn None o e is = absurd e
some_at w at None None k h has = absurd has
some_at w at _ _ k h has = absurd h

module _ (w : World) (at : ℕ → Option Conn) (cache later : Cache Steps) (olds : List values.Side) (r : ℕ) (s : Side) (f : Side → Side) (old new : values.Side) (parts : ShowsParts w at cache olds) (low : r < length olds) (found : slice_get olds r ≡ Some old)
    (is : side_at r w.sides ≡ Some s) (m : Moves w at old.conn (f s) later new) where
  had : (k : ℕ) → Has old.conn k → HasAt (slice_get olds r) k
  had k has = subst (λ q. HasAt q k) (sym found) has

  there : (d : ℕ) → ¬ (d ≡ r) → ShowsAt (record w { sides = on_side r f w.sides }) m.now (side_at d (on_side r f w.sides)) (slice_get (slice_set olds r new) d)
  there d other = rw (elsewhere r d f w.sides other, set_other olds r d new other)
      (still w at m.now (on_side r f w.sides) (side_at d w.sides) (slice_get olds d) (λ k has some. m.others k some (λ mine. other (parts.own d r k has (had k mine)))) (parts.each d))

  here : ShowsAt (record w { sides = on_side r f w.sides }) m.now (side_at r (on_side r f w.sides)) (slice_get (slice_set olds r new) r)
  here = rw (on_there r f w.sides, is, set_same olds r new low) (among w (on_side r f w.sides) m.now (f s) new m.shows.side)

  each : (d : ℕ) → ShowsAt (record w { sides = on_side r f w.sides }) m.now (side_at d (on_side r f w.sides)) (slice_get (slice_set olds r new) d)
  each d = elim (cases_eq d r) [
    | inl same ↦ subst (λ k. ShowsAt (record w { sides = on_side r f w.sides }) m.now (side_at k (on_side r f w.sides)) (slice_get (slice_set olds r new) k)) (sym same) here
    | inr other ↦ there d other
  ]

  -- whose number it is now
  mine : (k : ℕ) → HasAt (slice_get (slice_set olds r new) r) k → Has new.conn k
  mine k has = subst (λ q. HasAt q k) (set_same olds r new low) has

  theirs : (d k : ℕ) → ¬ (d ≡ r) → HasAt (slice_get (slice_set olds r new) d) k → HasAt (slice_get olds d) k
  theirs d k other has = subst (λ q. HasAt q k) (set_other olds r d new other) has

  clash : (d k : ℕ) → ¬ (d ≡ r) → HasAt (slice_get olds d) k → Has new.conn k → ⊥
  clash d k other has new_has = elim (m.own k new_has) [
    | inl old_has ↦ other (parts.own d r k has (had k old_has))
    | inr none ↦ none_some (at k) none (some_at w at (side_at d w.sides) (slice_get olds d) k (parts.each d) has)
  ]

  own_now : AreOwn (slice_set olds r new)
  own_now a b k has also = elim (cases_eq a r) [
    | inl x ↦ elim (cases_eq b r) [
      | inl y ↦ x ∙ sym y
      | inr y ↦ absurd (clash b k y (theirs b k y also) (mine k (subst (λ d. HasAt (slice_get (slice_set olds r new) d) k) x has)))
    ]
    | inr x ↦ elim (cases_eq b r) [
      | inl y ↦ absurd (clash a k x (theirs a k x has) (mine k (subst (λ d. HasAt (slice_get (slice_set olds r new) d) k) y also)))
      | inr y ↦ parts.own a b k (theirs a k x has) (theirs b k y also)
    ]
  ]

  owner : (k : ℕ) → IsSome (m.now k) → (d : ℕ) × HasAt (slice_get (slice_set olds r new) d) k
  owner k some = elim (m.only k some) [
    | inl has ↦ (r, subst (λ q. HasAt q k) (sym (set_same olds r new low)) has)
    | inr was ↦ let one = parts.all k (subst IsSome was.1 some) in
        (one.0, subst (λ q. HasAt q k) (sym (set_other olds r one.0 new (λ e. was.0 (subst (λ q. HasAt q k) (ap (slice_get olds) e ∙ found) one.1)))) one.1)
  ]

  pub moved : ShowsParts (record w { sides = on_side r f w.sides }) m.now later (slice_set olds r new)
  moved = record { serves = m.shows.serves; each = each; own = own_now; all = owner }

-- In a world that is reached the clean-up changes nothing, whatever instances there are.
pub unsettled : (all : List Instance) (sides : List Side) → AllByRecursion Rests sides → map (settle all) sides ≡ sides
unsettled all [] h = refl
unsettled all (s ∷ sides) h = ap (λ x. x ∷ map (settle all) sides) (stays all s h.0) ∙ ap (λ x. s ∷ x) (unsettled all sides h.1)

pub settled_on : (all : List Instance) (r : ℕ) (f : Side → Side) (sides : List Side) → AllByRecursion Rests sides → map (settle all) (on_side r f sides) ≡ on_side r (λ s. settle all (f s)) sides
settled_on all r f [] h = refl
settled_on all zero f (s ∷ sides) h = ap (λ x. settle all (f s) ∷ x) (unsettled all sides h.1)
settled_on all (suc r) f (s ∷ sides) h = ap (λ x. x ∷ map (settle all) (on_side r f sides)) (stays all s h.0) ∙ ap (λ x. s ∷ x) (settled_on all r f sides h.1)

-- the clean-up, side by side
abbrev pub settle_first : List Instance → ℕ → List Side → List Side
settle_first all zero sides = sides
settle_first all (suc k) sides = on_side k (settle all) (settle_first all k sides)

first_behind : (all : List Instance) (k : ℕ) (s : Side) (sides : List Side) → settle_first all (suc k) (s ∷ sides) ≡ settle all s ∷ settle_first all k sides
first_behind all zero s sides = refl
first_behind all (suc k) s sides = ap (on_side (suc k) (settle all)) (first_behind all k s sides)

pub settles_each : (all : List Instance) (sides : List Side) → settle_first all (length sides) sides ≡ map (settle all) sides
settles_each all [] = refl
settles_each all (s ∷ sides) = first_behind all (length sides) s sides ∙ ap (λ x. settle all s ∷ x) (settles_each all sides)

-- the sessions that were used
abbrev pub uses : ℕ → ℕ → Sessions → Bool
uses session session0 y = y.v1 == session || y.v0 == session0

abbrev pub are_used : List Instance → ℕ → ℕ → Bool
are_used all session session0 = is_used V1 all session || is_used V0 all session0

any_or : (pv : Version) (b : Bool) (all : List Instance) (i : Instance) (session : ℕ) → (b || is_used pv all session) ≡ is_some (if b then Some i else find (λ j. session_in pv j == session) all)
any_or pv true all i session = refl
any_or pv false all i session = refl

or_pairs : (a b x y : Bool) → ((a || b) || ((x || y) || false)) ≡ ((x || a) || (y || b))
or_pairs true b true y = refl
or_pairs true b false y = refl
or_pairs false true true y = refl
or_pairs false true false y = sym (or-true y)
or_pairs false false true y = refl
or_pairs false false false true = refl
or_pairs false false false false = refl

pub used_more : (items : List Sessions) (all : List Instance) (i : Instance) (p : Sessions) (session session0 : ℕ) → HasSessions i p → list_any (uses session session0) items ≡ are_used all session session0
    → list_any (uses session session0) (items ++ p ∷ []) ≡ are_used (i ∷ all) session session0
used_more items all i p session session0 has h =
    list_any-append (uses session session0) items (p ∷ []) ∙ (λ j. h j || (((has.v1 j == session) || (has.v0 j == session0)) || false))
    ∙ or_pairs (is_used V1 all session) (is_used V0 all session0) (i.session == session) (i.session0 == session0)
    ∙ (λ j. any_or V1 (i.session == session) all i session j || any_or V0 (i.session0 == session0) all i session0 j)

-- One side more has lost its connection.
pub record LostFirst (olds news : List values.Side) (k : ℕ) : Type 0 where
  pub len : length news ≡ length olds
  pub lost : (r : ℕ) → r < k → LostAt (slice_get olds r) (slice_get news r)
  pub left : (r : ℕ) → k ≤ r → slice_get news r ≡ slice_get olds r

pub lost_more : (olds news : List values.Side) (k : ℕ) (old new : values.Side) → LostFirst olds news k → k < length news → slice_get news k ≡ Some old → Lost old new → LostFirst olds (slice_set news k new) (k + 1)
lost_more olds news k old new h low found lost = record {
  len = length-set news k new ∙ h.len;
  lost = λ r below. elim (cases_eq r k) [
    | inl same ↦ subst (λ d. LostAt (slice_get olds d) (slice_get (slice_set news k new) d)) (sym same) (subst₂ LostAt (sym found ∙ h.left k (omega arith)) (sym (set_same news k new low)) lost)
    | inr other ↦ subst (λ q. LostAt (slice_get olds r) q) (sym (set_other news k r new other)) (h.lost r (omega (arith, below, other)))
  ];
  left = λ r above. set_other news k r new (λ e. absurd (omega (arith, above, e))) ∙ h.left r (omega (arith, above));
}

pub lost_all : (olds news : List values.Side) (k : ℕ) → LostFirst olds news k → length news ≤ k → (r : ℕ) → LostAt (slice_get olds r) (slice_get news r)
lost_all olds news k h all r = elim (cases_lt r k) [
  | inl low ↦ h.lost r low
  | inr high ↦ subst₂ LostAt (sym (slice_get_past olds r (omega (arith, all, high, h.len)))) (sym (slice_get_past news r (omega (arith, all, high)))) tt
]

-- One side more is cleaned up.
pub record SettledFirst (w : World) (k : ℕ) (cache : Cache Steps) (sides : List values.Side) : Type 0 where
  pub now : ℕ → Option Conn
  pub parts : ShowsParts (record w { sides = settle_first (instances w) k w.sides }) now cache sides

pub settled_more : (w : World) (k : ℕ) (cache later : Cache Steps) (sides : List values.Side) (old new : values.Side) → SettledFirst w k cache sides → k < length sides → slice_get sides k ≡ Some old
    → Goes (λ w s. settle (instances w) s) cache old later new → SettledFirst w (k + 1) later (slice_set sides k new)
settled_more w k cache later sides old new h low found settles =
    let w1 : World = record w { sides = settle_first (instances w) k w.sides } in
    let there : FoundSide w1 h.now (side_at k w1.sides) old = found_side w1 h.now (side_at k w1.sides) (slice_get sides k) old found (h.parts.each k) in
    let m = settles w1 h.now there.side (record { serves = h.parts.serves; side = there.shows }) in
    let next : suc k ≡ k + 1 = omega arith in
    subst (λ n. SettledFirst w n later (slice_set sides k new)) next (record { now = m.now; parts = moved w1 h.now cache later sides k there.side (settle (instances w)) old new h.parts low found there.is m })

pub settled_all : (w : World) (k : ℕ) (cache : Cache Steps) (sides : List values.Side) → SettledFirst w k cache sides → k ≡ length w.sides → SettledAll w cache sides
settled_all w k cache sides h all = record {
  at = h.now;
  parts = subst (λ l. ShowsParts (record w { sides = l }) h.now cache sides) (ap (λ n. settle_first (instances w) n w.sides) all ∙ settles_each (instances w) w.sides) h.parts;
}

-- The history leads on.
pub steps_on : (made : Made) (history : List Entry) (v n : code.World) (told event : Event) (result : Result ⊤ WorldFault) → LeadsTo made history v → told ≡ event → ((w : World) → Reached w → ShowsWorld w v → StepsSo w event result n) → StepsTo made history told result n
steps_on made history v n told event result l is on =
    let s = on l.world (record { made = made; history = history; leads = l.leads }) l.shows in
    subst (λ e. StepsTo made history e result n) (sym is) (record {
      outcome = s.outcome;
      answers = s.answers;
      leads = record {
        world = after event s.outcome l.world;
        leads = leads_on made history l.world (record { event = event; outcome = s.outcome }) (after event s.outcome l.world) l.leads (s.fits, s.may, refl);
        shows = s.shows;
      };
    })
