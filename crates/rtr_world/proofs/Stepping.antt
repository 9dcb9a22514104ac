-- One event at a router.
use Rattle.rtr_world.proofs.Words.{◌≡◌, ℕ, ◌<◌, ◌≤◌, ◌==◌, true, false, not, ◌||◌, nat_lt, List, [], length, Option, Some, None, is_some, IfSome, Result, Ok, Err, slice_get, slice_set, if◌then◌else◌, refl, ⊤, sym, ap, ◌∙◌, subst, arith, IfSome_then, or-true, nat_tests, list_any, AllocError, Instance, Conn, Link, Closed, is_closed, lt_true}
use Rattle.rtr_world.specs.History.{Done, Memory, NoSuchRouter, MayEnd, IsWanted, Reached, after, may_refuse_at, most_moved, most_of, moved_at, readings_at, refusal, side_at}
use Rattle.rtr_world.specs.Reached.{ShowsParts, ShowsRest, ShowsWorld, StepsOnce}
use Rattle.rtr_world.specs.SideShown.{Happens, MayFail, Moves, ShowsBoth}
use Rattle.rtr_world.specs.World.{World, Side, SideEvent, Connect, RouterSends, CacheSends, On, goes_through, instances, is_refused, on_side, settle, settled, side_refused, side_step}
use Rattle.rtr_world.specs.declared.event.WorldFault.TheVariants as faults
use Rattle.rtr_world.specs.declared.side.Side as values
use Rattle.rtr_world.specs.declared.world.World as code
use Rattle.rtr_world.proofs.Invariant.{Good, GoodLink}
use Rattle.rtr_world.proofs.Rests.{history_rests}
use Rattle.rtr_world.proofs.Room.{reached_known}
use Rattle.rtr_world.proofs.Versions.{Seen}
use Rattle.rtr_world.proofs.Showing.{FoundSide, found_side, moved, settled_on, shown_length}

-- what the calls on sides leave alone
same_rest : (w : World) (sides : List Side) (v n : code.World) → ShowsRest w v → n ≡ record v { cache = n.cache; sides = n.sides } → ShowsRest (record w { sides = sides }) n
same_rest w sides v n h same = record {
  keep = ap (λ x. x.keep) same ∙ h.keep;
  used = λ session session0. ap (λ x. list_any (λ y. y.v1 == session || y.v0 == session0) x.sessions.items) same ∙ h.used session session0;
  sessions = record { v1 = ap (λ x. x.present.v1) same ∙ h.sessions.v1; v0 = ap (λ x. x.present.v0) same ∙ h.sessions.v0 };
  start = h.start ∙ sym (ap (λ x. x.start) same);
}

-- the worlds afterwards: only this side is cleaned up
pub after_done : (w : World) (r : ℕ) (e : SideEvent) (wanting : Option ℕ) → Reached w → after (On r e) (Done wanting) w ≡ record w { sides = on_side r (λ s. settle (instances w) (side_step w e wanting s)) w.sides }
unfolding settled goes_through
after_done w r e wanting was = ap (λ sides. record w { sides = sides }) (settled_on (instances w) r (side_step w e wanting) w.sides (history_rests was.made was.history w was.leads))

pub after_memory : (w : World) (r : ℕ) (e : SideEvent) (bytes : ℕ) (wanting : Option ℕ) → Reached w → after (On r e) (Memory bytes wanting) w ≡ record w { sides = on_side r (λ s. settle (instances w) (side_refused w e bytes wanting s)) w.sides }
unfolding settled is_refused
after_memory w r e bytes wanting was = ap (λ sides. record w { sides = sides }) (settled_on (instances w) r (side_refused w e bytes wanting) w.sides (history_rests was.made was.history w was.leads))

pub found_router : (w : World) (r : ℕ) (e : SideEvent) → r < length w.sides → refusal w (On r e) ≡ None
unfolding refusal
found_router w r e low = ap (λ b. if b then None else Some NoSuchRouter) (lt_true r (length w.sides) low)

no_router : (w : World) (r : ℕ) (e : SideEvent) → length w.sides ≤ r → refusal w (On r e) ≡ Some NoSuchRouter
unfolding refusal
no_router w r e high = ap (λ b. if b then None else Some NoSuchRouter) (let e : nat_lt r (length w.sides) ≡ false = grind (arith, nat_tests) in e)

pub no_such : (w : World) (v : code.World) (r : ℕ) (e : SideEvent) → ShowsWorld w v → length v.sides.items ≤ r → StepsOnce w (On r e) (Err faults.NoSuchRouter) v
no_such w v r e h high = record {
  outcome = NoSuchRouter;
  fits = tt;
  may = subst (λ o. MayEnd o w (On r e) NoSuchRouter) (sym (no_router w r e (let len = shown_length w h.at v.cache v.sides.items h.parts in omega (arith, len, high)))) refl;
  answers = refl;
  shows = h;
}

-- What may fail is an event of a router that has a connection.
links_out : (s : Side) (all : List Instance) (i : Instance) (seen : Option Seen) (l : Link) → GoodLink all i seen l s.router s.conn s.up s.down → ¬ (s.router.out ≡ []) → is_closed l ≡ false
links_out s all i seen Closed g some = absurd (some g.3)
links_out s all i seen _ g some = refl

open_conn : (o : Option Conn) → ¬ (o ≡ None) → is_some o ≡ true
open_conn None h = absurd (h refl)
open_conn (Some o) h = refl

may_fail : (w : World) (s : Side) (e : SideEvent) → Good w.keep w.past w.present s → MayFail e s → may_refuse_at e (Some s) ≡ true
may_fail w s Connect g h = refl
may_fail w s (RouterSends most) g h = ap (λ b. not b || is_some s.conn) (links_out s (instances w) w.present g.seen s.router.link g.router.link h)
may_fail w s (CacheSends most) g h = ap (λ b. not (is_closed s.router.link) || b) (open_conn s.conn h) ∙ or-true (not (is_closed s.router.link))
may_fail w s _ g h = absurd h

module _ (w : World) (v n : code.World) (r : ℕ) (e : SideEvent) (old new : values.Side) (was : Reached w) (h : ShowsWorld w v) (low : r < length v.sides.items) (found : slice_get v.sides.items r ≡ Some old)
    (same : n ≡ record v { cache = n.cache; sides = n.sides }) (items : n.sides.items ≡ slice_set v.sides.items r new) (router : ℕ) (router_is : r ≡ router) where
  in_range : r < length w.sides
  in_range = let len = shown_length w h.at v.cache v.sides.items h.parts in omega (arith, len, low)

  at_side : FoundSide w h.at (side_at r w.sides) old
  at_side = found_side w h.at _ _ old found (h.parts.each r)

  shown_now : (f : Side → Side) → Moves w h.at old.conn (f at_side.side) n.cache new → ShowsWorld (record w { sides = on_side r f w.sides }) n
  shown_now f m = record {
    rest = same_rest w (on_side r f w.sides) v n h.rest same;
    at = m.now;
    parts = subst (λ l. ShowsParts (record w { sides = on_side r f w.sides }) m.now n.cache l) (sym items) (moved w h.at v.cache n.cache v.sides.items r at_side.side f old new h.parts low found at_side.is m);
  }

  wanted : (wanting : Option ℕ) → IfSome wanting (λ unit. slice_get (readings_at w e (most_of e) (Some at_side.side)) unit ≡ Some true) → IsWanted w (On r e) (most_moved (On r e)) wanting
  wanted wanting h = IfSome_then wanting h (λ unit k. ap (λ x. slice_get (readings_at w e (most_of e) x) unit) at_side.is ∙ k)

  -- what the call on a side promises
  module _ (told : Result ⊤ AllocError) (on : (s : Side) → w.present.start ≡ v.start → ShowsBoth w h.at s v.cache old → Happens w h.at e s (λ t. Moves w h.at old.conn t n.cache new) told) where
    happens : Happens w h.at e at_side.side (λ t. Moves w h.at old.conn t n.cache new) told
    happens = on at_side.side h.rest.start (record { serves = h.parts.serves; side = at_side.shows })

    pub done : told ≡ Ok tt → StepsOnce w (On router e) (Ok tt) n
    done ok =
        let p = subst (λ x. Happens w h.at e at_side.side (λ t. Moves w h.at old.conn t n.cache new) x) ok happens in
        subst (λ k. StepsOnce w (On k e) (Ok tt) n) router_is (record {
          outcome = Done p.wanting;
          fits = tt;
          may = subst (λ o. MayEnd o w (On r e) (Done p.wanting)) (sym (found_router w r e in_range)) (wanted p.wanting p.wanted);
          answers = refl;
          shows = subst (λ x. ShowsWorld x n) (sym (after_done w r e p.wanting was)) (shown_now (λ s. settle (instances w) (side_step w e p.wanting s)) p.now);
        })

    pub refused : (error : AllocError) → told ≡ Err error → StepsOnce w (On router e) (Err faults.Memory) n
    refused error failed =
        let p = subst (λ x. Happens w h.at e at_side.side (λ t. Moves w h.at old.conn t n.cache new) x) failed happens in
        subst (λ k. StepsOnce w (On k e) (Err faults.Memory) n) router_is (record {
          outcome = Memory p.bytes None;
          fits = tt;
          may = subst (λ o. MayEnd o w (On r e) (Memory p.bytes None)) (sym (found_router w r e in_range))
              (ap (may_refuse_at e) at_side.is ∙ may_fail w at_side.side e (reached_known w r at_side.side was at_side.is).0 p.may, tt, subst (λ o. p.bytes ≤ moved_at w e None o) (sym at_side.is) p.fewer);
          answers = refl;
          shows = subst (λ x. ShowsWorld x n) (sym (after_memory w r e p.bytes None was)) (shown_now (λ s. settle (instances w) (side_refused w e p.bytes None s)) p.now);
        })
