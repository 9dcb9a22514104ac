-- Every event keeps the invariant at each router.
use Rattle.rtr_world.proofs.Words.{◌≡◌, ◌⊎◌, ℕ, Bool, true, false, List, [], ◌∷◌, ◌++◌, take, drop, Option, Some, None, if◌then◌else◌, refl, list_any, sym, ap, ◌∙◌, subst, arith, append_assoc, inl, append-nil, take-append-drop, take_min, Instance, Version, Unit, sent, session_in, Conn, Taking, new_conn, conn_byte, conn_pulled, conn_stops, conn_takes, pulled_count, Sent, in_version, FedPiece, feed, Router, ask, Noted, close, clocked, connects_at, closed_at, ticks_at, asks, receives, router_pulled, is_closed, is_reading, is_due, is_idle, choose, of_version, At, query, clocked_tells, drop_none, not_due, false_true}
use Rattle.rtr_world.specs.OneAnswer.{IsOfNow, OwnNotifies}
use Rattle.rtr_world.specs.History.{conn_due}
use Rattle.rtr_world.specs.World.{Side, World, instances, is_read, timing, SideEvent, RouterRestart, Speak, Connect, RouterSends, CacheGets, CacheSends, RouterGets, Cut, NotifyRouter, Ask, Tick, noted, places_of, connects, router_restarts, speaks, router_sends, sends_from, cache_sends, gets_at, cache_gets, router_gets, cut, notifies_at, side_step, side_part, side_refused, tell_closed, settle}
use Rattle.rtr_world.proofs.RouterCases.{asks_by}
use Rattle.rtr_world.proofs.EventCalls.{closed_by, part_by, lesser, settle_by}
use Rattle.rtr_world.proofs.CacheMoves as cache
use Rattle.rtr_world.proofs.UnitCases.{goes_fed}
use Rattle.rtr_world.proofs.Invariant.{OwnSession, IfOpen, Open, GoodLink, GoodRouter, Good, Flow}
use Rattle.rtr_world.proofs.Places.{Ordered, ordered_connects, ordered_none, ordered_read}
use Rattle.rtr_world.proofs.UnitsAtRouters.{first_fits, query_unit}
use Rattle.rtr_world.proofs.SideSteps.{live_map, clocked_good, Shut, close_shut, closed_shut, asks_good}
use Rattle.rtr_world.proofs.UnitStreams.{Stream, none_part}
use Rattle.rtr_world.proofs.KeptTables.{SideTells}
use Rattle.rtr_world.proofs.Versions.{Present, held_at, Seen, IsReadAt, IsSeen, seen_after, seen_at}

-- what is sent, and what is left of it
open_sent : (i : Instance) (pv : Version) (h : Seen) (most : ℕ) (out up : List ℕ) (wanted : List Unit) (coming : List Sent) (agreed : Bool) (lost : List ℕ) (conn : Option Conn) → IfOpen conn (Open i pv h out up wanted coming agreed lost) → IfOpen conn (Open i pv h (drop most out) (up ++ take most out) wanted coming agreed lost)
open_sent i pv h most out up wanted coming agreed lost None op = tt
open_sent i pv h most out up wanted coming agreed lost (Some o) op = record { upward = subst (λ x. Stream o.held x (in_version pv wanted)) (ap (λ x. up ++ x) (sym (take-append-drop most out)) ∙ sym (append_assoc up (take most out) (drop most out))) op.upward; spoken = op.spoken; unheard = op.unheard; linked = op.linked }

-- what was seen, whether the cache read a PDU or not
seen_read : (i : Instance) (keep : ℕ) (home : Option Instance) (read : Bool) (seen : Option Seen) → IsSeen keep home seen → IsSeen keep home (seen_after i read seen)
seen_read i keep home false seen s = s
seen_read i keep home true None s = s
seen_read i keep None true (Some h) s = s
seen_read i keep (Some x) true (Some h) s = s

read_seen : (i : Instance) (before : Option Instance) (read : Bool) (seen : Option Seen) → IsReadAt before seen → IsReadAt (if read then Some i else before) (seen_after i read seen)
read_seen i before false seen s = s
read_seen i before true None s = tt
read_seen i before true (Some h) s = refl

module _ (w : World) (p : Present (instances w) w.present) where
  abbrev GoodS : Side → Type 0
  GoodS s = Good w.keep w.past w.present s

  -- Other bytes are at the same router and on its wires, the same all together.
  wired_good : (s : Side) (out : List ℕ) (conn : Option Conn) (up down : List ℕ) → (s.router.out ≡ [] → out ≡ []) → GoodS s → ((h : Seen) (f : Flow (instances w) w.present h s.router s.conn s.up s.down) →
      (lost : List ℕ) × (s.down ++ (conn_due s.conn ++ f.lost) ≡ down ++ (conn_due conn ++ lost)) × IfOpen conn (Open w.present s.router.spoken h out up f.wanted f.coming s.router.agreed lost)) → GoodS (record s { router = record s.router { out = out }; conn = conn; up = up; down = down })
  wired_good s out conn up down none g flow = record {
    seen = g.seen;
    is_seen = g.is_seen;
    is_read = g.is_read;
    order = g.order;
    router = record {
      table = g.router.table;
      unmarked = g.router.unmarked;
      config = g.router.config;
      link = live_map s.router.link (instances w) (instances w) w.present w.present g.seen g.seen s.router (record s.router { out = out }) s.conn conn s.up up s.down down (λ x. x) none refl refl g.router.link (λ l. let f = flow l.0 l.2 in (
        l.0,
        l.1,
        record { said = l.2.said; lost = f.0; downward = subst (λ x. Stream s.router.held x l.2.coming) f.1 l.2.downward; open_at = f.2 },
      ));
    };
  }

  -- bytes are pulled from the cache
  sends_good : (most : ℕ) (s : Side) (o : Option Conn) → s.conn ≡ o → GoodS s → GoodS (sends_from w.keep most s o)
  unfolding conn_pulled
  sends_good most s None e g = g
  sends_good most s (Some o) e g = wired_good s s.router.out (Some (conn_pulled w.keep timing most o)) s.up (s.down ++ take most o.state.due) (λ x. x) g (λ h f.
      let op : Open w.present s.router.spoken h s.router.out s.up f.wanted f.coming s.router.agreed f.lost o = subst (λ x. IfOpen x (Open w.present s.router.spoken h s.router.out s.up f.wanted f.coming s.router.agreed f.lost)) e f.open_at in
      let split : o.state.due ≡ take most o.state.due ++ drop (pulled_count most o) o.state.due =
      sym (take-append-drop (pulled_count most o) o.state.due) ∙ ap (λ x. x ++ drop (pulled_count most o) o.state.due) (take_min most o.state.due) in
      let bytes : s.down ++ (conn_due s.conn ++ f.lost) ≡ (s.down ++ take most o.state.due) ++ (drop (pulled_count most o) o.state.due ++ f.lost) =
      ap (λ x. s.down ++ (conn_due x ++ f.lost)) e ∙ ap (λ x. s.down ++ (x ++ f.lost)) split
      ∙ ap (λ x. s.down ++ x) (append_assoc (take most o.state.due) (drop (pulled_count most o) o.state.due) f.lost)
      ∙ sym (append_assoc s.down (take most o.state.due) (drop (pulled_count most o) o.state.due ++ f.lost)) in
      (f.lost, bytes, record { upward = op.upward; spoken = op.spoken; unheard = op.unheard; linked = op.linked }))

  keeps_so : (home : Option Instance) (seen : Option Seen) → IsSeen w.keep home seen → (h : Seen) → seen ≡ Some h → h.keep ≡ w.keep
  keeps_so None None s h e = absurd (let k : ◌≡◌ {A = Option Seen} None (Some h) = e in cc)
  keeps_so (Some home) (Some k) s h e = let same : k ≡ h = cc in ap (λ x. x.keep) (sym same) ∙ s.1
  keeps_so _ _ s h e = absurd s

  gets_good : (most : ℕ) (wanting : Option ℕ) (s : Side) (o : Option Conn) → s.conn ≡ o → GoodS s → GoodS (gets_at w most wanting s o)
  unfolding conn_takes
  gets_good most wanting s None e g = g
  gets_good most wanting s (Some o) e g =
      let start : GoodRouter (instances w) w.present g.seen (Some o) (take most s.up ++ drop most s.up) s.down s.router =
      subst (λ u. GoodRouter (instances w) w.present g.seen (Some o) u s.down s.router) (sym (take-append-drop most s.up)) (subst (λ x. GoodRouter (instances w) w.present g.seen x s.up s.down s.router) e g.router) in
      let f : FedPiece Taking = feed (λ (m : Taking). conn_stops m.conn) (conn_byte w.keep timing w.present) (record { conn = o; moments = []; wanting = wanting }) (take most s.up) in
      let read : Bool = list_any is_read f.machine.moments in
      record {
        seen = seen_after w.present read g.seen;
        is_seen = seen_read w.present w.keep s.home read g.seen g.is_seen;
        is_read = read_seen w.present s.read_at read g.seen g.is_read;
        order = ordered_read w.past w.present s.places read g.seen g.order;
        router = cache.fed_good (instances w) w.present p w.keep g.seen (keeps_so s.home g.seen g.is_seen) s.router s.down (drop most s.up) (record { conn = o; moments = []; wanting = wanting }) (take most s.up) start;
      }

  pub gets_now : (most : ℕ) (wanting : Option ℕ) (s : Side) (o : Option Conn) → s.conn ≡ o → is_reading s.router.link ≡ true → GoodS s
      → (conn_due (gets_at w most wanting s o).conn ≡ conn_due o) ⊎ IsOfNow s.router.spoken w.present w.keep wanting s.router.link (conn_due (gets_at w most wanting s o).conn)
  unfolding conn_takes
  gets_now most wanting s None e live g = inl (ap conn_due e)
  gets_now most wanting s (Some o) e live g =
      let start : GoodRouter (instances w) w.present g.seen (Some o) (take most s.up ++ drop most s.up) s.down s.router =
      subst (λ u. GoodRouter (instances w) w.present g.seen (Some o) u s.down s.router) (sym (take-append-drop most s.up)) (subst (λ x. GoodRouter (instances w) w.present g.seen x s.up s.down s.router) e g.router) in
      cache.fed_now (instances w) w.present p w.keep g.seen (keeps_so s.home g.seen g.is_seen) s.router s.down o.state.due (drop most s.up) (record { conn = o; moments = []; wanting = wanting }) (take most s.up) wanting live (λ none. none) start (inl refl)

  router_gets_good : (most : ℕ) (wanting : Option ℕ) (s : Side) → GoodS s → SideTells s → GoodS (router_gets w most wanting s)
  unfolding router_gets receives
  router_gets_good most wanting s g t =
      let start = subst (λ d. GoodRouter (instances w) w.present g.seen s.conn s.up d s.router) (sym (take-append-drop most s.down)) g.router in
      let told = clocked_good (instances w) w.present g.seen s.conn s.up (take most s.down ++ drop most s.down) s.router.now s.router start in
      let fed = goes_fed w.keep w.past w.present s.home s.read_at s.conn s.up s.items s.places (drop most s.down) (record { router = clocked s.router.now s.router; items = At s.router.now ∷ []; wanting = wanting }) (take most s.down)
      (record { seen = g.seen; good = told; tells = clocked_tells s.router.now s.router s.items t.tells; is_seen = g.is_seen; is_read = g.is_read; order = g.order }) in
      record { seen = fed.seen; router = fed.good; is_seen = fed.is_seen; is_read = fed.is_read; order = fed.order }

  cut_good : (left : ℕ) (s : Side) → GoodS s → GoodS (cut left s)
  unfolding cut
  cut_good left s g = wired_good s s.router.out None [] (take left s.down) (λ x. x) g (λ h f. (
    drop left s.down ++ (conn_due s.conn ++ f.lost),
    ap (λ x. x ++ (conn_due s.conn ++ f.lost)) (sym (take-append-drop left s.down)) ∙ append_assoc (take left s.down) (drop left s.down) (conn_due s.conn ++ f.lost),
    tt,
  ))

  -- a connection is made
  linked : (seen : Option Seen) (conn : Option Conn) (up down : List ℕ) (c : Router) → Shut (instances w) w.present seen conn up down c
      → GoodRouter (instances w) w.present (Some (seen_at w.keep c.speaks w.present)) (Some (new_conn w.present)) [] [] (ask (record c { spoken = c.speaks }))
  linked seen conn up down c shut =
      let fits = first_fits (session_in c.speaks w.present) (of_version c.speaks c.version) c.mark shut.unmarked in
      record {
        table = shut.table;
        unmarked = shut.unmarked;
        config = shut.config;
        link = (
          seen_at w.keep c.speaks w.present,
          refl,
          record {
            said = record {
              wanted = query (choose (of_version c.speaks c.version) c.mark) ∷ [];
              coming = [];
              version = refl;
              session = refl;
              notifies = subst (λ b. OwnNotifies b c.speaks w.present []) (sym shut.agreed) tt;
              own = subst (OwnSession (session_in c.speaks w.present)) (sym shut.session) tt;
              mine = λ e. false_true (sym shut.agreed ∙ e);
              shape = (fits, inl (refl, refl));
            };
            lost = [];
            downward = record { whole = append-nil c.held ∙ shut.held; part = none_part c.held [] shut.held; fit = tt };
            open_at = record {
              upward = record {
                whole = sym (append-nil (sent c.speaks (query (choose (of_version c.speaks c.version) c.mark))));
                part = tt;
                fit = (query_unit (instances w) c.speaks (session_in c.speaks w.present) (choose (of_version c.speaks c.version) c.mark) (of_version c.speaks c.version) c.table fits (held_at (instances w) c.speaks c.version c.table shut.table), tt);
              };
              spoken = tt;
              unheard = (tt, shut.agreed);
              linked = record { whole = refl; session = refl; made = omega arith; later = record { session = refl; session0 = refl; start = refl; more = []; sets = refl } };
            };
          },
        );
      }

  connects_good : (s : Side) → GoodS s → GoodS (connects w s)
  unfolding connects connects_at
  connects_good s g =
      let told = clocked_good (instances w) w.present g.seen s.conn s.up s.down s.router.now s.router g.router in
      let shut = close_shut (instances w) w.present g.seen s.conn s.up s.down (clocked s.router.now s.router) told in
      record {
        seen = Some (seen_at w.keep (close (clocked s.router.now s.router)).speaks w.present);
        is_seen = (refl, refl, refl, omega arith);
        is_read = refl;
        order = ordered_connects w.keep (close (clocked s.router.now s.router)).speaks w.past w.present s.places g.seen g.order;
        router = linked g.seen s.conn s.up s.down (close (clocked s.router.now s.router)) shut;
      }

  asks_so : (s : Side) (g : GoodS s) → GoodRouter (instances w) w.present g.seen s.conn s.up s.down (asks s.router).router
  unfolding asks
  asks_so s g = asks_good (instances w) w.present g.seen s.conn s.up s.down s.router.link s.router (is_idle s.router.link) refl (λ h. h) g.router

  ticks_so : (now : ℕ) (s : Side) (g : GoodS s) → GoodRouter (instances w) w.present g.seen s.conn s.up s.down (ticks_at now s.router).router
  unfolding ticks_at
  ticks_so now s g =
      let told = clocked_good (instances w) w.present g.seen s.conn s.up s.down now s.router g.router in
      asks_good (instances w) w.present g.seen s.conn s.up s.down (clocked now s.router).link (clocked now s.router) (is_due (clocked now s.router).link (clocked now s.router).due (clocked now s.router).now) refl (not_due (clocked now s.router).link (clocked now s.router).due (clocked now s.router).now) told

  notifies_good : (s : Side) (o : Option Conn) → s.conn ≡ o → GoodS s → GoodS (notifies_at w s o)
  notifies_good s None e g = g
  notifies_good s (Some o) e g =
      record { seen = g.seen; is_seen = g.is_seen; is_read = g.is_read; order = g.order; router = cache.notified_good (instances w) w.present p w.keep g.seen (keeps_so s.home g.seen g.is_seen) s.router s.down o s.up (subst (λ x. GoodRouter (instances w) w.present g.seen x s.up s.down s.router) e g.router) }

  -- what a call does that commits nothing
  noted_good : (n : Noted) (s : Side) (g : GoodS s) → places_of (instances w) n.items s.items ≡ [] → GoodRouter (instances w) w.present g.seen s.conn s.up s.down n.router → GoodS (noted (instances w) n s)
  noted_good n s g none router = record { seen = g.seen; is_seen = g.is_seen; is_read = g.is_read; order = subst (λ x. Ordered w.past w.present (x ++ s.places) g.seen) (sym none) g.order; router = router }

  pub step_good : (event : SideEvent) (wanting : Option ℕ) (s : Side) → GoodS s → SideTells s → GoodS (side_step w event wanting s)
  unfolding side_step router_restarts speaks router_sends router_pulled cache_sends cache_gets asks ticks_at
  step_good RouterRestart wanting s g t = record { seen = None; is_seen = tt; is_read = tt; order = ordered_none w.past w.present s.places g.seen g.order; router = record { table = refl; unmarked = refl; config = refl; link = (refl, refl, refl, refl) } }
  -- The version of the next connection changes nothing of this one.
  step_good (Speak version) wanting s g t = record { seen = g.seen; is_seen = g.is_seen; is_read = g.is_read; order = g.order; router = record { table = g.router.table; unmarked = g.router.unmarked; config = g.router.config; link = g.router.link } }
  step_good Connect wanting s g t = connects_good s g
  step_good (RouterSends most) wanting s g t = wired_good s (drop most s.router.out) s.conn (s.up ++ take most s.router.out) s.down (drop_none most s.router.out) g
      (λ h f. (f.lost, refl, open_sent w.present s.router.spoken h most s.router.out s.up f.wanted f.coming s.router.agreed f.lost s.conn f.open_at))
  step_good (CacheGets most) wanting s g t = gets_good most wanting s s.conn refl g
  step_good (CacheSends most) wanting s g t = sends_good most s s.conn refl g
  step_good (RouterGets most) wanting s g t = router_gets_good most wanting s g t
  step_good (Cut left) wanting s g t = cut_good left s g
  step_good NotifyRouter wanting s g t = notifies_good s s.conn refl g
  step_good Ask wanting s g t = noted_good (asks s.router) s g (asks_by (λ n. places_of (instances w) n.items s.items ≡ []) (is_idle s.router.link) s.router refl refl) (asks_so s g)
  step_good (Tick now) wanting s g t =
      let k : Router = clocked now s.router in noted_good (ticks_at now s.router) s g (asks_by (λ n. places_of (instances w) (n.items ++ At now ∷ []) s.items ≡ []) (is_due k.link k.due k.now) k refl refl) (ticks_so now s g)

  pub refused_good : (event : SideEvent) (bytes : ℕ) (wanting : Option ℕ) (s : Side) → GoodS s → SideTells s → GoodS (side_refused w event bytes wanting s)
  unfolding side_refused
  refused_good event bytes wanting s g t = let k = cut_good 0 (side_part w event bytes wanting s) (part_by GoodS w event bytes wanting s g (λ is. step_good (lesser event bytes) wanting s g t)) in record { seen = k.seen; router = k.router; is_seen = k.is_seen; is_read = k.is_read; order = k.order }

  -- After each event

  -- a closed router is so, whatever its connection
  shut_good : (seen : Option Seen) (c : Option Conn) (u d : List ℕ) (r : Router) → Shut (instances w) w.present seen c u d r → (home : Option Seen) (conn : Option Conn) (up down : List ℕ) → GoodRouter (instances w) w.present home conn up down r
  shut_good seen c u d r shut home conn up down =
      record { table = shut.table; unmarked = shut.unmarked; config = shut.config; link = subst (λ l. GoodLink (instances w) w.present home l r conn up down) (sym shut.closed) (shut.held, shut.agreed, shut.session, shut.out) }

  shut_of : (s : Side) → is_closed s.router.link ≡ true → (g : GoodS s) (home : Option Seen) (conn : Option Conn) (up down : List ℕ) → GoodRouter (instances w) w.present home conn up down s.router
  shut_of s e g = shut_good g.seen s.conn s.up s.down s.router (closed_shut (instances w) w.present g.seen s.conn s.up s.down s.router.link s.router refl e g.router g.router.link)

  told_good : (s : Side) → GoodS s → (conn : Option Conn) (up down : List ℕ) → GoodS (record (tell_closed (instances w) s) { conn = conn; up = up; down = down })
  unfolding closed_at
  told_good s g conn up down =
      closed_by (λ t. GoodS (record t { conn = conn; up = up; down = down })) (instances w) s
      (λ e. record { seen = None; is_seen = tt; is_read = tt; order = none; router = shut_of s e g None conn up down })
      (λ e. record { seen = None; is_seen = tt; is_read = tt; order = none; router = shut_good g.seen s.conn s.up s.down (close (clocked s.router.now s.router)) (close_shut (instances w) w.present g.seen s.conn s.up s.down (clocked s.router.now s.router) (clocked_good (instances w) w.present g.seen s.conn s.up s.down s.router.now s.router g.router)) None conn up down })
    where
      none : Ordered w.past w.present s.places None
      none = ordered_none w.past w.present s.places g.seen g.order

  -- the clean-up
  pub settle_good : (s : Side) → GoodS s → GoodS (settle (instances w) s)
  settle_good s g = settle_by GoodS (instances w)
      (λ s o is none g. wired_good s s.router.out None s.up s.down (λ x. x) g (λ h f. (f.lost, ap (λ x. s.down ++ (conn_due x ++ f.lost)) is ∙ ap (λ x. s.down ++ (x ++ f.lost)) none, tt)))
      (λ s g. let t : Side = tell_closed (instances w) s in told_good s g t.conn t.up t.down)
      (λ s c is g. record { seen = g.seen; is_seen = g.is_seen; is_read = g.is_read; order = g.order; router = shut_of s (ap is_closed is) g g.seen (if c then s.conn else None) s.up [] })
      (λ s g. let t : Side = tell_closed (instances w) s in told_good s g t.conn [] t.down) s g
