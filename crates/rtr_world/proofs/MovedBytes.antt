-- The bytes that an event moves.
use Rattle.rtr_world.proofs.Words.{◌≡◌, ℕ, ◌+◌, ◌-◌, ◌<◌, ◌≤◌, Bool, true, false, ◌||◌, List, [], ◌∷◌, ◌++◌, length, drop, take, min, Option, Some, None, IfSome, Result, Ok, Err, is_ok, slice_get, if◌then◌else◌, refl, ⊤, sym, ap, ◌∙◌, subst, arith, append_assoc, subst₂, min-zero, zero-min, take-add, take-append_seam, append-nil, drop-drop, drop_min, length-append, length-drop, length-take, take-append-drop, take_min, list_any-append, list_any, AllocError, HoldsSteps, Steps, Conn, Taking, conn_byte, conn_pulled, conn_stops, conn_takes, counted, finds_memory, GivesBytes, ShowsCache, TakesPiece, conn_consumed, due_at, is_wanted_at, FedPiece, feed, is_wanted_by_peer, Pull, conn_after, Router, Noted, Pulls, Receiving, called, clocked, receives, router_byte, router_stops, router_pulled, with_bytes, PullsBytes, IsShown, Received, ReceivesSo, fed, is_lacking, taking, Item, At, Cache, feed_takes}
use Rattle.rtr_ends.specs.declared.cache.Conn.{Conn as Number}
use Rattle.rtr_ends.specs.declared.router.Router as routers
use Rattle.rtr_world.specs.History.{conn_readings, readings_at}
use Rattle.rtr_world.specs.SideShown.{AloneAt, BeginsEvent, ConnIs, MadeAt, Moves, Passes, SendsSome, ShowsBoth, ShowsSide, state_of, MadeTo}
use Rattle.rtr_world.specs.World.{World, Side, CacheGets, CacheSends, RouterGets, RouterSends, cache_gets, cache_sends, cut, gets_at, router_gets, router_sends, sends_from, side_step, timing, instances}
use Rattle.rtr_world.specs.declared.side.Side as values
use Rattle.rtr_world.proofs.Beside.{has}
use Rattle.rtr_world.proofs.Readings.{came, conn_wants, has_so, router_lacks}
use Rattle.rtr_world.proofs.Moving.{OnConn, alone, and_then, clocked_same, conn_here, on_cache, on_conn, put, served_as}

-- A side is shown that kept its connection and when that was made.
shown_as : (w : World) (at : ℕ → Option Conn) (s t : Side) (v n : values.Side) → ShowsSide w at s v → t.conn ≡ s.conn → t.home ≡ s.home → n.conn ≡ v.conn → n.made ≡ v.made → IsShown t.router n.router → n.up ≡ t.up → n.down ≡ t.down → AloneAt w at t v n
shown_as w at s t v n h conn home conn_is made_is router up down = record {
  shows = record {
    router = router;
    conn = subst₂ (λ c o. ConnIs at c o) (sym conn_is) (sym conn) h.conn;
    up = up;
    down = down;
    made = subst₂ (λ m o. MadeAt w.present o m) (sym made_is) (sym home) h.made;
    made_to = subst (λ o. MadeTo (instances w) o) (sym home) h.made_to;
  };
  conn = conn_is;
}

-- What is left of a piece comes before what is behind it.
drop_front : (front back : List ℕ) → drop (length front) (front ++ back) ≡ back
drop_front [] back = refl
drop_front (b ∷ front) back = drop_front front back

pub left_over : (most count : ℕ) (bytes taken rest : List ℕ) → take most bytes ≡ taken ++ rest → count ≡ length (take most bytes) - length rest → drop count bytes ≡ rest ++ drop most bytes
left_over most count bytes taken rest piece is =
    let len : length (take most bytes) ≡ length taken + length rest = ap length piece ∙ length-append taken rest in
    let count_is : count ≡ length taken = omega (arith, is, len) in
    let whole : bytes ≡ taken ++ (rest ++ drop most bytes) = sym (take-append-drop most bytes) ∙ ap (λ x. x ++ drop most bytes) piece ∙ append_assoc taken rest (drop most bytes) in
    (λ i. drop (count_is i) (whole i)) ∙ drop_front taken (rest ++ drop most bytes)

-- A transcript so far does not matter to what a router does.
record Alike (f g : FedPiece Receiving) : Type 0 where
  pub router : f.machine.router ≡ g.machine.router
  pub rest : f.rest ≡ g.rest
  pub lacks : list_any is_lacking f.machine.items ≡ list_any is_lacking g.machine.items

-- what becomes of the next byte
abbrev brings : Router → Option ℕ → ℕ → Noted
brings r wanting b = with_bytes (finds_memory wanting) (r.held ++ b ∷ []) r (came r b)

lacks_more : (zs xs ys : List Item) → list_any is_lacking xs ≡ list_any is_lacking ys → list_any is_lacking (zs ++ xs) ≡ list_any is_lacking (zs ++ ys)
lacks_more zs xs ys h = list_any-append is_lacking zs xs ∙ ap (λ t. list_any is_lacking zs || t) h ∙ sym (list_any-append is_lacking zs ys)

fed_alike : (piece : List ℕ) (r : Router) (wanting : Option ℕ) (xs ys : List Item) → list_any is_lacking xs ≡ list_any is_lacking ys → Alike (fed r xs wanting piece) (fed r ys wanting piece)
unfolding router_byte
fed_alike [] r wanting xs ys h = record { router = refl; rest = refl; lacks = h }
fed_alike (b ∷ bytes) r wanting xs ys h = by_test (router_stops r) (fed_alike bytes (brings r wanting b).router (counted (came r b) wanting) ((brings r wanting b).items ++ xs) ((brings r wanting b).items ++ ys) (lacks_more (brings r wanting b).items xs ys h))
  where
    by_test : (stops : Bool) → Alike (fed (brings r wanting b).router ((brings r wanting b).items ++ xs) (counted (came r b) wanting) bytes) (fed (brings r wanting b).router ((brings r wanting b).items ++ ys) (counted (came r b) wanting) bytes) → Alike
        (elim stops [ true ↦ record { machine = taking r xs wanting; rest = b ∷ bytes } | false ↦ feed (λ m. router_stops m.router) router_byte (router_byte (taking r xs wanting) b) bytes ])
        (elim stops [ true ↦ record { machine = taking r ys wanting; rest = b ∷ bytes } | false ↦ feed (λ m. router_stops m.router) router_byte (router_byte (taking r ys wanting) b) bytes ])
    by_test true on = record { router = refl; rest = refl; lacks = h }
    by_test false on = on

told_now : (piece : List ℕ) (r : Router) (wanting : Option ℕ) → Alike (receives 0 wanting piece r) (receives r.now wanting piece r)
unfolding receives
told_now piece r wanting = subst (λ x. Alike (fed (clocked 0 r) (At 0 ∷ []) wanting piece) (fed x (At r.now ∷ []) wanting piece)) (clocked_same r) (fed_alike piece (clocked 0 r) wanting (At 0 ∷ []) (At r.now ∷ []) refl)

router_left : (piece : List ℕ) (r : Router) (wanting : Option ℕ) (bytes : List ℕ) (most count : ℕ) → piece ≡ take most bytes → count ≡ length piece - length (receives 0 wanting piece r).rest
    → drop count bytes ≡ (receives r.now wanting piece r).rest ++ drop most bytes
unfolding receives
router_left piece r wanting bytes most count is count_is =
    let t = feed_takes (λ m. router_stops m.router) router_byte (taking (clocked 0 r) (At 0 ∷ []) wanting) piece in
    left_over most count bytes t.0 (receives 0 wanting piece r).rest (sym is ∙ t.1.piece_is) (count_is ∙ ap (λ x. length x - length (receives 0 wanting piece r).rest) is)
    ∙ ap (λ x. x ++ drop most bytes) (told_now piece r wanting).rest

wanted_now : (s : Side) (w : World) (most : ℕ) (wanting : Option ℕ) → IfSome wanting (λ unit. list_any is_lacking (receives 0 (Some unit) (take most s.down) s.router).machine.items ≡ true)
    → IfSome wanting (λ unit. slice_get (readings_at w (RouterGets most) most (Some s)) unit ≡ Some true)
wanted_now s w most None h = tt
wanted_now s w most (Some unit) h =
    has_so (slice_get (readings_at w (RouterGets most) most (Some s)) unit) (sym (router_lacks s.router.now (take most s.down) s.router unit) ∙ sym (told_now (take most s.down) s.router (Some unit)).lacks ∙ h)

pub router_got : (w : World) (at : ℕ → Option Conn) (s : Side) (v n : values.Side) (most count : ℕ) (piece : List ℕ) → ShowsSide w at s v → piece ≡ take most v.down → ReceivesSo 0 piece count v.router n.router
    → n ≡ record v { router = n.router; down = drop count v.down } → Passes w at (RouterGets most) s (λ t. AloneAt w at t v n)
unfolding side_step router_gets
router_got w at s v n most count piece h is received same =
    let r : Received 0 received.0 piece count s.router n.router = received.1 s.router h.router in
    let piece_is : piece ≡ take most s.down = is ∙ ap (take most) h.down in
    let there : Received 0 received.0 (take most s.down) count s.router n.router = subst (λ x. Received 0 received.0 x count s.router n.router) piece_is r in
    record {
      wanting = received.0;
      wanted = wanted_now s w most received.0 there.wanted;
      now = shown_as w at s _ v n h refl refl (ap (λ x. x.conn) same) (ap (λ x. x.made) same) (subst (λ x. IsShown x n.router) (told_now (take most s.down) s.router received.0).router there.shown) (ap (λ x. x.up) same ∙ h.up)
          (ap (λ x. x.down) same ∙ ap (drop count) h.down ∙ router_left (take most s.down) s.router received.0 s.down most count refl there.count_is);
    }

-- What arrives at the cache
conn_left : (w : World) (o : Conn) (wanting : Option ℕ) (bytes : List ℕ) (most count : ℕ) → count ≡ length (take most bytes) - length (conn_takes w.keep timing w.present wanting (take most bytes) o).rest
    → drop count bytes ≡ (conn_takes w.keep timing w.present wanting (take most bytes) o).rest ++ drop most bytes
unfolding conn_takes
conn_left w o wanting bytes most count is =
    let t = feed_takes (λ (m : Taking). conn_stops m.conn) (conn_byte w.keep timing w.present) (record { conn = o; moments = []; wanting = wanting }) (take most bytes) in
    left_over most count bytes t.0 (conn_takes w.keep timing w.present wanting (take most bytes) o).rest t.1.piece_is is

pub none_got : (w : World) (at : ℕ → Option Conn) (s : Side) (cache : Cache Steps) (v : values.Side) (most : ℕ) → ShowsBoth w at s cache v → s.conn ≡ None → Passes w at (CacheGets most) s (λ t. Moves w at v.conn t cache v)
unfolding side_step cache_gets
none_got w at s cache v most h none = record {
  wanting = None;
  wanted = tt;
  now = subst (λ o. Moves w at v.conn (gets_at w most None s o) cache v) (sym none) (alone w at s s cache v v h (record { shows = h.side; conn = refl }));
}

pub cache_got : (w : World) (at : ℕ → Option Conn) (s : Side) (cache later : Cache Steps) (v n : values.Side) (number : Number) (most count : ℕ) (piece : List ℕ) → ShowsBoth w at s cache v → v.conn ≡ Some number → piece ≡ take most v.up
    → TakesPiece HoldsSteps (state_of w at) number.0 piece count later → n ≡ record v { up = drop count v.up } → Passes w at (CacheGets most) s (λ t. Moves w at v.conn t later n)
unfolding side_step cache_gets
cache_got w at s cache later v n number most count piece h is piece_is took same =
    let there : OnConn at number s.conn = on_conn at v.conn s.conn number is h.side.conn in
    let x : Conn = there.conn in
    let got : piece ≡ take most s.up = piece_is ∙ ap (take most) h.side.up in
    let served = served_as w at later number.0 (λ o. (conn_takes w.keep timing w.present took.wanting piece o).machine.conn) x there.at_is took.shows in
    let wanted : IfSome took.wanting (λ unit. slice_get (readings_at w (CacheGets most) most (Some s)) unit ≡ Some true) = wants took.wanting took.wanted there got in
    let next : Conn = (conn_takes w.keep timing w.present took.wanting (take most s.up) x).machine.conn in
    let count_is : count ≡ length (take most s.up) - length (conn_takes w.keep timing w.present took.wanting (take most s.up) x).rest =
    took.result_is ∙ ap (λ o. conn_consumed took.wanting piece (state_of w at) o) there.at_is ∙ ap (λ p. length p - length (conn_takes w.keep timing w.present took.wanting p x).rest) got in
    record {
      wanting = took.wanting;
      wanted = wanted;
      now = subst (λ o. Moves w at v.conn (gets_at w most took.wanting s o) later n) (sym there.is)
          (on_cache w at s (gets_at w most took.wanting s (Some x)) cache later v n number next h is
          (subst (λ p. ShowsCache HoldsSteps (state_of w (put number.0 (Some (conn_takes w.keep timing w.present took.wanting p x).machine.conn) at)) later) got served)
          (record {
            router = subst (λ r. IsShown s.router r) (sym (ap (λ y. y.router) same)) h.side.router;
            conn = conn_here at n.conn number next (ap (λ y. y.conn) same ∙ is);
            up = ap (λ y. y.up) same ∙ ap (drop count) h.side.up ∙ conn_left w x took.wanting s.up most count count_is;
            down = ap (λ y. y.down) same ∙ h.side.down;
            made = subst (λ m. MadeAt w.present s.home m) (sym (ap (λ y. y.made) same)) h.side.made;
            made_to = h.side.made_to;
          })
          (ap (λ y. y.conn) same));
    }
  where
    wants : (wanting : Option ℕ) → IfSome wanting (λ unit. is_wanted_at piece (state_of w at) (at number.0) unit ≡ true) → OnConn at number s.conn → piece ≡ take most s.up
        → IfSome wanting (λ unit. slice_get (readings_at w (CacheGets most) most (Some s)) unit ≡ Some true)
    wants None h t e = tt
    wants (Some unit) h t e =
        has_so (slice_get (readings_at w (CacheGets most) most (Some s)) unit)
        (ap (λ o. has (slice_get (conn_readings w (take most s.up) o) unit)) t.is ∙ sym (conn_wants w.keep w.present (take most s.up) t.conn unit) ∙ ap (λ p. is_wanted_by_peer w.keep timing w.present t.conn p unit) (sym e) ∙ ap (λ o. is_wanted_at piece (state_of w at) o unit) (sym t.at_is) ∙ h)

-- What a router puts on the wire
front_of : (most count : ℕ) (bytes behind : List ℕ) → count ≡ min most (length bytes) → take count (take most bytes ++ behind) ≡ take most bytes
front_of most count bytes behind is = ap (λ n. take n (take most bytes ++ behind)) (is ∙ sym (length-take most bytes)) ∙ take-append_seam (take most bytes) behind

all_pulled : (most : ℕ) (out : List ℕ) → length out ≤ 4096 → drop (min most 4096) out ≡ drop most out
all_pulled most out fits =
    let same : min (min most 4096) (length out) ≡ min most (length out) = omega (arith, fits) in
    sym (drop_min (min most 4096) out) ∙ ap (λ n. drop n out) same ∙ drop_min most out

all_taken : (most : ℕ) (out : List ℕ) → length out ≤ 4096 → take (min most 4096) out ≡ take most out
all_taken most out fits =
    let same : min (min most 4096) (length out) ≡ min most (length out) = omega (arith, fits) in
    sym (take_min (min most 4096) out) ∙ ap (λ n. take n out) same ∙ take_min most out

pulled_as : (a b : ℕ) (r : Router) → drop a r.out ≡ drop b r.out → router_pulled a r ≡ router_pulled b r
unfolding router_pulled
pulled_as a b r h = ap (λ out. record r { out = out }) h

-- the room for as many bytes as are pulled at once
pub room_for : (most count : ℕ) (room : List ℕ) → length room ≡ 4096 → count ≡ min most 4096 → length (take count room) ≡ min most 4096
room_for most count room len is = let cut = length-take count room in omega (arith, len, is, cut)

-- a router of which bytes were pulled into this room
pub record Pulled (most count : ℕ) (room : List ℕ) (r : Router) (v : routers.Router) : Type 0 where
  pub count_is : count ≡ min (min most 4096) (length r.out)
  pub room_is : take count room ≡ take most r.out
  pub router : IsShown (router_pulled (min most 4096) r) v
  pub fits : length r.out ≤ 4096

pub pulled : (most count : ℕ) (old room : List ℕ) (r : Router) (v : routers.Router) → length old ≡ min most 4096 → length r.out ≤ 4096
    → (count ≡ min (length old) (length r.out)) × (room ≡ take (length old) r.out ++ drop (length r.out) old) → IsShown (called (Pulls (length old)) r).router v → Pulled most count room r v
pulled most count old room r v len fits bytes shown =
    let count_is : count ≡ min (min most 4096) (length r.out) = bytes.0 ∙ ap (λ n. min n (length r.out)) len in
    record {
      count_is = count_is;
      room_is = ap (take count) (bytes.1 ∙ ap (λ n. take n r.out ++ drop (length r.out) old) len) ∙ front_of (min most 4096) count r.out (drop (length r.out) old) count_is ∙ all_taken most r.out fits;
      router = subst (λ n. IsShown (router_pulled n r) v) len shown;
      fits = fits;
    }

sent_so : (w : World) (at : ℕ → Option Conn) (s : Side) (v n : values.Side) (most count : ℕ) (room : List ℕ) → ShowsSide w at s v → Pulled most count room s.router n.router → n ≡ record v { router = n.router; up = v.up ++ take count room } → Passes w at (RouterSends most) s (λ t. AloneAt w at t v n)
unfolding side_step router_sends
sent_so w at s v n most count room h p same = record {
  wanting = None;
  wanted = tt;
  now = shown_as w at s _ v n h refl refl (ap (λ x. x.conn) same) (ap (λ x. x.made) same) (subst (λ r. IsShown r n.router) (pulled_as (min most 4096) most s.router (all_pulled most s.router.out p.fits)) p.router) (ap (λ x. x.up) same ∙ (λ i. h.up i ++ p.room_is i))
      (ap (λ x. x.down) same ∙ h.down);
}

pub none_sent : (w : World) (at : ℕ → Option Conn) (s : Side) (v n : values.Side) (most count : ℕ) (room : List ℕ) → ShowsSide w at s v → Pulled most count room s.router n.router → count ≡ 0
    → n ≡ record v { router = n.router } → Passes w at (RouterSends most) s (λ t. AloneAt w at t v n)
none_sent w at s v n most count room h p none same = sent_so w at s v n most count room h p (same ∙ (λ i. record v { router = n.router; up = (sym (append-nil v.up) ∙ ap (λ k. v.up ++ take k room) (sym none)) i }))

pub some_sent : (w : World) (at : ℕ → Option Conn) (s : Side) (v n : values.Side) (most count : ℕ) (room : List ℕ) (result : Result ⊤ AllocError) → ShowsSide w at s v → Pulled most count room s.router n.router → ¬ (count ≡ 0)
    → n ≡ record v { router = n.router; up = if is_ok result then v.up ++ take count room else v.up } → BeginsEvent w at (RouterSends most) s (λ t. AloneAt w at t v n) result
unfolding side_step router_sends cut
some_sent w at s v n most count room (Ok done) h p some same = sent_so w at s v n most count room h p same
some_sent w at s v n most count room (Err error) h p some same =
    let few : count ≡ min most (length s.router.out) = omega (arith, p.count_is, p.fits) in
    let left : drop (min most 4096) s.router.out ≡ drop count s.router.out = sym (drop_min (min most 4096) s.router.out) ∙ ap (λ k. drop k s.router.out) (sym p.count_is) in
    record {
      bytes = count;
      fewer = let len = length-take most s.router.out in omega (arith, few, len);
      may = λ none. some (p.count_is ∙ ap (λ (x : List ℕ). min (min most 4096) (length x)) none ∙ min-zero (min most 4096));
      part = record (router_sends count s) { up = s.up };
      cut_is = refl;
      now = shown_as w at s _ v n h refl refl (ap (λ x. x.conn) same) (ap (λ x. x.made) same) (subst (λ r. IsShown r n.router) (pulled_as (min most 4096) count s.router left) p.router) (ap (λ x. x.up) same ∙ h.up)
          (ap (λ x. x.down) same ∙ h.down);
    }

-- What the cache puts on the wire
conn_pulled_as : (keep a b : ℕ) (o : Conn) → min a (length o.state.due) ≡ min b (length o.state.due) → conn_pulled keep timing a o ≡ conn_pulled keep timing b o
unfolding conn_pulled
conn_pulled_as keep a b o h = ap (λ n. record o { state = conn_after keep timing o.state (Pull n) }) h

take_as : (a b : ℕ) (xs : List ℕ) → min a (length xs) ≡ min b (length xs) → take a xs ≡ take b xs
take_as a b xs h = sym (take_min a xs) ∙ ap (λ n. take n xs) h ∙ take_min b xs

pub sends_as : (keep a b : ℕ) (s : Side) (o : Conn) → min a (length o.state.due) ≡ min b (length o.state.due) → sends_from keep a s (Some o) ≡ sends_from keep b s (Some o)
sends_as keep a b s o h = λ i. record s { conn = Some (conn_pulled_as keep a b o h i); down = s.down ++ take_as a b o.state.due h i }

-- one part after the other
conn_pulled_on : (keep a b : ℕ) (o : Conn) → a ≤ length o.state.due → conn_pulled keep timing b (conn_pulled keep timing a o) ≡ conn_pulled keep timing (a + b) o
unfolding conn_pulled
conn_pulled_on keep a b o few =
    let first : min a (length o.state.due) ≡ a = omega (arith, few) in
    let behind : length (drop (min a (length o.state.due)) o.state.due) ≡ length o.state.due - min a (length o.state.due) = length-drop (min a (length o.state.due)) o.state.due in
    let both : min a (length o.state.due) + min b (length (drop (min a (length o.state.due)) o.state.due)) ≡ min (a + b) (length o.state.due) = omega (arith, few, behind) in
    ap (λ due. record o { state = record o.state { due = due } })
    (drop-drop (min b (length (drop (min a (length o.state.due)) o.state.due))) (min a (length o.state.due)) o.state.due ∙ ap (λ n. drop n o.state.due) both)

sends_more : (a b : ℕ) (due down : List ℕ) → a ≤ length due → (down ++ take a due) ++ take b (drop a due) ≡ down ++ take (a + b) due
sends_more a b due down few = append_assoc down (take a due) (take b (drop a due)) ∙ ap (λ x. down ++ x) (sym (take-add a b due))

due_left : (keep a : ℕ) (o : Conn) → a ≤ length o.state.due → (conn_pulled keep timing a o).state.due ≡ drop a o.state.due
unfolding conn_pulled
due_left keep a o few = drop_min a o.state.due

pub sends_on : (keep a b : ℕ) (s : Side) (o : Conn) → a ≤ length o.state.due → sends_from keep b (sends_from keep a s (Some o)) (Some (conn_pulled keep timing a o)) ≡ sends_from keep (a + b) s (Some o)
sends_on keep a b s o few = λ i. record s {
  conn = Some (conn_pulled_on keep a b o few i);
  down = (ap (λ x. (s.down ++ take a o.state.due) ++ take b x) (due_left keep a o few) ∙ sends_more a b o.state.due s.down few) i;
}

-- What the cache gives of its connection
pub record Given (w : World) (at : ℕ → Option Conn) (number : Number) (o : Conn) (most count : ℕ) (room : List ℕ) (later : Cache Steps) : Type 0 where
  pub count_is : count ≡ min (min most 4096) (length o.state.due)
  pub room_is : take count room ≡ take count o.state.due
  pub served : ShowsCache HoldsSteps (state_of w (put number.0 (Some (conn_pulled w.keep timing count o)) at)) later

pub given_of : (w : World) (at : ℕ → Option Conn) (number : Number) (o : Conn) (most count : ℕ) (old room : List ℕ) (later : Cache Steps) → at number.0 ≡ Some o → length old ≡ min most 4096
    → GivesBytes HoldsSteps (state_of w at) number.0 old count room later → Given w at number o most count room later
given_of w at number o most count old room later at_is len gives =
    let due : due_at (at number.0) ≡ o.state.due = ap due_at at_is in
    let count_is : count ≡ min (length old) (length o.state.due) = gives.gives.count_is ∙ ap (λ x. min (length old) (length x)) due in
    let conn_same : conn_pulled w.keep timing (length old) o ≡ conn_pulled w.keep timing count o = conn_pulled_as w.keep (length old) count o (omega (arith, count_is)) in
    record {
      count_is = count_is ∙ ap (λ k. min k (length o.state.due)) len;
      room_is = ap (take count) (gives.gives.now_is ∙ ap (λ x. take count x ++ drop count old) due) ∙ front_of count count o.state.due (drop count old) (omega (arith, count_is));
      served = subst (λ y. ShowsCache HoldsSteps (state_of w (put number.0 (Some y) at)) later) conn_same (served_as w at later number.0 (conn_pulled w.keep timing (length old)) o at_is gives.shows);
    }

-- and the side with this connection, when other bytes are on their way
pub given_side : (w : World) (at : ℕ → Option Conn) (s : Side) (v n : values.Side) (number : Number) (next : Conn) (down went : List ℕ) → ShowsSide w at s v → v.conn ≡ Some number → n ≡ record v { down = down } → down ≡ went
    → ShowsSide w (put number.0 (Some next) at) (record s { conn = Some next; down = went }) n
given_side w at s v n number next down went h is same down_is = record {
  router = subst (λ r. IsShown s.router r) (sym (ap (λ x. x.router) same)) h.router;
  conn = conn_here at n.conn number next (ap (λ x. x.conn) same ∙ is);
  up = ap (λ x. x.up) same ∙ h.up;
  down = ap (λ x. x.down) same ∙ down_is;
  made = subst (λ m. MadeAt w.present s.home m) (sym (ap (λ x. x.made) same)) h.made;
  made_to = h.made_to;
}

pub clipped : (due out now rest : List ℕ) (count : ℕ) → PullsBytes due out count now rest → min count (length now) ≡ count
clipped due out now rest count g =
    let len : length now ≡ length (take count due) + length (drop count out) = ap length g.now_is ∙ length-append (take count due) (drop count out) in
    let front = length-take count due in
    let behind = length-drop count out in
    omega (arith, len, front, behind, g.count_is)

module _ (w : World) (at : ℕ → Option Conn) (s : Side) (cache later : Cache Steps) (v n : values.Side) (number : Number) (o : Conn) (most count : ℕ) (old room : List ℕ) (h : ShowsBoth w at s cache v) (is : v.conn ≡ Some number) (has : s.conn ≡ Some o) (len : length old ≡ min most 4096) (gives : GivesBytes HoldsSteps (state_of w at) number.0 old count room later) where
  abbrev Now : Side → Type 0
  Now t = Moves w at v.conn t later n

  at_is : at number.0 ≡ Some o
  at_is = let there : OnConn at number s.conn = on_conn at v.conn s.conn number is h.side.conn in there.at_is ∙ sym there.is ∙ has

  given : Given w at number o most count room later
  given = given_of w at number o most count old room later at_is len gives

  abbrev next : Conn
  next = conn_pulled w.keep timing count o

  moves : (down went : List ℕ) → n ≡ record v { down = down } → down ≡ went → Moves w at v.conn (record s { conn = Some next; down = went }) later n
  moves down went same down_is = on_cache w at s (record s { conn = Some next; down = went }) cache later v n number next h is given.served (given_side w at s v n number next down went h.side is same down_is) (ap (λ x. x.conn) same)

  pub sent_some : (done : Result ⊤ AllocError) (clip : ℕ) → is_ok done ≡ true → clip ≡ min count (length room) → n ≡ record v { down = if is_ok done then v.down ++ take clip room else v.down } → SendsSome w at most s o Now (Ok clip)
  sent_some done clip went clip_is same =
      let exact : clip ≡ count = clip_is ∙ clipped (due_at (at number.0)) old room _ count gives.gives in
      let down_is : (if is_ok done then v.down ++ take clip room else v.down) ≡ s.down ++ take count o.state.due =
      ap (λ b. if b then v.down ++ take clip room else v.down) went ∙ (λ i. h.side.down i ++ (ap (λ k. take k room) exact ∙ given.room_is) i) in
      (exact ∙ given.count_is, subst (λ k. Now (sends_from w.keep k s (Some o))) (sym exact) (moves _ (s.down ++ take count o.state.due) same down_is))

  pub sent_none : (done : Result ⊤ AllocError) (result : Result ℕ AllocError) (error : AllocError) (clip : ℕ) → is_ok done ≡ false → result ≡ Err error → n ≡ record v { down = if is_ok done then v.down ++ take clip room else v.down } → SendsSome w at most s o Now result
  unfolding cut
  sent_none done result error clip failed is_err same =
      subst (λ r. SendsSome w at most s o Now r) (sym is_err)
      (record s { conn = Some next }, refl, moves _ s.down same (ap (λ b. if b then v.down ++ take clip room else v.down) failed ∙ h.side.down))

-- Piece by piece
abbrev pub so_far : World → ℕ → Side → Conn → Side
so_far w count s o = sends_from w.keep count s (Some o)

pub record SentSo (w : World) (at : ℕ → Option Conn) (s : Side) (o : Conn) (count : ℕ) (old : Option Number) (cache : Cache Steps) (v : values.Side) : Type 0 where
  pub few : count ≤ length o.state.due
  pub moves : Moves w at old (so_far w count s o) cache v

conn_as_it_was : (keep : ℕ) (o : Conn) → conn_pulled keep timing 0 o ≡ o
unfolding conn_pulled
conn_as_it_was keep o = ap (λ n. record o { state = record o.state { due = drop n o.state.due } }) (zero-min (length o.state.due))

as_it_was : (w : World) (s : Side) (o : Conn) → s.conn ≡ Some o → so_far w 0 s o ≡ s
as_it_was w s o has = λ i. record s { conn = (ap (λ x. Some x) (conn_as_it_was w.keep o) ∙ sym has) i; down = append-nil s.down i }

pub nothing_sent : (w : World) (at : ℕ → Option Conn) (s : Side) (o : Conn) (cache : Cache Steps) (v : values.Side) (most : ℕ) → ShowsBoth w at s cache v → s.conn ≡ Some o → SentSo w at s o (most - most) v.conn cache v
nothing_sent w at s o cache v most h has =
    let none : 0 ≡ most - most = omega arith in
    subst (λ n. SentSo w at s o n v.conn cache v) none (record {
      few = omega arith;
      moves = subst (λ t. Moves w at v.conn t cache v) (sym (as_it_was w s o has)) (alone w at s s cache v v h (record { shows = h.side; conn = refl }));
    })

pub sent_more : (w : World) (at : ℕ → Option Conn) (s : Side) (o : Conn) (most left count next : ℕ) (old : Option Number) (cache later : Cache Steps) (v n : values.Side) (sent : SentSo w at s o (most - left) old cache v)
    → (some : Result ℕ AllocError) → some ≡ Ok count → SendsSome w sent.moves.now left (so_far w (most - left) s o) (conn_pulled w.keep timing (most - left) o) (λ t. Moves w sent.moves.now v.conn t later n) some → left ≤ most → next + count ≡ left
    → SentSo w at s o (most - next) old later n
sent_more w at s o most left count next old cache later v n sent some went sends few on =
    let more = subst (λ r. SendsSome w sent.moves.now left (so_far w (most - left) s o) (conn_pulled w.keep timing (most - left) o) (λ t. Moves w sent.moves.now v.conn t later n) r) went sends in
    let due = ap length (due_left w.keep (most - left) o sent.few) ∙ length-drop (most - left) o.state.due in
    let total : (most - left) + count ≡ most - next = omega (arith, few, on) in
    subst (λ x. SentSo w at s o x old later n) total (record {
      few = omega (arith, more.0, due, sent.few);
      moves = subst (λ t. Moves w at old t later n) (sends_on w.keep (most - left) count s o sent.few) (and_then w at old (so_far w (most - left) s o) _ cache later v n sent.moves more.1);
    })

pub sent_whole : (w : World) (at : ℕ → Option Conn) (s : Side) (o : Conn) (most count : ℕ) (old : Option Number) (cache : Cache Steps) (v : values.Side) → s.conn ≡ Some o → SentSo w at s o count old cache v
    → min count (length o.state.due) ≡ min most (length o.state.due) → BeginsEvent w at (CacheSends most) s (λ t. Moves w at old t cache v) (Ok tt)
unfolding side_step cache_sends
sent_whole w at s o most count old cache v has sent all = record {
  wanting = None;
  wanted = tt;
  now = subst (λ x. Moves w at old (sends_from w.keep most s x) cache v) (sym has) (subst (λ t. Moves w at old t cache v) (sends_as w.keep count most s o all) sent.moves);
}

-- if nothing more is due
pub sent_due : (w : World) (at : ℕ → Option Conn) (s : Side) (o : Conn) (most left : ℕ) (old : Option Number) (cache later : Cache Steps) (v n : values.Side) (sent : SentSo w at s o (most - left) old cache v)
    → (some : Result ℕ AllocError) → some ≡ Ok 0 → SendsSome w sent.moves.now left (so_far w (most - left) s o) (conn_pulled w.keep timing (most - left) o) (λ t. Moves w sent.moves.now v.conn t later n) some → left ≤ most → 0 < left → s.conn ≡ Some o
    → BeginsEvent w at (CacheSends most) s (λ t. Moves w at old t later n) (Ok tt)
sent_due w at s o most left old cache later v n sent some went sends few more has =
    let none = (subst (λ r. SendsSome w sent.moves.now left (so_far w (most - left) s o) (conn_pulled w.keep timing (most - left) o) (λ t. Moves w sent.moves.now v.conn t later n) r) went sends).0 in
    let due = ap length (due_left w.keep (most - left) o sent.few) ∙ length-drop (most - left) o.state.due in
    let all : min (most - left) (length o.state.due) ≡ min most (length o.state.due) = omega (arith, none, due, few, more, sent.few) in
    sent_whole w at s o most (most - left) old later n has (sent_more w at s o most left 0 left old cache later v n sent some went sends few (omega arith)) all

pub none_sends : (w : World) (at : ℕ → Option Conn) (s : Side) (cache : Cache Steps) (v : values.Side) (most : ℕ) → ShowsBoth w at s cache v → s.conn ≡ None → BeginsEvent w at (CacheSends most) s (λ t. Moves w at v.conn t cache v) (Ok tt)
unfolding side_step cache_sends
none_sends w at s cache v most h none = record {
  wanting = None;
  wanted = tt;
  now = subst (λ o. Moves w at v.conn (sends_from w.keep most s o) cache v) (sym none) (alone w at s s cache v v h (record { shows = h.side; conn = refl }));
}

pub send_fails : (w : World) (at : ℕ → Option Conn) (s : Side) (o : Conn) (most left k : ℕ) (old : Option Number) (cache later : Cache Steps) (v n : values.Side) (sent : SentSo w at s o k old cache v) (some : Result ℕ AllocError) (result : Result ⊤ AllocError) (was error : AllocError)
    → s.conn ≡ Some o → some ≡ Err was → result ≡ Err error → SendsSome w sent.moves.now left (so_far w k s o) (conn_pulled w.keep timing k o) (λ t. Moves w sent.moves.now v.conn t later n) some
    → BeginsEvent w at (CacheSends most) s (λ t. Moves w at old t later n) result
unfolding cache_sends cut
send_fails w at s o most left k old cache later v n sent some result was error has failed is fails =
    let f = subst (λ r. SendsSome w sent.moves.now left (so_far w k s o) (conn_pulled w.keep timing k o) (λ t. Moves w sent.moves.now v.conn t later n) r) failed fails in
    subst (λ r. BeginsEvent w at (CacheSends most) s (λ t. Moves w at old t later n) r) (sym is) (record {
      bytes = 0;
      fewer = omega arith;
      may = λ none. absurd (let e : ◌≡◌ {A = Option Conn} None (Some o) = sym none ∙ has in cc);
      part = f.0;
      cut_is = f.1 ∙ ap (λ x. cut 0 (sends_from w.keep 0 s x)) (sym has);
      now = and_then w at old (so_far w k s o) f.0 cache later v n sent.moves f.2;
    })
