-- What led to a server, from call to call.
use Rattle.std.specs.Prelude.{◌≡◌, ℕ, ◌+◌, ◌<◌, ◌==◌, Bool, true, false, not, ◌&&◌, List, [], ◌∷◌, ◌++◌, Option, Some, None, Result, Ok, Err, IfSome, length, option_map, if◌then◌else◌, refl}
use Rattle.std.proofs.Common.{sym, ap, ◌∙◌, subst, arith}
use Rattle.std.specs.List.{AllByRecursion}
use Rattle.std.proofs.KnownBytes.{Appends-nil, Consumes-nil}
use Rattle.vrps.specs.Instance.{Instance}
use Rattle.vrps.specs.Serial.{serial_at}
use Rattle.vrps.specs.Store.{is_current, published}
use Rattle.vrps.specs.VrpSet.{IsVrpSet, VrpSet}
use Rattle.vrps.specs.declared.store.Published.{Published}
use Rattle.vrps.specs.declared.store.Published.TheVariants.{New, Unchanged}
use Rattle.std.specs.declared.alloc.AllocError.{AllocError}
use Rattle.rtr_ends.specs.Cache.{Conn, ConnCall, Gives, IsServed, Notifies as Notified, Serving, Takes, conn_notified, conn_pulled, conn_takes, new_conn, serve, serving}
use Rattle.rtr_ends.specs.CacheState.{CacheCall, CacheState, Close, IsCacheCall, IsLeastFree, Life, Notify, Pull, Receive, ShowsCache, ShowsSlot, can_notify_at, life, peer_at, ran, serves, with_conn}
use Rattle.rtr_ends.specs.Timing.{Intervals}
use Rattle.rtr_ends.specs.declared.cache.Cache.{Cache}
use Rattle.rtr_ends.specs.declared.cache.Conn.{Conn as Number}
use Rattle.rtr_ends.proofs.CacheStateLaws.{with_conn_at}
use Rattle.rtr_ends.proofs.LifeLaws.{each_is_served}
use Rattle.prefixes.proofs.Basics.{eq_of, eq_self, not_eq_of}
use Rattle.rtr_server.specs.Clients.{Admits, Becomes, ClientIsServed, EachClientIsServed, GoesOnAfter, IsCounted, IsOn, KeepsAll, KeepsOthers, Leaves, NoneBeforeQuery, OwesSo, Past, PublishesNew, PublishesSo, PublishesTo, Serves, ShowsClient, ShowsServer, Turned, and_calls, awaits, can_be_sent, clients_in, made, notified_below, present, slot_at}
use Rattle.rtr_server.specs.Turns.{Anyhow, ClientState, ClientStep, EndsSo, Flow, GoesFrom, HandsIn, HasRoom, MaySteps, Notifies, Pulls, Reads, StandsSo, Writes, and_read, client_after, client_of, no_traffic, steps_after}
use Rattle.rtr_server.specs.declared.server.Server.{Server}
use Rattle.rtr_server.specs.declared.stream.Call.{Call}
use Rattle.rtr_server.specs.declared.turn.Parted.{Parted}
use Rattle.rtr_server.specs.declared.turn.Parted.{Parted}
use Rattle.rtr_server.specs.declared.turn.Slot.{Slot}
use Rattle.rtr_server.specs.declared.turn.Traffic.{Traffic}
use Rattle.rtr_server.specs.declared.turn.Turn.{Turn}
use Rattle.rtr_server.specs.declared.turn.Turn.TheVariants.{Busy, Gone, WaitsToRead, WaitsToWrite}
use Rattle.rtr_server.proofs.NoticeLaws as notices
use Rattle.rtr_server.proofs.QueryLaws.{awaits_asked}
use Rattle.rtr_server.proofs.TurnLaws.{cache_is, room_kept, set_twice}

-- The steps of one client change no other connection.
pub record Follows (c : ℕ) (m : CacheState) (l : Life) (lives : ℕ → Option Life) (waits : ℕ → Bool) (now : CacheState) (now_lives : ℕ → Option Life) (now_waits : ℕ → Bool) (s : ClientState) : Type 0 where
  pub keep : now.keep ≡ m.keep
  pub timing : now.timing ≡ m.timing
  pub cache : now.cache ≡ m.cache
  pub at : now.at c ≡ Some s.serving.conn
  pub others : (d : ℕ) → (d == c) ≡ false → now.at d ≡ m.at d
  pub own : now_lives c ≡ Some (record l { serving = s.serving })
  pub lives_are : (d : ℕ) → (d == c) ≡ false → now_lives d ≡ lives d
  pub owed : now_waits c ≡ s.owed
  pub waits_are : (d : ℕ) → (d == c) ≡ false → now_waits d ≡ waits d

module _ (c : ℕ) (m : CacheState) (l : Life) (lives : ℕ → Option Life) (waits : ℕ → Bool) where
  -- one call more
  step : (now : CacheState) (now_lives : ℕ → Option Life) (now_waits later_waits : ℕ → Bool) (s : ClientState) (unread unwritten : List ℕ) (owed : Bool) (traffic : Traffic) (f : Conn → Conn) (call : ConnCall) → f s.serving.conn ≡ (serve m.keep m.timing call s.serving).conn
      → later_waits c ≡ owed → ((d : ℕ) → (d == c) ≡ false → later_waits d ≡ now_waits d) → Follows c m l lives waits now now_lives now_waits s
      → Follows c m l lives waits (with_conn c (option_map f (now.at c)) now) (λ d. if d == c then option_map (serves now.keep now.timing call) (now_lives d) else now_lives d) later_waits
      (record { serving = serve m.keep m.timing call s.serving; unread = unread; unwritten = unwritten; owed = owed; traffic = traffic })
  step now now_lives now_waits later_waits s unread unwritten owed traffic f call acts own_waits other_waits h = record {
    keep = h.keep;
    timing = h.timing;
    cache = h.cache;
    at = with_conn_at c (option_map f (now.at c)) now ∙ ap (option_map f) h.at ∙ ap Some acts;
    others = λ d other. ap (λ b. if b then option_map f (now.at c) else now.at d) other ∙ h.others d other;
    own = ap (λ b. if b then option_map (serves now.keep now.timing call) (now_lives c) else now_lives c) (eq_self c)
        ∙ ap (option_map (serves now.keep now.timing call)) h.own ∙ (λ i. Some (serves (h.keep i) (h.timing i) call (record l { serving = s.serving })));
    lives_are = λ d other. ap (λ b. if b then option_map (serves now.keep now.timing call) (now_lives d) else now_lives d) other ∙ h.lives_are d other;
    owed = own_waits;
    waits_are = λ d other. other_waits d other ∙ h.waits_are d other;
  }

  -- a call of the stream
  same : (now : CacheState) (now_lives : ℕ → Option Life) (now_waits : ℕ → Bool) (s : ClientState) (unread unwritten : List ℕ) (traffic : Traffic) → Follows c m l lives waits now now_lives now_waits s
      → Follows c m l lives waits now now_lives now_waits (record { serving = s.serving; unread = unread; unwritten = unwritten; owed = s.owed; traffic = traffic })
  same now now_lives now_waits s unread unwritten traffic h = record {
    keep = h.keep;
    timing = h.timing;
    cache = h.cache;
    at = h.at;
    others = h.others;
    own = h.own;
    lives_are = h.lives_are;
    owed = h.owed;
    waits_are = h.waits_are;
  }

-- the steps of a client as calls on its connection
abbrev calls_of : ℕ → ℕ → Intervals → List ClientStep → ClientState → List CacheCall
calls_of c keep t [] s = []
calls_of c keep t (HandsIn wanting ∷ steps) s = Receive c wanting (steps_after keep t steps s).unread ∷ calls_of c keep t steps s
calls_of c keep t (Pulls most ∷ steps) s = Pull c most ∷ calls_of c keep t steps s
calls_of c keep t (Notifies ∷ steps) s = Notify c ∷ calls_of c keep t steps s
calls_of c keep t (Reads bytes ∷ steps) s = calls_of c keep t steps s
calls_of c keep t (Writes count ∷ steps) s = calls_of c keep t steps s

are_on : (c keep : ℕ) (t : Intervals) (steps : List ClientStep) (s : ClientState) → AllByRecursion (IsOn c) (calls_of c keep t steps s)
are_on c keep t [] s = tt
are_on c keep t (HandsIn wanting ∷ steps) s = (refl, are_on c keep t steps s)
are_on c keep t (Pulls most ∷ steps) s = (refl, are_on c keep t steps s)
are_on c keep t (Notifies ∷ steps) s = (refl, are_on c keep t steps s)
are_on c keep t (Reads bytes ∷ steps) s = are_on c keep t steps s
are_on c keep t (Writes count ∷ steps) s = are_on c keep t steps s

are_lawful : (c keep : ℕ) (t : Intervals) (steps : List ClientStep) (s : ClientState) (rest : List CacheCall) → MaySteps keep t steps s → AllByRecursion IsCacheCall rest → AllByRecursion IsCacheCall (calls_of c keep t steps s ++ rest)
are_lawful c keep t [] s rest may all = all
are_lawful c keep t (HandsIn wanting ∷ steps) s rest may all = (may.0.0, are_lawful c keep t steps s rest may.1 all)
are_lawful c keep t (Pulls most ∷ steps) s rest may all = (tt, are_lawful c keep t steps s rest may.1 all)
are_lawful c keep t (Notifies ∷ steps) s rest may all = (tt, are_lawful c keep t steps s rest may.1 all)
are_lawful c keep t (Reads bytes ∷ steps) s rest may all = are_lawful c keep t steps s rest may.1 all
are_lawful c keep t (Writes count ∷ steps) s rest may all = are_lawful c keep t steps s rest may.1 all

module _ (c : ℕ) (start : CacheState) (rest : List CacheCall) (l : Life) (s : ClientState) (serving_is : s.serving ≡ l.serving) (is : life rest start c ≡ Some l) (at_is : (ran rest start).at c ≡ Some s.serving.conn) (now : s.serving.cache ≡ (ran rest start).cache)
    (owed_is : awaits rest start c ≡ s.owed) where
  abbrev m : CacheState
  m = ran rest start

  abbrev calls_after : List ClientStep → List CacheCall
  calls_after steps = calls_of c m.keep m.timing steps s ++ rest

  pub follows : (steps : List ClientStep) → Follows c m l (life rest start) (awaits rest start) (ran (calls_after steps) start) (life (calls_after steps) start) (awaits (calls_after steps) start) (steps_after m.keep m.timing steps s)
  follows [] = record {
    keep = refl;
    timing = refl;
    cache = refl;
    at = at_is;
    others = λ d other. refl;
    own = is ∙ ap (λ (x : Serving). Some (record l { serving = x })) (sym serving_is);
    lives_are = λ d other. refl;
    owed = owed_is;
    waits_are = λ d other. refl;
  }
  follows (HandsIn wanting ∷ steps) =
      let h = follows steps in
      let a = steps_after m.keep m.timing steps s in
      let n = ran (calls_after steps) start in
      let after = client_after m.keep m.timing (HandsIn wanting) a in
      let cached : n.cache ≡ a.serving.cache = h.cache ∙ sym now ∙ sym (cache_is m.keep m.timing steps s) in
      step c m l (life rest start) (awaits rest start) n (life (calls_after steps) start) (awaits (calls_after steps) start) (awaits (calls_after steps) start) a after.unread after.unwritten after.owed after.traffic
      (λ o. (conn_takes n.keep n.timing n.cache wanting a.unread o).machine.conn) (Takes wanting a.unread) (λ i. (conn_takes (h.keep i) (h.timing i) (cached i) wanting a.unread a.serving.conn).machine.conn) h.owed (λ d other. refl) h
  follows (Pulls most ∷ steps) =
      let h = follows steps in
      let a = steps_after m.keep m.timing steps s in
      let n = ran (calls_after steps) start in
      let after = client_after m.keep m.timing (Pulls most) a in
      step c m l (life rest start) (awaits rest start) n (life (calls_after steps) start) (awaits (calls_after steps) start) (awaits (calls_after steps) start) a after.unread after.unwritten after.owed after.traffic
      (conn_pulled n.keep n.timing most) (Gives most) (λ i. conn_pulled (h.keep i) (h.timing i) most a.serving.conn) h.owed (λ d other. refl) h
  follows (Notifies ∷ steps) =
      let h = follows steps in
      let a = steps_after m.keep m.timing steps s in
      let n = ran (calls_after steps) start in
      let after = client_after m.keep m.timing Notifies a in
      let cached : n.cache ≡ a.serving.cache = h.cache ∙ sym now ∙ sym (cache_is m.keep m.timing steps s) in
      let waited : ℕ → Bool → Bool = λ d b. if b then awaits (calls_after steps) start d && not (can_notify_at n.cache (n.at c)) else awaits (calls_after steps) start d in
      step c m l (life rest start) (awaits rest start) n (life (calls_after steps) start) (awaits (calls_after steps) start) (awaits (Notify c ∷ calls_after steps) start) a after.unread after.unwritten after.owed after.traffic
      (conn_notified n.keep n.timing n.cache) Notified (λ i. conn_notified (h.keep i) (h.timing i) (cached i) a.serving.conn)
      (ap (waited c) (eq_self c) ∙ (λ i. h.owed i && not (can_notify_at (cached i) (h.at i)))) (λ d other. ap (waited d) other) h
  follows (Reads bytes ∷ steps) =
      let a = steps_after m.keep m.timing steps s in
      same c m l (life rest start) (awaits rest start) (ran (calls_after steps) start) (life (calls_after steps) start) (awaits (calls_after steps) start) a bytes a.unwritten (and_read (length bytes) a.traffic) (follows steps)
  follows (Writes count ∷ steps) =
      let a = steps_after m.keep m.timing steps s in
      let after = client_after m.keep m.timing (Writes count) a in
      same c m l (life rest start) (awaits rest start) (ran (calls_after steps) start) (life (calls_after steps) start) (awaits (calls_after steps) start) a a.unread after.unwritten after.traffic (follows steps)

  -- The router is notified only if it awaits that, and so has asked.
  pub are_asked : (steps : List ClientStep) → MaySteps m.keep m.timing steps s → NoneBeforeQuery rest start → NoneBeforeQuery (calls_after steps) start
  are_asked [] may h = h
  are_asked (HandsIn wanting ∷ steps) may h = are_asked steps may.1 h
  are_asked (Pulls most ∷ steps) may h = are_asked steps may.1 h
  are_asked (Notifies ∷ steps) may h = (awaits_asked (calls_after steps) start c ((follows steps).owed ∙ may.0), are_asked steps may.1 h)
  are_asked (Reads bytes ∷ steps) may h = are_asked steps may.1 h
  are_asked (Writes count ∷ steps) may h = are_asked steps may.1 h

-- A cache that shows a state shows each that is the same.
pub shows_same : {S : Type 0} (holds : ℕ → Instance → S → Type 0) (a b : CacheState) (cache : Cache S) → b.keep ≡ a.keep → b.timing ≡ a.timing → b.cache ≡ a.cache → ((d : ℕ) → b.at d ≡ a.at d) → ShowsCache holds a cache → ShowsCache holds b cache
shows_same holds a b cache keep timing cached at shows = record {
  timing = shows.timing ∙ sym timing;
  session0 = shows.session0 ∙ ap (λ (i : Instance). i.session0) (sym cached);
  store = subst (λ k. holds k b.cache cache.store) (sym keep) (subst (λ i. holds a.keep i cache.store) (sym cached) shows.store);
  numbers = shows.numbers;
  slots = λ d. subst (λ t. ShowsSlot t b.cache (b.at d) (peer_at cache.peers.items d)) (sym timing)
      (subst (λ i. ShowsSlot a.timing i (b.at d) (peer_at cache.peers.items d)) (sym cached) (subst (λ x. ShowsSlot a.timing a.cache x (peer_at cache.peers.items d)) (sym (at d)) (shows.slots d)));
}

module _ {S T : Type 0} (holds : ℕ → Instance → S → Type 0) (remaining contents : T → Option (List ℕ)) (p : Past) (c : ℕ) (old new : Server S T) (shows : ShowsServer holds remaining contents p old) (others : KeepsOthers c old.slots.items new.slots.items)
    (most : new.most ≡ old.most) (counted : IsCounted old → IsCounted new) where
  abbrev state : CacheState
  state = present p

  -- what is shown of each client, if it is of this one
  each_so : (lives : ℕ → Option Life) (waits : ℕ → Bool) → ((d : ℕ) → (d == c) ≡ false → lives d ≡ life p.calls (made p) d) → ((d : ℕ) → (d == c) ≡ false → waits d ≡ awaits p.calls (made p) d)
      → ShowsClient remaining contents (p.begun c) c (lives c) (waits c) (slot_at new.slots.items c) → (d : ℕ) → ShowsClient remaining contents (p.begun d) d (lives d) (waits d) (slot_at new.slots.items d)
  each_so lives waits same same_waits here d = by_test (d == c) refl
    where
      by_test : (b : Bool) → (d == c) ≡ b → ShowsClient remaining contents (p.begun d) d (lives d) (waits d) (slot_at new.slots.items d)
      by_test true is = subst (λ n. ShowsClient remaining contents (p.begun n) n (lives n) (waits n) (slot_at new.slots.items n)) (sym (eq_of d c is)) here
      by_test false is =
          subst (λ w. ShowsClient remaining contents (p.begun d) d (lives d) w (slot_at new.slots.items d)) (sym (same_waits d is))
          (subst (λ l. ShowsClient remaining contents (p.begun d) d l (awaits p.calls (made p) d) (slot_at new.slots.items d)) (sym (same d is))
          (subst (λ x. ShowsClient remaining contents (p.begun d) d (life p.calls (made p) d) (awaits p.calls (made p) d) x) (sym (others d (not_eq_of d c is))) (shows.each d)))

  none_past : slot_at old.slots.items c ≡ None → slot_at new.slots.items c ≡ None → new.cache ≡ old.cache → ShowsServer holds remaining contents p new
  none_past was now same = record {
    first = shows.first;
    lawful = shows.lawful;
    asked = shows.asked;
    shows = subst (ShowsCache holds state) (sym same) shows.shows;
    each = each_so (life p.calls (made p)) (awaits p.calls (made p)) (λ d is. refl) (λ d is. refl) (subst (λ x. ShowsClient remaining contents (p.begun c) c (life p.calls (made p) c) (awaits p.calls (made p) c) x) (was ∙ sym now) (shows.each c));
    most = most ∙ shows.most;
    count = counted shows.count;
  }

  -- A client is dropped.
  pub drops_past : slot_at new.slots.items c ≡ None → ((m : CacheState) → ShowsCache holds m old.cache → ShowsCache holds (with_conn c None m) new.cache) → ShowsServer holds remaining contents (record p { calls = Close c ∷ p.calls }) new
  drops_past none closed = record {
    first = shows.first;
    lawful = (tt, shows.lawful);
    asked = shows.asked;
    shows = closed state shows.shows;
    each = each_so (life (Close c ∷ p.calls) (made p)) (awaits (Close c ∷ p.calls) (made p)) (λ d other. ap (λ b. if b then None else life p.calls (made p) d) other)
        (λ d other. ap (λ b. if b then false else awaits p.calls (made p) d) other)
        (subst (λ k. ShowsClient remaining contents (p.begun c) c k (awaits (Close c ∷ p.calls) (made p) c) (slot_at new.slots.items c)) (sym (ap (λ b. if b then None else life p.calls (made p) c) (eq_self c)))
        (subst (λ y. ShowsClient remaining contents (p.begun c) c None (awaits (Close c ∷ p.calls) (made p) c) y) (sym none) tt));
    most = most ∙ shows.most;
    count = counted shows.count;
  }

  module _ (x : Slot T) (l : Life) (is : life p.calls (made p) c ≡ Some l) (number : x.conn.0 ≡ c) (flow : Flow (p.begun c).before (remaining x.stream) (p.begun c).had (contents x.stream) (client_of l.serving x)) (owed : x.is_owed ≡ awaits p.calls (made p) c) (room : HasRoom (client_of l.serving x)) where
    at_is : state.at c ≡ Some l.serving.conn
    at_is = (each_is_served p.keep p.timing p.first p.calls shows.first shows.lawful c).same ∙ ap (option_map (λ (k : Life). k.serving.conn)) is

    now_is : l.serving.cache ≡ state.cache
    now_is = subst (λ k. IfSome k (λ y. y.serving.cache ≡ state.cache)) is (each_is_served p.keep p.timing p.first p.calls shows.first shows.lawful c).now

    stands : StandsSo holds state x.conn.0 l.serving old.cache
    stands = record { shows = shows.shows; at = ap state.at number ∙ at_is; now = now_is }

    -- what a turn of it led to, whatever became of it then
    record Led (calls : List CacheCall) (y : Slot T) (cache : Cache S) : Type 0 where
      pub own : AllByRecursion (IsOn c) calls
      pub lawful : AllByRecursion IsCacheCall (calls ++ p.calls)
      pub asked : NoneBeforeQuery (calls ++ p.calls) (made p)
      pub shown : ShowsCache holds (ran (calls ++ p.calls) (made p)) cache
      pub now : Serving
      pub life_is : life (calls ++ p.calls) (made p) c ≡ Some (record l { serving = now })
      pub lives_are : (d : ℕ) → (d == c) ≡ false → life (calls ++ p.calls) (made p) d ≡ life p.calls (made p) d
      pub owed_is : y.is_owed ≡ awaits (calls ++ p.calls) (made p) c
      pub waits_are : (d : ℕ) → (d == c) ≡ false → awaits (calls ++ p.calls) (made p) d ≡ awaits p.calls (made p) d
      pub roomy : HasRoom (client_of now y)
      pub flowed : Flow (p.begun c).before (remaining y.stream) (p.begun c).had (contents y.stream) (client_of now y)

    led : (y : Slot T) (cache : Cache S) (So : ClientState → Type 0) → GoesFrom holds remaining contents Anyhow x old.cache y cache So → (calls : List CacheCall) × Led calls y cache
    led y cache So goes =
        let g = goes state l.serving (p.begun c).before (p.begun c).had stands tt flow in
        let h = subst (Follows c state l (life p.calls (made p)) (awaits p.calls (made p)) (ran (calls_of c state.keep state.timing g.steps (client_of l.serving x) ++ p.calls) (made p)) (life (calls_of c state.keep state.timing g.steps (client_of l.serving x) ++ p.calls) (made p)) (awaits (calls_of c state.keep state.timing g.steps (client_of l.serving x) ++ p.calls) (made p))) g.leads
        (follows c (made p) p.calls l (client_of l.serving x) refl is at_is now_is (sym owed) g.steps) in (
          calls_of c state.keep state.timing g.steps (client_of l.serving x),
          record {
            own = are_on c state.keep state.timing g.steps (client_of l.serving x);
            lawful = are_lawful c state.keep state.timing g.steps (client_of l.serving x) p.calls g.may shows.lawful;
            asked = are_asked c (made p) p.calls l (client_of l.serving x) refl is at_is now_is (sym owed) g.steps g.may shows.asked;
            shown = shows_same holds (with_conn c (Some g.now.conn) state) (ran (calls_of c state.keep state.timing g.steps (client_of l.serving x) ++ p.calls) (made p)) cache h.keep h.timing h.cache
                (at_all (Some g.now.conn) (ran (calls_of c state.keep state.timing g.steps (client_of l.serving x) ++ p.calls) (made p)) h.at h.others)
                (subst (λ n. ShowsCache holds (with_conn n (Some g.now.conn) state) cache) number g.shows);
            now = g.now;
            life_is = h.own;
            lives_are = h.lives_are;
            owed_is = sym h.owed;
            waits_are = h.waits_are;
            roomy = subst HasRoom g.leads (room_kept state.keep state.timing g.steps (client_of l.serving x) g.may room);
            flowed = g.flow;
          },
        )
      where
        at_all : (o : Option Conn) (n : CacheState) → n.at c ≡ o → ((d : ℕ) → (d == c) ≡ false → n.at d ≡ state.at d) → (d : ℕ) → n.at d ≡ (with_conn c o state).at d
        at_all o n here there d = by_test (d == c) refl
          where
            by_test : (b : Bool) → (d == c) ≡ b → n.at d ≡ (if b then o else state.at d)
            by_test true e = ap n.at (eq_of d c e) ∙ here
            by_test false e = there d e

    gone_past : (answers : T → Option (List Call)) (budget : ℕ) (turn : Turn) (parted : Option Parted) → Leaves holds remaining contents answers budget c x old.cache turn (slot_at new.slots.items c) new.cache parted
        → (own : List CacheCall) × AllByRecursion (IsOn c) own × ShowsServer holds remaining contents (and_calls (Close c ∷ own) p) new
    gone_past answers budget turn parted leaves =
        let g = led leaves.last leaves.between (EndsSo turn (remaining leaves.last.stream)) leaves.turned.goes in
        let calls = g.0 in (
          calls,
          g.1.own,
          record {
            first = shows.first;
            lawful = (tt, g.1.lawful);
            asked = g.1.asked;
            shows = leaves.closed (ran (calls ++ p.calls) (made p)) g.1.shown;
            each = each_so (life (Close c ∷ calls ++ p.calls) (made p)) (awaits (Close c ∷ calls ++ p.calls) (made p)) (λ d other. ap (λ b. if b then None else life (calls ++ p.calls) (made p) d) other ∙ g.1.lives_are d other)
                (λ d other. ap (λ b. if b then false else awaits (calls ++ p.calls) (made p) d) other ∙ g.1.waits_are d other)
                (subst (λ k. ShowsClient remaining contents (p.begun c) c k (awaits (Close c ∷ calls ++ p.calls) (made p) c) (slot_at new.slots.items c)) (sym (ap (λ b. if b then None else life (calls ++ p.calls) (made p) c) (eq_self c)))
                (subst (λ y. ShowsClient remaining contents (p.begun c) c None (awaits (Close c ∷ calls ++ p.calls) (made p) c) y) (sym leaves.gone) tt));
            most = most ∙ shows.most;
            count = counted shows.count;
          },
        )

    stays_past : (answers : T → Option (List Call)) (budget : ℕ) (turn : Turn) (y : Slot T) → slot_at new.slots.items c ≡ Some y → Turned holds remaining contents answers budget x old.cache turn y new.cache
        → (own : List CacheCall) × AllByRecursion (IsOn c) own × ShowsServer holds remaining contents (and_calls own p) new
    stays_past answers budget turn y there turned =
        let g = led y new.cache (EndsSo turn (remaining y.stream)) turned.goes in
        let calls = g.0 in (
          calls,
          g.1.own,
          record {
            first = shows.first;
            lawful = g.1.lawful;
            asked = g.1.asked;
            shows = g.1.shown;
            each = each_so (life (calls ++ p.calls) (made p)) (awaits (calls ++ p.calls) (made p)) g.1.lives_are g.1.waits_are
                (subst (λ k. ShowsClient remaining contents (p.begun c) c k (awaits (calls ++ p.calls) (made p) c) (slot_at new.slots.items c)) (sym g.1.life_is)
                (subst (λ k. ShowsClient remaining contents (p.begun c) c (Some (record l { serving = g.1.now })) (awaits (calls ++ p.calls) (made p) c) k) (sym there) (ap (λ (n : Number). n.0) turned.conn ∙ number, g.1.flowed, g.1.owed_is, g.1.roomy)));
            most = most ∙ shows.most;
            count = counted shows.count;
          },
        )

  -- One turn of a client
  pub goes_past : (answers : T → Option (List Call)) (budget : ℕ) (turn : Option Turn) (parted : Option Parted)
      → Serves holds remaining contents answers budget c (slot_at old.slots.items c) old.cache turn (slot_at new.slots.items c) new.cache parted
      → GoesOnAfter holds remaining contents p c turn new
  goes_past answers budget turn parted serves = by_slot (slot_at old.slots.items c) refl (slot_at new.slots.items c) refl turn serves
    where
      by_life : (x : Slot T) (l : Option Life) → life p.calls (made p) c ≡ l → ShowsClient remaining contents (p.begun c) c l (awaits p.calls (made p) c) (Some x) → (b : Option (Slot T)) → slot_at new.slots.items c ≡ b → (t : Turn)
          → Becomes holds remaining contents answers budget c x old.cache t b new.cache parted → GoesOnAfter holds remaining contents p c (Some t) new
      by_life x None is h b there t told = absurd h
      by_life x (Some l) is h b there (Gone how) told = gone_past x l is h.0 h.1 h.2 h.3 answers budget (Gone how) parted (subst (λ y. Leaves holds remaining contents answers budget c x old.cache (Gone how) y new.cache parted) (sym there) told)
      by_life x (Some l) is h None there WaitsToRead told = absurd told
      by_life x (Some l) is h None there WaitsToWrite told = absurd told
      by_life x (Some l) is h None there Busy told = absurd told
      by_life x (Some l) is h (Some y) there WaitsToRead told = stays_past x l is h.0 h.1 h.2 h.3 answers budget WaitsToRead y there told
      by_life x (Some l) is h (Some y) there WaitsToWrite told = stays_past x l is h.0 h.1 h.2 h.3 answers budget WaitsToWrite y there told
      by_life x (Some l) is h (Some y) there Busy told = stays_past x l is h.0 h.1 h.2 h.3 answers budget Busy y there told

      by_slot : (a : Option (Slot T)) → slot_at old.slots.items c ≡ a → (b : Option (Slot T)) → slot_at new.slots.items c ≡ b → (turn : Option Turn) → Serves holds remaining contents answers budget c a old.cache turn b new.cache parted
          → GoesOnAfter holds remaining contents p c turn new
      by_slot None was b there None h = none_past was (there ∙ h.0) h.1
      by_slot None was b there (Some t) h = absurd h
      by_slot (Some x) was b there None h = absurd h
      by_slot (Some x) was b there (Some t) h = by_life x (life p.calls (made p) c) refl (subst (λ y. ShowsClient remaining contents (p.begun c) c (life p.calls (made p) c) (awaits p.calls (made p) c) y) was (shows.each c)) b there t h

module _ {S T : Type 0} (holds : ℕ → Instance → S → Type 0) (remaining contents : T → Option (List ℕ)) (p : Past) (old new : Server S T) (shows : ShowsServer holds remaining contents p old) where
  -- All is as it was.
  pub same_past : KeepsAll old.slots.items new.slots.items → new.most ≡ old.most → IsCounted new → ShowsCache holds (present p) new.cache → ShowsServer holds remaining contents p new
  same_past same most count cache = record {
    first = shows.first;
    lawful = shows.lawful;
    asked = shows.asked;
    shows = cache;
    each = λ d. subst (λ x. ShowsClient remaining contents (p.begun d) d (life p.calls (made p) d) (awaits p.calls (made p) d) x) (sym (same d)) (shows.each d);
    most = most ∙ shows.most;
    count = count;
  }

  -- A set was published.
  pub publishes_past : (set : VrpSet) (serial : ℕ) → IsVrpSet set → new.most ≡ old.most → IsCounted new → is_current (present p).cache.sets set ≡ false
      → serial ≡ serial_at (present p).cache.start (length (present p).cache.sets)
      → ShowsCache holds (notified_below old.slots.items (length old.slots.items) (record (present p) { cache = published set (present p).cache })) new.cache
      → ((c : ℕ) → OwesSo (slot_at old.slots.items c) (can_be_sent (slot_at old.slots.items c) (notified_below old.slots.items c (record (present p) { cache = published set (present p).cache }))) (slot_at new.slots.items c))
      → PublishesNew holds remaining contents p set serial old new
  publishes_past set serial fits most count differs serial_is cache owed =
      let t = notices.told_all remaining contents p set old.slots.items differs shows.each new.slots.items owed in
      record {
        differs = differs;
        serial_is = serial_is;
        notices = t.notices;
        are = t.are;
        shows = record {
          first = shows.first;
          lawful = t.lawful (fits, shows.lawful);
          asked = t.only_asked shows.asked;
          shows = subst (λ m. ShowsCache holds m new.cache) (sym t.ran_is) cache;
          each = t.each_is;
          most = most ∙ shows.most;
          count = count;
        };
        owed = t.owes;
      }

  pub published_past : (set : VrpSet) (result : Result Published AllocError) → IsVrpSet set → new.most ≡ old.most → IsCounted new → PublishesSo holds (present p) set old.slots.items result new.slots.items new.cache
      → PublishesTo holds remaining contents p set result old new
  published_past set (Ok (New serial)) fits most count h = publishes_past set serial.0 fits most count h.0 h.1 h.2 h.3
  published_past set (Ok Unchanged) fits most count h = (h.0, same_past (λ d. ap (λ s. slot_at s d) h.2) most count h.1, h.2)
  published_past set (Err error) fits most count h = (same_past (λ d. ap (λ s. slot_at s d) h.1) most count h.0, h.1)

  -- if no connection is, no client is
  none_there : (c : ℕ) → (present p).at c ≡ None → slot_at old.slots.items c ≡ None
  none_there c free = by_slot (slot_at old.slots.items c) refl (life p.calls (made p) c) refl (shows.each c)
    where
      same : (present p).at c ≡ option_map (λ (k : Life). k.serving.conn) (life p.calls (made p) c)
      same = (each_is_served p.keep p.timing p.first p.calls shows.first shows.lawful c).same

      by_slot : (x : Option (Slot T)) → slot_at old.slots.items c ≡ x → (l : Option Life) → life p.calls (made p) c ≡ l → ShowsClient remaining contents (p.begun c) c l (awaits p.calls (made p) c) x → slot_at old.slots.items c ≡ None
      by_slot None e l is h = e
      by_slot (Some x) e None is h = absurd h
      by_slot (Some x) e (Some l) is h = absurd (let both = sym free ∙ same ∙ ap (option_map (λ (k : Life). k.serving.conn)) is in none_some l.serving.conn both)
        where
          none_some : (o : Conn) → None ≡ Some o → ⊥
          none_some o e = cc

  module _ (c : Number) (free : IsLeastFree (present p).at c.0) where
    -- A connection that was opened is closed again.
    pub refused_past : KeepsAll old.slots.items new.slots.items → new.most ≡ old.most → IsCounted new → ShowsCache holds (with_conn c.0 None (with_conn c.0 (Some (new_conn (present p).cache)) (present p))) new.cache → ShowsServer holds remaining contents p new
    refused_past same most count cache =
        same_past same most count (shows_same holds (with_conn c.0 None (present p)) (present p) new.cache refl refl refl (λ d. by_test d (d == c.0) refl) (set_twice holds (present p) c.0 None (Some (new_conn (present p).cache)) None new.cache refl cache))
      where
        by_test : (d : ℕ) (b : Bool) → (d == c.0) ≡ b → (present p).at d ≡ (if b then None else (present p).at d)
        by_test d true e = ap (present p).at (eq_of d c.0 e) ∙ free.free
        by_test d false e = refl

    -- A client came.
    pub admits_past : (stream : T) → clients_in old.slots.items < p.most → KeepsOthers c.0 old.slots.items new.slots.items → new.most ≡ old.most → new.count ≡ old.count + 1
        → (slot_at old.slots.items c.0 ≡ None → clients_in new.slots.items ≡ clients_in old.slots.items + 1)
        → slot_at new.slots.items c.0 ≡ Some (record { stream = stream; conn = c; unread = []; unwritten = []; is_owed = false; traffic = no_traffic })
        → ShowsCache holds (with_conn c.0 (Some (new_conn (present p).cache)) (present p)) new.cache
        → Admits holds remaining contents p stream c.0 old new
    admits_past stream room others most count more placed cache = record {
      room = room;
      least = free;
      shows = record {
        first = shows.first;
        lawful = (tt, shows.lawful);
        asked = shows.asked;
        shows = cache;
        each = λ d. by_test d (d == c.0) refl;
        most = most ∙ shows.most;
        count = (let k = more (none_there c.0 free.free) in omega (arith, k, count, shows.count));
      };
      others = others;
    }
      where
        by_test : (d : ℕ) (b : Bool) → (d == c.0) ≡ b → ShowsClient remaining contents (if b then record { before = remaining stream; had = contents stream } else p.begun d) d
            (if b then Some (record { opened = (present p).cache; serving = serving (present p).keep (present p).timing (present p).cache [] }) else life p.calls (made p) d) (if b then false else awaits p.calls (made p) d) (slot_at new.slots.items d)
        by_test d true e =
            subst (λ x. ShowsClient remaining contents (record { before = remaining stream; had = contents stream }) d
            (Some (record { opened = (present p).cache; serving = serving (present p).keep (present p).timing (present p).cache [] })) false x) (sym (ap (slot_at new.slots.items) (eq_of d c.0 e) ∙ placed))
            (sym (eq_of d c.0 e), record { read = Consumes-nil (remaining stream); written = []; given = refl; out = Appends-nil (contents stream); all_read = refl; all_written = refl; all_received = refl; all_sent = refl; all_asked = refl }, refl, record { unread = omega arith; unwritten = omega arith })
        by_test d false e = subst (λ x. ShowsClient remaining contents (p.begun d) d (life p.calls (made p) d) (awaits p.calls (made p) d) x) (sym (others d (not_eq_of d c.0 e))) (shows.each d)

-- Each client is served.
pub each_client_is_served : {S T : Type 0} (holds : ℕ → Instance → S → Type 0) (remaining contents : T → Option (List ℕ)) (server : Server S T) → EachClientIsServed holds remaining contents server
each_client_is_served {T = T} holds remaining contents server p c slot shows at =
    by_life (life p.calls (made p) c) refl (each_is_served p.keep p.timing p.first p.calls shows.first shows.lawful c).served
    (subst (λ x. ShowsClient remaining contents (p.begun c) c (life p.calls (made p) c) (awaits p.calls (made p) c) x) at (shows.each c))
  where
    by_life : (l : Option Life) → life p.calls (made p) c ≡ l → IfSome l (λ x. IsServed (present p).keep (present p).timing x.opened x.serving) → ShowsClient remaining contents (p.begun c) c l (awaits p.calls (made p) c) (Some slot)
        → ClientIsServed remaining contents p c slot
    by_life None is served h = absurd h
    by_life (Some l) is served h = record { own = l; own_is = is; served = served; flow = h.1; owed = h.2; room = h.3 }
