-- One Reset Query goes to a cache, and what becomes due in turns to a router.
use Rattle.std.specs.Prelude.{◌≡◌, ℕ, ◌-◌, ◌<◌, ◌≤◌, ◌==◌, nat_lt, Bool, true, false, min, List, [], ◌∷◌, ◌++◌, length, take, drop, Option, Some, option_map, if◌then◌else◌, refl}
use Rattle.std.proofs.Common.{sym, ap, ◌∙◌, subst, arith, zero, suc, inl, inr}
use Rattle.std.proofs.lemmas.Bool.{cases_lt, lt-ltb}
use Rattle.std.proofs.lemmas.List.{length-take, take-append-le, take_all}
use Rattle.std.specs.List.{AllByRecursion}
use Rattle.vrps.specs.Steps.{HoldsSteps, Steps}
use Rattle.vrps.specs.VrpSet.{VrpSet}
use Rattle.rtr_pdu.specs.Payloads.{AreBytes}
use Rattle.rtr_pdu.specs.declared.unit.Unit.TheVariants.{ResetQuery}
use Rattle.rtr_pdu.specs.declared.version.Version.TheVariants.{V1}
use Rattle.rtr_ends.specs.Answer.{sent}
use Rattle.rtr_ends.specs.Cache.{ConnCall, Conn, Gives, Notifies, Publishes, Takes, IsConnCall, conn_pulled, conn_takes}
use Rattle.rtr_ends.specs.CacheState.{CacheState, GivesBytes, ShowsCache, ShowsSlot, TakesPiece, conn_consumed, due_at, peer_at, with_conn}
use Rattle.rtr_ends.specs.FetchStream.{calls_since}
use Rattle.rtr_ends.specs.LinkRules.{Router, new_router}
use Rattle.rtr_ends.specs.Router.{Connects, Pulls, Receives, clocked, connects_at, played, receives}
use Rattle.rtr_ends.specs.RouterShown.{IsShown, Led, LeadsOn, ReceivesSo}
use Rattle.rtr_ends.specs.Sender.{PullsBytes}
use Rattle.rtr_ends.specs.ServeStream.{IsTurn, stood}
use Rattle.rtr_ends.specs.declared.cache.Cache.{Cache}
use Rattle.rtr_ends.specs.declared.router.Router as code
use Rattle.prefixes.proofs.Basics.{eq_self}
use Rattle.feed.specs.Loopback.{GaveAt, Took, Turned, publishing}

-- ---- the cache

turn_is_call : (call : ConnCall) → IsTurn call → IsConnCall call
turn_is_call (Publishes set) h = absurd h
turn_is_call (Takes wanting piece) h = h
turn_is_call (Gives most) h = tt
turn_is_call Notifies h = absurd h

pub turns_are_calls : (calls : List ConnCall) → AllByRecursion IsTurn calls → AllByRecursion IsConnCall calls
turns_are_calls [] h = tt
turns_are_calls (call ∷ calls) h = (turn_is_call call h.0, turns_are_calls calls h.1)

-- What is pulled is at the front of the room.
pulled_front : (due room : List ℕ) (count : ℕ) (now rest : List ℕ) → PullsBytes due room count now rest → take count now ≡ take (length room) due
pulled_front due room count now rest g =
    let l = length-take count due in
    let n = g.count_is in
    let here : take count now ≡ take count due = ap (take count) g.now_is ∙ take-append-le count (take count due) (drop count room) (omega (arith, l, n)) ∙ take_all count (take count due) (omega (arith, l, n)) in
    here ∙ cut n
  where
    cut : count ≡ min (length room) (length due) → take count due ≡ take (length room) due
    cut n = elim (cases_lt (length room) (length due)) [
      | inl more ↦ ap (λ k. take k due) (omega (arith, n, more))
      | inr all ↦ (take_all count due (omega (arith, n, all)) ∙ sym (take_all (length room) due all))
    ]

none_due : (due room : List ℕ) (count : ℕ) (now rest : List ℕ) → PullsBytes due room count now rest → count ≡ 0 → 0 < length room → due ≡ []
none_due [] room count now rest g none size = refl
none_due (b ∷ due) room count now rest g none size = absurd (let c = g.count_is in omega (arith, c, none, size))

drop_none : (n : ℕ) → drop {A = ℕ} n [] ≡ []
drop_none zero = refl
drop_none (suc n) = refl

module _ (set : VrpSet) (c : ℕ) where
  abbrev standing : List ConnCall → CacheState
  standing calls = with_conn c (Some (stood (publishing set) calls).conn) (publishing set)

  stood_at : (calls : List ConnCall) → (standing calls).at c ≡ Some (stood (publishing set) calls).conn
  stood_at calls = ap (λ b. if b then Some (stood (publishing set) calls).conn else (publishing set).at c) (eq_self c)

  -- Turns publish nothing.
  cache_is : (calls : List ConnCall) → AllByRecursion IsTurn calls → (stood (publishing set) calls).cache ≡ (publishing set).cache
  cache_is [] h = refl
  cache_is (Publishes s ∷ calls) h = absurd h.0
  cache_is (Takes wanting piece ∷ calls) h = cache_is calls h.1
  cache_is (Gives most ∷ calls) h = cache_is calls h.1
  cache_is (Notifies ∷ calls) h = absurd h.0

  -- what is set twice is what it was set to last
  set_twice : (x y z : Option Conn) (cache : Cache Steps) → x ≡ z → ShowsCache HoldsSteps (with_conn c x (with_conn c y (publishing set))) cache → ShowsCache HoldsSteps (with_conn c z (publishing set)) cache
  set_twice x y z cache e shows = record { timing = shows.timing; session0 = shows.session0; store = shows.store; slots = λ d. by_test d (d == c) (shows.slots d); numbers = shows.numbers }
    where
      by_test : (d : ℕ) (b : Bool) → ShowsSlot (publishing set).timing (publishing set).cache (if b then x else if b then y else (publishing set).at d) (peer_at cache.peers.items d)
          → ShowsSlot (publishing set).timing (publishing set).cache (if b then z else (publishing set).at d) (peer_at cache.peers.items d)
      by_test d true h = subst (λ a. ShowsSlot (publishing set).timing (publishing set).cache a (peer_at cache.peers.items d)) e h
      by_test d false h = h

  -- The whole question was consumed.
  pub asked : (piece : List ℕ) (count : ℕ) (new : Cache Steps) → AreBytes piece → piece ≡ sent V1 ResetQuery → TakesPiece HoldsSteps (standing []) c piece count new → length piece ≤ count → GaveAt set c [] new
  asked piece count new bytes is t all =
      let m : CacheState = publishing set in
      let counted : count ≡ length piece - length (conn_takes m.keep m.timing m.cache t.wanting piece (stood m []).conn).rest = t.result_is ∙ ap (conn_consumed t.wanting piece (standing [])) (stood_at []) in
      record {
        calls = Takes t.wanting piece ∷ [];
        turns = (bytes, tt);
        stands = set_twice (option_map (λ o. (conn_takes m.keep m.timing m.cache t.wanting piece o).machine.conn) ((standing []).at c)) (Some (stood m []).conn) _ new (ap (option_map (λ o. (conn_takes m.keep m.timing m.cache t.wanting piece o).machine.conn)) (stood_at [])) t.shows;
        query = ap (λ n. take n piece) (sym counted) ∙ take_all count piece all ∙ is;
        given = refl;
      }

  -- Bytes are pulled.
  gives_more : (wire : List ℕ) (cache : Cache Steps) (g : GaveAt set c wire cache) (room now : List ℕ) (count : ℕ) (new : Cache Steps) → GivesBytes HoldsSteps (standing g.calls) c room count now new → GaveAt set c (wire ++ take count now) new
  unfolding conn_pulled
  gives_more wire cache g room now count new b =
      let m : CacheState = publishing set in
      let front = pulled_front (due_at ((standing g.calls).at c)) room count now _ b.gives ∙ ap (λ a. take (length room) (due_at a)) (stood_at g.calls) in
      record {
        calls = Gives (length room) ∷ g.calls;
        turns = (tt, g.turns);
        stands = set_twice (option_map (conn_pulled m.keep m.timing (length room)) ((standing g.calls).at c)) (Some (stood m g.calls).conn) _ new (ap (option_map (conn_pulled m.keep m.timing (length room))) (stood_at g.calls)) b.shows;
        query = g.query;
        given = (λ i. g.given i ++ sym front i);
      }

  -- What was pulled came to the router.
  pub turned : (wire : List ℕ) (cache : Cache Steps) (g : GaveAt set c wire cache) (room now : List ℕ) (count : ℕ) (new : Cache Steps) (b : GivesBytes HoldsSteps (standing g.calls) c room count now new) (router : code.Router) (moved : Bool) → 0 < length room
      → (moved ≡ false → count ≡ 0) → Took (wire ++ take count now) router → Turned set c moved (wire ++ take count now) new router
  unfolding conn_pulled gives_more
  turned wire cache g room now count new b router moved size none took = record {
    gave = gives_more wire cache g room now count new b;
    took = took;
    all = λ is.
        let due = none_due (due_at ((standing g.calls).at c)) room count now _ b.gives (none is) size in
        let gone : (stood (publishing set) g.calls).conn.state.due ≡ [] = sym (ap due_at (stood_at g.calls)) ∙ due in
        (λ i. drop (min (length room) (length (stood (publishing set) g.calls).conn.state.due)) (gone i)) ∙ drop_none (min (length room) (length (stood (publishing set) g.calls).conn.state.due));
  }

-- ---- the router

-- What a new router asks first
first_question : (played (Connects 0 ∷ [])).router.out ≡ sent V1 ResetQuery
unfolding connects_at clocked
first_question = refl

-- A new router was connected, and its question pulled into room.
pub asks_first : (new connected pulled : code.Router) (room now : List ℕ) (count : ℕ) → IsShown new_router new → LeadsOn (Connects 0) new connected → LeadsOn (Pulls (length room)) connected pulled
    → ((r : Router) → IsShown r connected → (count ≡ min (length room) (length r.out)) × (now ≡ take (length room) r.out ++ drop (length r.out) room)) → 8 ≤ length room
    → Took [] pulled × (take count now ≡ sent V1 ResetQuery)
asks_first new connected pulled room now count shown connects pulls bytes size =
    let first : Led (Connects 0 ∷ []) connected = connects [] shown in
    let r : Router = (played (Connects 0 ∷ [])).router in
    let h = bytes r first.leads in
    let l = ap length first_question in
    let long : length r.out ≡ 8 = l in
    let n : count ≡ length r.out = omega (arith, h.0, long, size) in
    let room_takes : take (length room) r.out ≡ r.out = take_all (length room) r.out (omega (arith, long, size)) in (
      record { turns = Pulls (length room) ∷ []; each = (tt, tt); leads = (pulls (Connects 0 ∷ []) first.leads).leads; came_is = refl },
      (λ i. take (n i) (h.1 i)) ∙ ap (λ x. take (length r.out) (x ++ drop (length r.out) room)) room_takes
          ∙ take-append-le (length r.out) r.out (drop (length r.out) room) (omega arith) ∙ take_all (length r.out) r.out (omega arith) ∙ first_question,
    )

-- A whole piece was consumed.
pub takes_piece : (wire piece : List ℕ) (count : ℕ) (old new : code.Router) → Took wire old → AreBytes piece → ReceivesSo 0 piece count old new → length piece ≤ count → Took (wire ++ piece) new
takes_piece wire piece count old new t bytes r all =
    let got = r.1 (played (calls_since t.turns 0 [])).router t.leads in
    let whole : take (length piece - length (receives 0 r.0 piece (played (calls_since t.turns 0 [])).router).rest) piece ≡ piece = ap (λ n. take n piece) (sym got.count_is) ∙ take_all count piece all in
    record {
      turns = Receives 0 r.0 piece ∷ t.turns;
      each = ((refl, bytes), t.each);
      leads = got.shown;
      came_is = (λ i. t.came_is i ++ whole i);
    }

pub none_above : (n : ℕ) → nat_lt 0 n ≡ false → n ≡ 0
none_above n h = elim (cases_lt 0 n) [ inl some ↦ absurd (let e : true ≡ false = sym (lt-ltb 0 n some) ∙ h in cc) | inr none ↦ omega (arith, none) ]
