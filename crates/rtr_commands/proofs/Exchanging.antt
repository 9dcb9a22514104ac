-- A connection of a cache, call by call.
use Rattle.std.specs.Prelude.{◌≡◌, ℕ, ◌-◌, ◌<◌, ◌≤◌, ◌==◌, Bool, true, false, not, ◌&&◌, ◌||◌, List, [], ◌∷◌, ◌++◌, length, take, drop, min, Option, Some, None, option_map, if◌then◌else◌, refl}
use Rattle.std.proofs.Common.{sym, ap, ◌∙◌, subst, arith, append_assoc, suc}
use Rattle.std.proofs.lemmas.Bool.Decides.{nat_tests}
use Rattle.std.specs.List.{AllByRecursion}
use Rattle.std.proofs.Math.Nat.{min-le_left, min-le_right}
use Rattle.std.proofs.Math.Seq.{take-append_seam}
use Rattle.std.proofs.lemmas.List.{length-append, length-drop, length-take-le, take-append-drop, take_min}
use Rattle.vrps.specs.Instance.{Instance}
use Rattle.vrps.specs.Steps.{HoldsSteps, Steps}
use Rattle.rtr_pdu.specs.declared.version.Version.{Version}
use Rattle.rtr_pdu.specs.Judging.{Judgement, Begins, Whole, Faulty, judge}
use Rattle.rtr_pdu.specs.Payloads.{AreBytes}
use Rattle.rtr_ends.specs.Cache.{Conn, Gives, Taking, Takes, conn_byte, conn_pulled, conn_stops, conn_takes, finds_memory, is_none, conn_moment_of, and_moment, version_at}
use Rattle.rtr_ends.specs.CacheState.{CacheState, GivesBytes, ShowsCache, ShowsSlot, TakesPiece, conn_consumed, due_at, given, has_bytes_at, is_open_at, peer_at, taken, with_conn}
use Rattle.rtr_ends.specs.Connection.{ConnMoment, Read, Wanting, takes_memory}
use Rattle.rtr_ends.specs.Feeding.{FedPiece, feed}
use Rattle.rtr_ends.specs.Sender.{due_of}
use Rattle.rtr_ends.specs.Timing.{Intervals, default_intervals}
use Rattle.rtr_ends.specs.declared.cache.Cache.{Cache}
use Rattle.rtr_ends.specs.declared.peer.Peer.{Peer}
use Rattle.rtr_ends.proofs.FeedingLaws.{feed_keeps, feed_takes, goes_on}
use Rattle.rtr_commands.proofs.SplitLines.{tests_empty, tests_some}
use Rattle.rtr_commands.specs.Serves.{HasExchanged, HasServed, IsOwn, ServesOn, by_calls}
use Rattle.prefixes.proofs.Basics.{eq_self, all_both}
use Rattle.rtr_ends.proofs.CacheStateLaws.{with_conn_at}
use Rattle.rtr_ends.proofs.AnswerUnits.{behind}

-- the bytes that a connection has due
abbrev pub due_in : Option Peer → List ℕ
due_in None = []
due_in (Some p) = due_of p.sender

due_shown : (t : Intervals) (i : Instance) (o : Option Conn) (p : Option Peer) → ShowsSlot t i o p → due_in p ≡ due_at o
due_shown t i None None h = refl
due_shown t i (Some o) (Some p) h = h.due
due_shown t i None (Some p) h = absurd h
due_shown t i (Some o) None h = absurd h

-- Bytes are pulled.
pulled_part : (most count : ℕ) (due out now : List ℕ) → count ≡ min most (length due) → now ≡ take count due ++ drop count out → take count now ≡ take most due
pulled_part most count due out now is e =
    let low : min most (length due) ≤ length due = min-le_right most (length due) in
    let size : length (take count due) ≡ count = length-take-le count due (omega (arith, is, low)) in
    ap (take count) e ∙ ap (λ n. take n (take count due ++ drop count out)) (sym size) ∙ take-append_seam (take count due) (drop count out) ∙ ap (λ n. take n due) is ∙ take_min most due

module _ (i : Instance) (c : ℕ) where
  pub serves_pull : (came old : List ℕ) (cache new : Cache Steps) (out : List ℕ) (count : ℕ) (now : List ℕ) → (s : ServesOn i c came old cache) → GivesBytes HoldsSteps s.state c out count now new → ServesOn i c came (old ++ take count now) new
  serves_pull came old cache new out count now s g =
      let conn : Conn = (by_calls i s.calls).conn in
      let due : due_at (s.state.at c) ≡ conn.state.due = ap due_at s.at in
      let part : take count now ≡ take (length out) conn.state.due =
      pulled_part (length out) count (due_at (s.state.at c)) out now g.gives.count_is g.gives.now_is ∙ ap (take (length out)) due in
      record {
        is = s.is;
        state = given (length out) c s.state;
        shows = g.shows;
        keep_is = s.keep_is;
        timing_is = s.timing_is;
        cache_is = s.cache_is;
        calls = Gives (length out) ∷ s.calls;
        each = (tt, s.each);
        at = with_conn_at c (option_map (conn_pulled s.state.keep s.state.timing (length out)) (s.state.at c)) s.state
            ∙ ap (λ k. option_map (conn_pulled k s.state.timing (length out)) (s.state.at c)) s.keep_is
            ∙ ap (λ t. option_map (conn_pulled 1 t (length out)) (s.state.at c)) s.timing_is
            ∙ ap (option_map (conn_pulled 1 default_intervals (length out))) s.at;
        cache_now = s.cache_now;
        own = all_both (IsOwn i) (by_calls i s.calls).moments _ s.own (tt, tt);
        came_is = s.came_is;
        given_is = ap (λ x. x ++ take (length out) conn.state.due) s.given_is ∙ ap (λ x. old ++ x) (sym part);
      }

  -- the moments that a piece brings
  own_moment : (memory : Bool) (version : Version) (bytes : List ℕ) (j : Judgement) (ms : List ConnMoment) → AllByRecursion (IsOwn i) ms → AllByRecursion (IsOwn i) (and_moment ms (conn_moment_of i memory version bytes j))
  own_moment memory version bytes Begins ms h = h
  own_moment memory version bytes (Whole u) ms h = by_test (takes_memory version i u && not memory)
    where
      by_test : (b : Bool) → AllByRecursion (IsOwn i) (ms ++ (if b then Wanting version i u bytes else Read version i u bytes) ∷ [])
      by_test true = all_both (IsOwn i) ms _ h (refl, tt)
      by_test false = all_both (IsOwn i) ms _ h (refl, tt)
  own_moment memory version bytes (Faulty fault) ms h = all_both (IsOwn i) ms _ h (tt, tt)

  own_byte : (m : Taking) (b : ℕ) → AllByRecursion (IsOwn i) m.moments → AllByRecursion (IsOwn i) (conn_byte 1 default_intervals i m b).moments
  unfolding conn_byte
  own_byte m b h = own_moment (finds_memory m.wanting) (version_at m.conn (b ∷ [])) (m.conn.held ++ b ∷ []) (judge (version_at m.conn (b ∷ [])) false (m.conn.held ++ b ∷ [])) m.moments h

  own_taken : (wanting : Option ℕ) (piece : List ℕ) (o : Conn) → AllByRecursion (IsOwn i) (conn_takes 1 default_intervals i wanting piece o).machine.moments
  unfolding conn_takes
  own_taken wanting piece o =
      feed_keeps (λ (m : Taking). conn_stops m.conn) (conn_byte 1 default_intervals i) (λ rest m. AllByRecursion (IsOwn i) m.moments) (λ b rest m goes h. own_byte m b h) (record { conn = o; moments = []; wanting = wanting }) piece tt

  taken_count : (came old : List ℕ) (cache new : Cache Steps) (piece : List ℕ) (count : ℕ) → (s : ServesOn i c came old cache) → (p : TakesPiece HoldsSteps s.state c piece count new)
      → count ≡ length piece - length (conn_takes 1 default_intervals (by_calls i s.calls).cache p.wanting piece (by_calls i s.calls).conn).rest
  taken_count came old cache new piece count s p =
      p.result_is ∙ ap (conn_consumed p.wanting piece s.state) s.at
      ∙ ap (λ k. length piece - length (conn_takes k s.state.timing s.state.cache p.wanting piece (by_calls i s.calls).conn).rest) s.keep_is
      ∙ ap (λ t. length piece - length (conn_takes 1 t s.state.cache p.wanting piece (by_calls i s.calls).conn).rest) s.timing_is
      ∙ ap (λ j. length piece - length (conn_takes 1 default_intervals j p.wanting piece (by_calls i s.calls).conn).rest) (s.cache_is ∙ sym s.cache_now)

  -- A piece is received.
  pub serves_take : (came old : List ℕ) (cache new : Cache Steps) (piece : List ℕ) (count : ℕ) → (s : ServesOn i c came old cache) → AreBytes piece → TakesPiece HoldsSteps s.state c piece count new → ServesOn i c (came ++ take count piece) old new
  serves_take came old cache new piece count s each p =
      let conn : Conn = (by_calls i s.calls).conn in
      let same : conn_takes 1 default_intervals (by_calls i s.calls).cache p.wanting piece conn ≡ conn_takes 1 default_intervals i p.wanting piece conn = ap (λ j. conn_takes 1 default_intervals j p.wanting piece conn) s.cache_now in
      record {
        is = s.is;
        state = taken p.wanting piece c s.state;
        shows = p.shows;
        keep_is = s.keep_is;
        timing_is = s.timing_is;
        cache_is = s.cache_is;
        calls = Takes p.wanting piece ∷ s.calls;
        each = (each, s.each);
        at = with_conn_at c (option_map (λ o. (conn_takes s.state.keep s.state.timing s.state.cache p.wanting piece o).machine.conn) (s.state.at c)) s.state
            ∙ ap (λ k. option_map (λ o. (conn_takes k s.state.timing s.state.cache p.wanting piece o).machine.conn) (s.state.at c)) s.keep_is
            ∙ ap (λ t. option_map (λ o. (conn_takes 1 t s.state.cache p.wanting piece o).machine.conn) (s.state.at c)) s.timing_is
            ∙ ap (λ j. option_map (λ o. (conn_takes 1 default_intervals j p.wanting piece o).machine.conn) (s.state.at c)) (s.cache_is ∙ sym s.cache_now)
            ∙ ap (option_map (λ o. (conn_takes 1 default_intervals (by_calls i s.calls).cache p.wanting piece o).machine.conn)) s.at;
        cache_now = s.cache_now;
        own = all_both (IsOwn i) (by_calls i s.calls).moments _ s.own (subst (λ (f : FedPiece Taking). AllByRecursion (IsOwn i) f.machine.moments) (sym same) (own_taken p.wanting piece conn));
        came_is = ap (λ x. x ++ take (length piece - length (conn_takes 1 default_intervals (by_calls i s.calls).cache p.wanting piece conn).rest) piece) s.came_is ∙ ap (λ n. came ++ take n piece) (sym (taken_count came old cache new piece count s p));
        given_is = s.given_is;
      }

  -- Something is consumed if the connection does not stop.
  some_taken : (wanting : Option ℕ) (b : ℕ) (piece : List ℕ) (o : Conn) → conn_stops o ≡ false → length (conn_takes 1 default_intervals i wanting (b ∷ piece) o).rest < length (b ∷ piece)
  unfolding conn_takes
  some_taken wanting b piece o h =
      let m : Taking = record { conn = o; moments = []; wanting = wanting } in
      let (bytes, t) = feed_takes (λ (n : Taking). conn_stops n.conn) (conn_byte 1 default_intervals i) (conn_byte 1 default_intervals i m b) piece in
      let e = ap (λ (f : FedPiece Taking). length f.rest) (goes_on (λ (n : Taking). conn_stops n.conn) (conn_byte 1 default_intervals i) m b piece h) in
      omega (arith, e, ap length t.piece_is, length-append bytes (feed (λ (n : Taking). conn_stops n.conn) (conn_byte 1 default_intervals i) (conn_byte 1 default_intervals i m b) piece).rest)

  pub takes_fits : (came old : List ℕ) (cache new : Cache Steps) (piece : List ℕ) (count : ℕ) → (s : ServesOn i c came old cache) → TakesPiece HoldsSteps s.state c piece count new → count ≤ length piece
  takes_fits came old cache new piece count s p = omega (arith, taken_count came old cache new piece count s p)

  goes : (o : Conn) → is_open_at (Some o) ≡ true → o.state.due ≡ [] → conn_stops o ≡ false
  goes o is none = by_test o.state.ended is
    where
      by_test : (b : Bool) → not b ≡ true → (b || not (is_none o.state.due)) ≡ false
      by_test true h = absurd (let e : false ≡ true = h in cc)
      by_test false h = ap (λ d. not (is_none d)) none

  pub takes_less : (came old : List ℕ) (cache new : Cache Steps) (piece : List ℕ) (count : ℕ) (going : Bool) → (h : HasServed i c came old cache) → TakesPiece HoldsSteps h.serves.state c piece count new
      → going ≡ is_open_at (h.serves.state.at c) → going ≡ true → 0 < length piece → 0 < count
  takes_less came old cache new [] count going h p is true_is some = absurd (omega (arith, some))
  takes_less came old cache new (b ∷ piece) count going h p is true_is some =
      let s = h.serves in
      let stops = goes (by_calls i s.calls).conn (ap is_open_at (sym s.at) ∙ sym is ∙ true_is) (ap due_at (sym s.at) ∙ h.none) in
      let less = some_taken p.wanting b piece (by_calls i s.calls).conn stops in
      let same = ap (λ j. length (conn_takes 1 default_intervals j p.wanting (b ∷ piece) (by_calls i s.calls).conn).rest) s.cache_now in
      omega (arith, taken_count came old cache new (b ∷ piece) count s p, less, same)

some_due : (o : Option Conn) → has_bytes_at o ≡ true → 0 < length (due_at o)
some_due None h = absurd (let e : false ≡ true = h in cc)
some_due (Some o) h = by_due o.state.due h
  where
    by_due : (due : List ℕ) → not (is_none due) ≡ true → 0 < length due
    by_due [] h = absurd (let e : false ≡ true = h in cc)
    by_due (b ∷ due) h = omega arith

none_due : (o : Option Conn) → has_bytes_at o ≡ false → due_at o ≡ []
none_due None h = refl
none_due (Some o) h = by_due o.state.due h
  where
    by_due : (due : List ℕ) → not (is_none due) ≡ false → due ≡ []
    by_due [] h = refl
    by_due (b ∷ due) h = absurd (let e : true ≡ false = h in cc)

-- What is pulled fits the buffer.
pub pulled_fits : (m : CacheState) (c : ℕ) (out : List ℕ) (count : ℕ) (now : List ℕ) (new : Cache Steps) → GivesBytes HoldsSteps m c out count now new → count ≤ length now
pulled_fits m c out count now new g =
    let low = min-le_right (length out) (length (due_at (m.at c))) in
    let size = length-take-le count (due_at (m.at c)) (omega (arith, g.gives.count_is, low)) in
    omega (arith, ap length g.gives.now_is, length-append (take count (due_at (m.at c))) (drop count out), size)

pub pulled_size : (m : CacheState) (c : ℕ) (out : List ℕ) (count : ℕ) (now : List ℕ) (new : Cache Steps) → GivesBytes HoldsSteps m c out count now new → length now ≡ length out
pulled_size m c out count now new g =
    let low = min-le_right (length out) (length (due_at (m.at c))) in
    let fits = min-le_left (length out) (length (due_at (m.at c))) in
    let size = length-take-le count (due_at (m.at c)) (omega (arith, g.gives.count_is, low)) in
    let left = length-drop count out in
    omega (arith, g.gives.count_is, fits, left, ap length g.gives.now_is, length-append (take count (due_at (m.at c))) (drop count out), size)

pub pulls_less : (i : Instance) (c : ℕ) (came old : List ℕ) (cache new : Cache Steps) (out : List ℕ) (count : ℕ) (now : List ℕ) (some : Bool) (s : ServesOn i c came old cache) → GivesBytes HoldsSteps s.state c out count now new → 0 < length out
    → some ≡ has_bytes_at (s.state.at c) → some ≡ true → length (due_in (peer_at new.peers.items c)) < length (due_in (peer_at cache.peers.items c))
pulls_less i c came old cache new out count now some s g room is some_is =
    let before = ap length (due_shown s.state.timing s.state.cache (s.state.at c) (peer_at cache.peers.items c) (s.shows.slots c)) in
    let after = ap length (due_shown s.state.timing s.state.cache ((given (length out) c s.state).at c) (peer_at new.peers.items c) (g.shows.slots c)) in
    let due = some_due (s.state.at c) (sym is ∙ some_is) in
    let count_is = g.gives.count_is in
    let left = ap length g.gives.rest_is ∙ length-drop count (due_at (s.state.at c)) in omega (arith, before, after, due, count_is, left, room)

pub pulled_all : (i : Instance) (c : ℕ) (came old : List ℕ) (cache : Cache Steps) (some : Bool) → (s : ServesOn i c came old cache) → some ≡ has_bytes_at (s.state.at c) → some ≡ false → HasServed i c came old cache
pulled_all i c came old cache some s is none = record { serves = s; none = none_due (s.state.at c) (sym is ∙ none) }

-- A beginning of these bytes came, and nothing is due.
pub record Exchanging (i : Instance) (c : ℕ) (bytes rest given : List ℕ) (cache : Cache Steps) : Type 0 where
  pub came : List ℕ
  pub whole : bytes ≡ came ++ rest
  pub served : HasServed i c came given cache

pub exchanging_none : (i : Instance) (c : ℕ) (bytes given : List ℕ) (cache : Cache Steps) → HasServed i c [] given cache → Exchanging i c bytes bytes given cache
exchanging_none i c bytes given cache h = record { came = []; whole = refl; served = h }

module _ (i : Instance) (c : ℕ) (bytes rest given : List ℕ) (cache : Cache Steps) (count : ℕ) (each : AreBytes bytes) (e : Exchanging i c bytes rest given cache) where
  -- what a call of `receive` answers
  abbrev pub Receives : Cache Steps → Type 0
  Receives new = (m : CacheState) → ShowsCache HoldsSteps m cache → TakesPiece HoldsSteps m c rest count new

  pub exchange_fits : (new : Cache Steps) → Receives new → count ≤ length rest
  exchange_fits new r = takes_fits i c e.came given cache new rest count e.served.serves (r e.served.serves.state e.served.serves.shows)

  pub exchange_takes : (new : Cache Steps) → Receives new → ServesOn i c (e.came ++ take count rest) given new
  exchange_takes new r =
      serves_take i c e.came given cache new rest count e.served.serves (behind e.came rest (subst AreBytes e.whole each)) (r e.served.serves.state e.served.serves.shows)

  pub exchange_less : (new : Cache Steps) (going empty : Bool) → Receives new → ((m : CacheState) → ShowsCache HoldsSteps m cache → going ≡ is_open_at (m.at c)) → going ≡ true → empty ≡ (length rest == 0) → empty ≡ false → length (drop count rest) < length rest
  exchange_less new going empty r opens is none some =
      let t = r e.served.serves.state e.served.serves.shows in
      let more = tests_some rest empty none some in
      let low = takes_less i c e.came given cache new rest count going e.served t (opens e.served.serves.state e.served.serves.shows) is more in
      omega (arith, more, low, length-drop count rest)

  pub exchange_more : (old now : Cache Steps) (later : List ℕ) → Receives old → (ServesOn i c (e.came ++ take count rest) given old → HasServed i c (e.came ++ take count rest) later now) → Exchanging i c bytes (drop count rest) later now
  exchange_more old now later r pulls = record {
    came = e.came ++ take count rest;
    whole = e.whole ∙ ap (λ x. e.came ++ x) (sym (take-append-drop count rest)) ∙ sym (append_assoc e.came (take count rest) (drop count rest));
    served = pulls (exchange_takes old r);
  }

not_true : (b c : Bool) → b ≡ c → c ≡ true → b ≡ false → ⊥
not_true b c e h k = let f : true ≡ false = sym h ∙ sym e ∙ k in cc

-- All came, or the connection has ended.
pub exchanged_all : (i : Instance) (c : ℕ) (bytes rest given : List ℕ) (cache : Cache Steps) (empty : Bool) → Exchanging i c bytes rest given cache → empty ≡ (length rest == 0) → empty ≡ true → HasExchanged i c bytes given cache
exchanged_all i c bytes rest given cache empty e is none =
    record { came = e.came; rest = rest; whole = e.whole; served = e.served; all = λ open_. tests_empty rest empty is none }

pub exchanged_ended : (i : Instance) (c : ℕ) (bytes rest given : List ℕ) (cache : Cache Steps) (going : Bool) → Exchanging i c bytes rest given cache → ((m : CacheState) → ShowsCache HoldsSteps m cache → going ≡ is_open_at (m.at c)) → going ≡ false → HasExchanged i c bytes given cache
exchanged_ended i c bytes rest given cache going e opens is = record {
  came = e.came;
  rest = rest;
  whole = e.whole;
  served = e.served;
  all = λ on. absurd (not_true going (is_open_at (e.served.serves.state.at c)) (opens e.served.serves.state e.served.serves.shows) on is);
}
