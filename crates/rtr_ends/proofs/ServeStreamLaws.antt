-- One connection of a cache over a reader and a writer, from call to call.
use Rattle.rtr_ends.proofs.Words.{common_steps, ◌≡◌, ◌⊎◌, ℕ, ◌+◌, ◌-◌, ◌*◌, ◌<◌, ◌≤◌, true, false, not, ◌||◌, min, List, [], ◌∷◌, ◌++◌, length, take, drop, Option, Some, None, Result, Ok, Err, option_map, refl, sym, ap, ◌∙◌, subst, arith, append_assoc, rules, drop-nil, take-add, take-append-add, append-nil, nil_from_length, length-append, take-append-drop, AllByRecursion, Appends, Consumes, IsAtEnd, Keeps, Appends-nil, Appends-trans, Consumes-kept, Consumes-trans, Instance, IsInstance, Counted, IsSpent, calls_of, GoesOutInPart, AreBytes, false_of_not, true_of_not, or-false}
use Rattle.rtr_pdu.specs.declared.device.WriteFailed.{WriteFailed as Failed}
use Rattle.rtr_ends.specs.Cache.{ConnCall, Conn, Gives as Pulled, IsConnCall, IsServed, Notifies, Publishes, Takes, Taking, conn_byte, conn_pulled, conn_stops, conn_takes, is_none}
use Rattle.rtr_ends.specs.CacheState.{CacheState, GivesBytes, ShowsCache, TakesPiece, conn_consumed, due_at, is_open_at, with_conn}
use Rattle.rtr_ends.specs.Sender.{PullsBytes}
use Rattle.rtr_ends.specs.ServeStream.{AllOut, Answered, EndedAs, EndsSo, IsTurn, Partly, ReadsWithin, ServesConnection, Waits, ended_within, is_within, stood}
use Rattle.rtr_ends.specs.Timing.{Intervals}
use Rattle.rtr_ends.specs.declared.cache.Cache.{Cache}
use Rattle.rtr_ends.specs.declared.serving.Served.{Served}
use Rattle.rtr_ends.specs.declared.serving.Served.TheVariants.{PeerClosed, Truncated, CacheEnded, Limit}
use Rattle.rtr_ends.specs.declared.streams.StreamFault.{StreamFault}
use Rattle.rtr_ends.specs.declared.streams.StreamFault.TheVariants.{ReadFailed, WriteFailed, Memory}
use Rattle.rtr_ends.proofs.CacheStateLaws.{conn_twice, same_conn, with_conn_at}
use Rattle.rtr_ends.proofs.ByteLists.{no_rest}
use Rattle.rtr_ends.proofs.FeedingLaws.{none_fed}
use Rattle.rtr_ends.proofs.ServingLaws.{serves_history}
use Rattle.rtr_ends.proofs.TableLaws.{false_true}

-- A call is counted, or it is not made.
pub not_less : {D A : Type 0} (old new : Counted D) → (¬ (IsSpent old) → calls_of new ≡ calls_of old + 1) → (IsSpent old → A × (new ≡ old)) → calls_of old ≤ calls_of new
not_less old new counted spent = search rules

-- If the input ends, something was read.
pub ends_in : (limit before now : ℕ) (served : Served) → (served ≡ Truncated) ⊎ (served ≡ PeerClosed) → before < now → now ≤ before + limit → ReadsWithin limit before now (Ok served)
ends_in limit before now served ends least most = search rules

-- What is pulled into a buffer is at its front.
pub pulled_is : (due out : List ℕ) (count : ℕ) (now rest : List ℕ) → PullsBytes due out count now rest → take count now ≡ take (length out) due
pulled_is due out count now rest g = grind (arith, common_steps)

pub drop_none : (n : ℕ) → drop {A = ℕ} n [] ≡ []
drop_none n = drop-nil n

-- A connection with nothing due that consumes nothing is as it was, and has ended if there was a piece.
pub none_taken : (keep : ℕ) (t : Intervals) (i : Instance) (wanting : Option ℕ) (piece : List ℕ) (o : Conn) → o.state.due ≡ [] → 0 ≡ length piece - length (conn_takes keep t i wanting piece o).rest
    → ((conn_takes keep t i wanting piece o).machine.conn ≡ o) × (0 < length piece → o.state.ended ≡ true)
unfolding conn_takes
none_taken keep t i wanting piece o due none =
    let n = none_fed (λ m. conn_stops m.conn) (conn_byte keep t i) (record { conn = o; moments = []; wanting = wanting }) piece none in
    let ended : o.state.ended ≡ conn_stops o = sym (ap (λ d. o.state.ended || not (is_none d)) due ∙ or-false o.state.ended) in
    (ap (λ (m : Taking). m.conn) n.0, λ some. ended ∙ n.1 some)

-- A turn is a call.
turn_is_call : (call : ConnCall) → IsTurn call → IsConnCall call
turn_is_call (Publishes set) h = absurd h
turn_is_call (Takes wanting piece) h = h
turn_is_call (Pulled most) h = tt
turn_is_call Notifies h = absurd h

turns_are_calls : (calls : List ConnCall) → AllByRecursion IsTurn calls → AllByRecursion IsConnCall calls
turns_are_calls [] h = tt
turns_are_calls (call ∷ calls) h = (turn_is_call call h.0, turns_are_calls calls h.1)

-- More goes out in part.
pub part_after : (had has written : Option (List ℕ)) (a b : List ℕ) → Appends had has a → GoesOutInPart has written b → GoesOutInPart had written (a ++ b)
part_after had has written a b out part =
    (length a + part.0, (let l = length-append a b in omega (arith, l, part.1)), subst (Appends had written) (sym (take-append-add a b part.0)) (Appends-trans had has written a (take part.0 b) out part.2))

module _ {S : Type 0} (holds : ℕ → Instance → S → Type 0) (m : CacheState) (c : ℕ) where
  abbrev standing : List ConnCall → CacheState
  standing calls = with_conn c (Some (stood m calls).conn) m

  stood_at : (calls : List ConnCall) → (standing calls).at c ≡ Some (stood m calls).conn
  stood_at calls = with_conn_at c (Some (stood m calls).conn) m

  -- Turns publish nothing.
  cache_is : (calls : List ConnCall) → AllByRecursion IsTurn calls → (stood m calls).cache ≡ m.cache
  cache_is [] h = refl
  cache_is (Publishes set ∷ calls) h = absurd h.0
  cache_is (Takes wanting piece ∷ calls) h = cache_is calls h.1
  cache_is (Pulled most ∷ calls) h = cache_is calls h.1
  cache_is (Notifies ∷ calls) h = absurd h.0

  -- what is set twice is what it was set to last
  set_twice : (x y z : Option Conn) (cache : Cache S) → x ≡ z → ShowsCache holds (with_conn c x (with_conn c y m)) cache → ShowsCache holds (with_conn c z m) cache
  set_twice x y z cache e shows = rw (conn_twice c x y m, e) at shows

  -- A connection that is closed, and had not been open, leaves all as it was.
  pub closes : (calls : List ConnCall) (cache : Cache S) → m.at c ≡ None → ShowsCache holds (with_conn c None (standing calls)) cache → ShowsCache holds m cache
  closes calls cache free shows = rw (conn_twice c None (Some (stood m calls).conn) m, same_conn c None m free) at shows

  module _ (calls : List ConnCall) (had has : Option (List ℕ)) (cache : Cache S) where
    -- Bytes are pulled, and go out.
    pub pulls_more : (piece : List ℕ) (p : Partly holds m c calls piece had has cache) (room now : List ℕ) (count : ℕ) (written : Option (List ℕ)) (new : Cache S) → GivesBytes holds (standing p.later) c room count now new
        → Appends has written (take count now) → Partly holds m c calls piece had written new
    unfolding conn_pulled
    pulls_more piece p room now count written new g out = record {
      later = Pulled (length room) ∷ p.later;
      turns = (tt, p.turns);
      stands = set_twice (option_map (conn_pulled m.keep m.timing (length room)) ((standing p.later).at c)) (Some (stood m p.later).conn) _ new (ap (option_map (conn_pulled m.keep m.timing (length room))) (stood_at p.later)) g.shows;
      came = p.came;
      sent = p.sent ++ take count now;
      given = ap (λ x. x ++ take (length room) (stood m p.later).conn.state.due) p.given
          ∙ append_assoc (stood m calls).given p.sent (take (length room) (stood m p.later).conn.state.due)
          ∙ ap (λ x. (stood m calls).given ++ (p.sent ++ x)) (sym (pulled_is (due_at ((standing p.later).at c)) room count now _ g.gives ∙ ap (λ a. take (length room) (due_at a)) (stood_at p.later)));
      out = Appends-trans had has written p.sent (take count now) p.out out;
    }

    -- Nothing is pulled if nothing is due.
    pub pulls_none : (piece : List ℕ) (p : Partly holds m c calls piece had has cache) (room now : List ℕ) (new : Cache S) → 0 < length room → GivesBytes holds (standing p.later) c room 0 now new
        → (q : Partly holds m c calls piece had has new) × ((stood m q.later).conn.state.due ≡ [])
    unfolding conn_pulled pulls_more
    pulls_none piece p room now new size g =
        let due = nil_from_length (due_at ((standing p.later).at c)) (let none = g.gives.count_is in omega (arith, none, size)) in
        let is : (stood m p.later).conn.state.due ≡ [] = sym (ap due_at (stood_at p.later)) ∙ due in
        (pulls_more piece p room now 0 has new g (Appends-nil has), (λ i. drop (min (length room) (length (stood m p.later).conn.state.due)) (is i)) ∙ drop_none (min (length room) (length (stood m p.later).conn.state.due)))

    -- Bytes are received.
    pub takes_more : (piece : List ℕ) (p : Partly holds m c calls piece had has cache) (more : List ℕ) (count : ℕ) (new : Cache S) → AreBytes more → (t : TakesPiece holds (standing p.later) c more count new)
        → Partly holds m c calls (piece ++ take count more) had has new
    takes_more piece p more count new bytes t =
        let is : count ≡ length more - length (conn_takes m.keep m.timing m.cache t.wanting more (stood m p.later).conn).rest = t.result_is ∙ ap (conn_consumed t.wanting more (standing p.later)) (stood_at p.later) in
        let same = sym (cache_is p.later p.turns) in
        record {
          later = Takes t.wanting more ∷ p.later;
          turns = (bytes, p.turns);
          stands = set_twice (option_map (λ o. (conn_takes m.keep m.timing m.cache t.wanting more o).machine.conn) ((standing p.later).at c)) (Some (stood m p.later).conn) _ new
              (ap (option_map (λ o. (conn_takes m.keep m.timing m.cache t.wanting more o).machine.conn)) (stood_at p.later)
              ∙ ap (λ i. Some (conn_takes m.keep m.timing i t.wanting more (stood m p.later).conn).machine.conn) same) t.shows;
          came = ap (λ i. (stood m p.later).came ++ take (length more - length (conn_takes m.keep m.timing i t.wanting more (stood m p.later).conn).rest) more) (sym same)
              ∙ (λ i. p.came i ++ take (sym is i) more) ∙ append_assoc (stood m calls).came piece (take count more);
          sent = p.sent;
          given = p.given;
          out = p.out;
        }

    -- None of them is consumed: the piece is at its end, or the connection has ended.
    pub takes_none : (piece : List ℕ) (p : Partly holds m c calls piece had has cache) (more : List ℕ) (new : Cache S) → (stood m p.later).conn.state.due ≡ [] → AreBytes more → TakesPiece holds (standing p.later) c more 0 new
        → Answered holds m c calls (piece ++ more) had has (Ok tt) new
    unfolding takes_more conn_takes
    takes_none piece p more new due bytes t =
        let is : 0 ≡ length more - length (conn_takes m.keep m.timing m.cache t.wanting more (stood m p.later).conn).rest = t.result_is ∙ ap (conn_consumed t.wanting more (standing p.later)) (stood_at p.later) in
        let same = none_taken m.keep m.timing m.cache t.wanting more (stood m p.later).conn due is in
        let q = takes_more piece p more 0 new bytes t in
        let conn_is : (stood m q.later).conn ≡ (stood m p.later).conn = ap (λ i. (conn_takes m.keep m.timing i t.wanting more (stood m p.later).conn).machine.conn) (cache_is p.later p.turns) ∙ same.0 in
        record {
          later = q.later;
          turns = q.turns;
          stands = q.stands;
          unread = more;
          came = ap (λ x. x ++ more) (q.came ∙ ap (λ x. (stood m calls).came ++ x) (append-nil piece)) ∙ append_assoc (stood m calls).came piece more;
          sent = q.sent;
          given = q.given;
          answers = (ap (λ o. o.state.due) conn_is ∙ due, (λ some. ap (λ o. o.state.ended) conn_is ∙ same.1 some), q.out);
        }

  -- The writer failed at bytes that were pulled.
  pub fails_at : (calls : List ConnCall) (had has written : Option (List ℕ)) (cache new : Cache S) (piece room now : List ℕ) (at count : ℕ) (e : Failed) (p : Partly holds m c calls (take at piece) had has cache) → GivesBytes holds (standing p.later) c room count now new
      → GoesOutInPart has written (take count now) → Answered holds m c calls piece had written (Err e) new
  unfolding pulls_more
  fails_at calls had has written cache new piece room now at count e p g part =
      let silent : Partly holds m c calls (take at piece) None None cache = record { later = p.later; turns = p.turns; stands = p.stands; came = p.came; sent = p.sent; given = p.given; out = tt } in
      let q = pulls_more calls None None cache (take at piece) silent room now count None new g tt in
      record {
        later = q.later;
        turns = q.turns;
        stands = q.stands;
        unread = drop at piece;
        came = ap (λ x. x ++ drop at piece) q.came ∙ append_assoc (stood m calls).came (take at piece) (drop at piece) ∙ ap (λ x. (stood m calls).came ++ x) (take-append-drop at piece);
        sent = q.sent;
        given = q.given;
        answers = part_after had has written p.sent (take count now) p.out part;
      }

  -- Nothing was due: what is left of a piece is received, and this much of it is consumed.
  pub answers_on : (calls : List ConnCall) (had has : Option (List ℕ)) (cache mid new : Cache S) (piece slice room now : List ℕ) (at count taken : ℕ) (p : Partly holds m c calls (take at piece) had has cache) → GivesBytes holds (standing p.later) c room count now mid
      → count ≡ 0 → 0 < length room → AreBytes (drop at piece) → slice ≡ drop at piece → ((x : CacheState) → ShowsCache holds x mid → TakesPiece holds x c slice taken new) → Partly holds m c calls (take (at + taken) piece) had has new
  answers_on calls had has cache mid new piece slice room now at count taken p g none size bytes is takes =
      let q = pulls_none calls had has cache (take at piece) p room now mid size (subst (λ n. GivesBytes holds (standing p.later) c room n now mid) none g) in
      subst (λ x. Partly holds m c calls x had has new) (sym (take-add at taken piece))
      (takes_more calls had has mid (take at piece) q.0 (drop at piece) taken new bytes (subst (λ x. TakesPiece holds (standing q.0.later) c x taken new) is (takes (standing q.0.later) q.0.stands)))

  -- None of it is consumed.
  pub answers_end : (calls : List ConnCall) (had has : Option (List ℕ)) (cache mid new : Cache S) (piece slice room now : List ℕ) (at count taken : ℕ) (p : Partly holds m c calls (take at piece) had has cache) → GivesBytes holds (standing p.later) c room count now mid
      → count ≡ 0 → 0 < length room → AreBytes (drop at piece) → slice ≡ drop at piece → ((x : CacheState) → ShowsCache holds x mid → TakesPiece holds x c slice taken new) → taken ≡ 0 → Answered holds m c calls piece had has (Ok tt) new
  answers_end calls had has cache mid new piece slice room now at count taken p g none size bytes is takes stop =
      let q = pulls_none calls had has cache (take at piece) p room now mid size (subst (λ n. GivesBytes holds (standing p.later) c room n now mid) none g) in
      let t = subst (λ x. TakesPiece holds (standing q.0.later) c x taken new) is (takes (standing q.0.later) q.0.stands) in
      subst (λ x. Answered holds m c calls x had has (Ok tt) new) (take-append-drop at piece)
      (takes_none calls had has mid (take at piece) q.0 (drop at piece) new q.1 bytes (subst (λ n. TakesPiece holds (standing q.0.later) c (drop at piece) n new) stop t))

  -- A connection waits between two reads.
  module _ (before left : Option (List ℕ)) (reads : ℕ) (had has : Option (List ℕ)) (cache : Cache S) (w : Waits holds m c before left reads had has cache) where
    history : (calls : List ConnCall) → AllByRecursion IsTurn calls → IsInstance m.cache → IsServed m.keep m.timing m.cache (stood m calls)
    history calls turns is = serves_history m.keep m.timing m.cache calls is (turns_are_calls calls turns)

    -- Nothing more was read.
    pub ends_there : (more : ℕ) (after : Option (List ℕ)) (result : Result Served StreamFault) → Consumes before after (stood m w.calls).came → EndsSo (stood m w.calls) [] after had has result → reads ≤ more
        → EndedAs holds m c before after more had has result cache
    ends_there more after result came ends most = (
      record {
        calls = w.calls;
        turns = w.turns;
        served = history w.calls w.turns;
        unread = [];
        consumed = subst (Consumes before after) (sym (append-nil (stood m w.calls).came)) came;
        few = (let l = ap length (append-nil (stood m w.calls).came) in omega (arith, l, w.few, most));
        ends = ends;
      },
      w.stands,
    )

    -- A piece was read and answered.
    module _ (piece : List ℕ) (after : Option (List ℕ)) (written : Option (List ℕ)) (new : Cache S) (size : length piece ≤ 4096) (read : Consumes left after piece) (more : ℕ) (grows : reads + 1 ≤ more) where
      came_all : (later : List ConnCall) (unread : List ℕ) → (stood m later).came ++ unread ≡ (stood m w.calls).came ++ piece → Consumes before after ((stood m later).came ++ unread) × (length ((stood m later).came ++ unread) ≤ 4096 * more)
      came_all later unread is = grind (arith, common_steps)

      -- The writer failed.
      pub fails_there : (e : Failed) → Answered holds m c w.calls piece has written (Err e) new → EndedAs holds m c before after more had written (Err WriteFailed) new
      fails_there e a =
          let all = came_all a.later a.unread a.came in (
            record {
              calls = a.later;
              turns = a.turns;
              served = history a.later a.turns;
              unread = a.unread;
              consumed = all.0;
              few = all.1;
              ends = subst (GoesOutInPart had written) (sym a.given) (part_after had has written (stood m w.calls).given a.sent w.all_out.1 a.answers);
            },
            a.stands,
          )

      out_all : (a : Answered holds m c w.calls piece has written (Ok tt) new) → AllOut (stood m a.later) had written
      out_all a = (a.answers.0, subst (Appends had written) (sym a.given) (Appends-trans had has written (stood m w.calls).given a.sent w.all_out.1 a.answers.2))

      -- The connection has ended.
      pub ended_there : Answered holds m c w.calls piece has written (Ok tt) new → ((x : CacheState) → ShowsCache holds x new → false ≡ is_open_at (x.at c)) → EndedAs holds m c before after more had written (Ok CacheEnded) new
      ended_there a closed =
          let all = came_all a.later a.unread a.came in (
            record {
              calls = a.later;
              turns = a.turns;
              served = history a.later a.turns;
              unread = a.unread;
              consumed = all.0;
              few = all.1;
              ends = (out_all a, true_of_not (stood m a.later).conn.state.ended (sym (closed (standing a.later) a.stands ∙ ap is_open_at (stood_at a.later))));
            },
            a.stands,
          )

      -- It continues.
      pub waits_on : Answered holds m c w.calls piece has written (Ok tt) new → ((x : CacheState) → ShowsCache holds x new → true ≡ is_open_at (x.at c)) → Waits holds m c before after more had written new
      waits_on a opened =
          let on : (stood m a.later).conn.state.ended ≡ false = false_of_not (stood m a.later).conn.state.ended (sym (opened (standing a.later) a.stands ∙ ap is_open_at (stood_at a.later))) in
          let none : a.unread ≡ [] = no_rest a.unread (λ some. false_true (sym on ∙ a.answers.1 some)) in
          let all = came_all a.later a.unread a.came in
          let is : (stood m a.later).came ++ a.unread ≡ (stood m a.later).came = ap (λ x. (stood m a.later).came ++ x) none ∙ append-nil (stood m a.later).came in
          record {
            calls = a.later;
            turns = a.turns;
            stands = a.stands;
            consumed = subst (Consumes before after) is all.0;
            few = subst (λ x. length x ≤ 4096 * more) is all.1;
            goes_on = on;
            all_out = out_all a;
          }

    -- The input has ended.
    pub input_ends : (after : Option (List ℕ)) (served : Served) (count more : ℕ) (buf : List ℕ) → count ≡ 0 → reads ≤ more → 0 < length buf → Consumes left after (take count buf) × (count ≡ 0 → 0 < length buf → IsAtEnd after)
        → ((x : CacheState) → ShowsCache holds x cache → served ≡ ended_within (is_within (x.at c))) → EndedAs holds m c before after more had has (Ok served) cache
    input_ends after served count more buf none most room read told =
        ends_there more after (Ok served)
        (subst (Consumes before after) (append-nil (stood m w.calls).came) (Consumes-trans before left after (stood m w.calls).came [] w.consumed (subst (λ n. Consumes left after (take n buf)) none read.0)))
        (by_held (stood m w.calls).conn.held refl (told (standing w.calls) w.stands ∙ ap (λ o. ended_within (is_within o)) (stood_at w.calls)))
        most
      where
        by_held : (held : List ℕ) → (stood m w.calls).conn.held ≡ held → served ≡ ended_within (not (is_none (stood m w.calls).conn.held)) → EndsSo (stood m w.calls) [] after had has (Ok served)
        by_held [] is same = subst (λ x. EndsSo (stood m w.calls) [] after had has (Ok x)) (sym (same ∙ ap (λ h. ended_within (not (is_none h))) is)) (w.all_out, (refl, w.goes_on), is, read.1 none room)
        by_held (b ∷ held) is same =
            subst (λ x. EndsSo (stood m w.calls) [] after had has (Ok x)) (sym (same ∙ ap (λ h. ended_within (not (is_none h))) is)) (w.all_out, (refl, w.goes_on), subst (λ x. 0 < length x) (sym is) (omega arith), read.1 none room)

    -- The reader failed.
    pub read_fails_there : (after : Option (List ℕ)) (more : ℕ) → Keeps left after → reads ≤ more → EndedAs holds m c before after more had has (Err ReadFailed) cache
    read_fails_there after more kept most = ends_there more after (Err ReadFailed) (Consumes-kept before left after (stood m w.calls).came w.consumed kept) (w.all_out, (refl, w.goes_on)) most

    -- As many reads were made as were allowed.
    pub limit_there : (more : ℕ) → reads ≤ more → EndedAs holds m c before left more had has (Ok Limit) cache
    limit_there more most = ends_there more left (Ok Limit) w.consumed (w.all_out, (refl, w.goes_on)) most

-- Without a connection nothing happens.
pub nothing_served : (m : CacheState) (before had : Option (List ℕ)) (reads : ℕ) → ServesConnection m before before reads had had (Err Memory)
nothing_served m before had reads = search rules
