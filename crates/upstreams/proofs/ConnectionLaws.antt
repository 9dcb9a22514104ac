-- One connection, from step to step.
use Rattle.std.specs.Prelude.{◌≡◌, ℕ, ◌+◌, ◌-◌, ◌<◌, ◌≤◌, ◌==◌, Bool, true, false, List, [], ◌∷◌, ◌++◌, length, min, take, drop, Option, Some, None, is_some, if◌then◌else◌, refl}
use Rattle.std.proofs.Common.{zero, suc, sym, ap, ◌∙◌, subst, arith, append_assoc}
use Rattle.std.proofs.lemmas.List.{append-nil, length-append, length-take-le, take-append-drop}
use Rattle.std.specs.Io.KnownBytes.{Consumes, Keeps}
use Rattle.std.proofs.KnownBytes.{Appends-kept, Appends-trans, Consumes-kept, Consumes-trans}
use Rattle.prefixes.proofs.Basics.{eq_of}
use Rattle.rtr_pdu.specs.Judging.{Begins, Faulty, Whole}
use Rattle.rtr_pdu.specs.Payloads.{AreBytes}
use Rattle.rtr_pdu.specs.Unit.{MAX_UNIT_LEN}
use Rattle.rtr_ends.specs.Consumed.{came, consumed}
use Rattle.rtr_ends.specs.LinkRules as rules
use Rattle.rtr_ends.specs.Router.{RouterCall, Connects, Receives, Ticks, asks_if, called, clocked, close, closed_at, connects_at, played, receives, router_pulled, ticks_at}
use Rattle.rtr_ends.specs.Router as routers
use Rattle.rtr_ends.specs.RouterLink.{Link, Answering, Asked, Closed, Ended, Idle, is_closed, is_due, is_reading}
use Rattle.rtr_ends.specs.RouterShown.{Calls, IsShown, ReceivesSo}
use Rattle.rtr_ends.specs.declared.link.End.{End}
use Rattle.rtr_ends.specs.declared.router.Router.{Router}
use Rattle.rtr_ends.proofs.CallSteps.{BytesKeep, by_piece}
use Rattle.rtr_ends.proofs.Effects.{by_close, by_whole, clocked_keeps, unit_keeps}
use Rattle.rtr_ends.proofs.FetchStreamLaws.{none_received, pulled_front}
use Rattle.rtr_ends.proofs.TableLaws.{false_true}
use Rattle.rtr_server.specs.Clients.{Begun}
use Rattle.rtr_server.specs.Counting.{capped, counted, counted_on, none_counted}
use Rattle.rtr_server.specs.Streams.{EmptiesSo, FillsSo, moved_count}
use Rattle.rtr_server.specs.declared.stream.Progress.{Progress}
use Rattle.rtr_server.specs.declared.stream.Progress.TheVariants.{Bytes, Waits, Interrupted, Failed}
use Rattle.rtr_server.specs.declared.turn.Traffic.{Traffic}
use Rattle.rtr_server.specs.Turns.{and_read, and_received, and_written}
use Rattle.rtr_server.proofs.CountingLaws.{counted_both}
use Rattle.upstreams.specs.Notes.{received_notes}
use Rattle.upstreams.specs.Versions.{opened_on}
use Rattle.upstreams.specs.Polls.{Anyhow, AwaitsBytes, ConnectionState, Flow, GoesFrom, GoesOrEnds, HandsIn, HasEnded, HasUnwritten, IsFlushed, IsOver, MayBeFlushed, MayStep, MaySteps, Pulls, Reads, Runs, StandsFor, Step, Writes, after_read, after_write, next_on, router_of, state_after, state_of, steps_after}
use Rattle.upstreams.specs.declared.connection.Connection.{Connection}
use Rattle.upstreams.specs.declared.connection.DisconnectReason.TheVariants.{PeerClosed, WriteFailed}
use Rattle.upstreams.specs.declared.connection.NextCall.{NextCall}
use Rattle.upstreams.specs.declared.connection.PollOutcome.{PollOutcome}
use Rattle.upstreams.specs.declared.connection.PollOutcome.TheVariants.{Disconnected}
use Rattle.upstreams.specs.declared.notes.Notes.{Notes}

-- steps after steps
after_both : (now : ℕ) (more steps : List Step) (s : ConnectionState) → steps_after now (more ++ steps) s ≡ steps_after now more (steps_after now steps s)
after_both now [] steps s = refl
after_both now (step ∷ more) steps s = ap (state_after now step) (after_both now more steps s)

may_both : (now : ℕ) (more steps : List Step) (s : ConnectionState) → MaySteps now more (steps_after now steps s) → MaySteps now steps s → MaySteps now (more ++ steps) s
may_both now [] steps s h k = k
may_both now (step ∷ more) steps s h k = (subst (MayStep now step) (sym (after_both now more steps s)) h.0, may_both now more steps s h.1 k)

-- An open link is not closed by what is received, by its clock or by a query.
open_after : BytesKeep (λ r items. is_closed r.link ≡ false)
open_after memory bytes r Begins items some live none h = h
open_after memory bytes r (Faulty fault) items some live none h = refl
open_after memory bytes r (Whole u) items some live none h = by_whole (λ n. is_closed n.router.link ≡ false) memory bytes r u refl ((unit_keeps r.link u (record r { held = [] })).connected h)

received_open : (now : ℕ) (wanting : Option ℕ) (piece : List ℕ) (r : rules.Router) → is_closed r.link ≡ false → is_closed (receives now wanting piece r).machine.router.link ≡ false
received_open now wanting piece r h = by_piece (λ r items. is_closed r.link ≡ false) (λ now r items open_so. (clocked_keeps now r).closed_on ∙ open_so) open_after now wanting piece r [] h

due_open : (link : Link) (due : Option ℕ) (now : ℕ) → is_due link due now ≡ true → is_closed link ≡ false
due_open Closed due now h = false_true h
due_open Idle due now h = refl
due_open (Asked question) due now h = refl
due_open (Answering answer) due now h = refl
due_open (Ended end) due now h = refl

pub ticked_closed : (now : ℕ) (r : rules.Router) → is_closed (ticks_at now r).router.link ≡ is_closed r.link
unfolding ticks_at
ticked_closed now r = by_due (is_due (clocked now r).link (clocked now r).due (clocked now r).now) refl ∙ (clocked_keeps now r).closed_on
  where
    by_due : (b : Bool) → is_due (clocked now r).link (clocked now r).due (clocked now r).now ≡ b → is_closed (asks_if b (clocked now r)).router.link ≡ is_closed (clocked now r).link
    by_due true is = sym (due_open (clocked now r).link (clocked now r).due (clocked now r).now is)
    by_due false is = refl

pub closed_is : (now : ℕ) (r : rules.Router) → is_closed (closed_at now r).router.link ≡ true
unfolding closed_at
closed_is now r = by_close (λ n. is_closed n.link ≡ true) (clocked now r) (λ h. h) (λ h. refl)

pub connected_is : (now : ℕ) (r : rules.Router) → is_closed (connects_at now r).router.link ≡ false
unfolding connects_at
connected_is now r = refl

-- A link that reads nothing and is not closed has ended.
ended_of : (link : Link) → is_reading link ≡ false → is_closed link ≡ false → (end : End) × (link ≡ Ended end)
ended_of Closed h k = false_true (sym k)
ended_of Idle h k = false_true (sym h)
ended_of (Asked question) h k = false_true (sym h)
ended_of (Answering answer) h k = false_true (sym h)
ended_of (Ended end) h k = (end, refl)

-- what follows from the next call of a stream over which all is written and consumed
next_so : (s : ConnectionState) (link : Link) → (router_of s).link ≡ link → IsFlushed s → s.unread ≡ [] → is_closed link ≡ false → StandsFor (next_on link) s
next_so s Closed is flushed none open_so = false_true (sym open_so)
next_so s Idle is flushed none open_so = record { flushed = flushed; all_consumed = none; open_link = ap is_reading is }
next_so s (Asked question) is flushed none open_so = record { flushed = flushed; all_consumed = none; open_link = ap is_reading is }
next_so s (Answering answer) is flushed none open_so = record { flushed = flushed; all_consumed = none; open_link = ap is_reading is }
next_so s (Ended end) is flushed none open_so = record { flushed = flushed; ended = is }

-- What is due is pulled whole if nothing of it comes.
none_of : (most : ℕ) (due : List ℕ) → 0 < most → take most due ≡ [] → due ≡ []
none_of most [] some none = refl
none_of zero (b ∷ due) some none = absurd (omega (arith, some))
none_of (suc most) (b ∷ due) some none = cc

drop_none : (k : ℕ) → drop {A = ℕ} k [] ≡ []
drop_none zero = refl
drop_none (suc k) = refl

none_left : (most : ℕ) (due : List ℕ) → 0 < most → take most due ≡ [] → drop most due ≡ []
none_left most due some none = ap (drop most) (none_of most due some none) ∙ drop_none most

-- What is pulled into a buffer is at its front.
pub pulled_all : (room out now : List ℕ) (count : ℕ) → length room ≡ 4096 → (count ≡ min (length room) (length out)) × (now ≡ take (length room) out ++ drop (length out) room) → take (count - 0) (drop 0 now) ≡ take 4096 out
pulled_all room out now count size h = let e : count - 0 ≡ count = omega arith in ap (λ n. take n now) e ∙ pulled_front out room now count h ∙ ap (λ n. take n out) size

is_empty : (bytes : List ℕ) → length bytes ≡ 0 → bytes ≡ []
is_empty [] e = refl
is_empty (b ∷ bytes) e = absurd (omega (arith, e))

pub to_write : (bytes : List ℕ) → ¬ (bytes ≡ []) → 0 < length bytes
to_write [] h = absurd (h refl)
to_write (b ∷ bytes) h = omega arith

-- a count increases
more_counted : (count more all now : ℕ) → count ≡ capped all → now ≡ all + more → capped (count + more) ≡ capped now
more_counted count more all now e is = omega (arith, e, is)

-- As many bytes came as were answered.
filled_count : (left after : Option (List ℕ)) (moved : Progress) (unread : List ℕ) → FillsSo left after moved unread → length unread ≡ moved_count moved
filled_count left after (Bytes n) unread h = h.1
filled_count left after Waits unread h = ap (λ bs. length bs) h.1
filled_count left after Interrupted unread h = ap (λ bs. length bs) h.1
filled_count left after Failed unread h = ap (λ bs. length bs) h.1

-- what a write removes from the front of what remains to be written
written_is : (had has : Option (List ℕ)) (moved : Progress) (old new : List ℕ) → EmptiesSo had has moved old new → drop (moved_count moved) old ≡ new
written_is had has (Bytes n) old new h = sym h.1
written_is had has Waits old new h = sym h.1
written_is had has Interrupted old new h = sym h.1
written_is had has Failed old new h = sym h.1

-- bytes are read
flow_read : (calls : List RouterCall) (b : Begun) (left after has still : Option (List ℕ)) (old unread unwritten : List ℕ) (traffic : Traffic) (moved : Progress) → old ≡ []
    → Flow b left has (record { calls = calls; unread = old; unwritten = unwritten; traffic = traffic }) → FillsSo left after moved unread → Keeps has still
    → Flow b after still (record { calls = calls; unread = unread; unwritten = unwritten; traffic = and_read (length unread) traffic })
flow_read calls b left after has still old unread unwritten traffic moved nothing flow fills keeps = record {
  read = by_moved moved fills;
  written = flow.written;
  given = flow.given;
  out = Appends-kept b.had has still flow.written flow.out keeps;
  all_read = more_counted traffic.carried.read (length unread) (length (came calls ++ old)) (length (came calls ++ unread)) flow.all_read
      (length-append (came calls) unread ∙ ap (λ n. n + length unread) (sym (ap (λ x. length (came calls ++ x)) nothing ∙ ap (λ x. length x) (append-nil (came calls)))));
  all_written = flow.all_written;
  all_received = flow.all_received;
  all_sent = flow.all_sent;
}
  where
    all : Consumes b.before left (came calls)
    all = subst (Consumes b.before left) (ap (λ x. came calls ++ x) nothing ∙ append-nil (came calls)) flow.read

    none : Keeps left after → unread ≡ [] → Consumes b.before after (came calls ++ unread)
    none kept is = subst (λ x. Consumes b.before after (came calls ++ x)) (sym is) (subst (Consumes b.before after) (sym (append-nil (came calls))) (Consumes-kept b.before left after (came calls) all kept))

    by_moved : (moved : Progress) → FillsSo left after moved unread → Consumes b.before after (came calls ++ unread)
    by_moved (Bytes n) h = Consumes-trans b.before left after (came calls) unread all h.0
    by_moved Waits h = none h.0 h.1
    by_moved Interrupted h = none h.0 h.1
    by_moved Failed h = none h.0 h.1

-- bytes are written
flow_written : (calls : List RouterCall) (b : Begun) (left still has wrote : Option (List ℕ)) (unread old new : List ℕ) (traffic : Traffic) (moved : Progress)
    → Flow b left has (record { calls = calls; unread = unread; unwritten = old; traffic = traffic }) → EmptiesSo has wrote moved old new → Keeps left still
    → Flow b still wrote (record { calls = calls; unread = unread; unwritten = new; traffic = and_written (moved_count moved) (take (moved_count moved) old) traffic })
flow_written calls b left still has wrote unread old new traffic moved flow empties keeps = by_moved moved empties
  where
    read : Consumes b.before still (came calls ++ unread)
    read = Consumes-kept b.before left still (came calls ++ unread) flow.read keeps

    none : Keeps has wrote → new ≡ old → Flow b still wrote (record { calls = calls; unread = unread; unwritten = new; traffic = and_written 0 (take 0 old) traffic })
    none kept is = record {
      read = read;
      written = flow.written;
      given = flow.given ∙ ap (λ x. flow.written ++ x) (sym is);
      out = Appends-kept b.had has wrote flow.written flow.out kept;
      all_read = flow.all_read;
      all_written = more_counted traffic.carried.written 0 (length flow.written) (length flow.written) flow.all_written (omega arith);
      all_received = flow.all_received;
      all_sent = flow.all_sent;
    }

    by_moved : (moved : Progress) → EmptiesSo has wrote moved old new → Flow b still wrote (record { calls = calls; unread = unread; unwritten = new; traffic = and_written (moved_count moved) (take (moved_count moved) old) traffic })
    by_moved (Bytes n) h = record {
      read = read;
      written = flow.written ++ take n old;
      given = flow.given ∙ ap (λ x. flow.written ++ x) (sym (ap (λ x. take n old ++ x) h.1 ∙ take-append-drop n old)) ∙ sym (append_assoc flow.written (take n old) new);
      out = Appends-trans b.had has wrote flow.written (take n old) flow.out h.0;
      all_read = flow.all_read;
      all_written = more_counted traffic.carried.written n (length flow.written) (length (flow.written ++ take n old)) flow.all_written
          (length-append flow.written (take n old) ∙ ap (λ k. length flow.written + k) (length-take-le n old h.2));
      all_received = flow.all_received;
      all_sent = ap (λ c. counted_on c (take n old)) flow.all_sent ∙ sym (counted_both none_counted flow.written (take n old));
    }
    by_moved Waits h = none h.0 h.1
    by_moved Interrupted h = none h.0 h.1
    by_moved Failed h = none h.0 h.1

-- what stays of a connection if some fields are others
pub same_filled : {T A : Type 0} (f : T → A) (old new : Connection T) (bytes : List ℕ) → new ≡ record old { unwritten = bytes } → f new.stream ≡ f old.stream
same_filled f old new bytes e = ap (λ x. f x.stream) e

pub same_taken : {T A : Type 0} (f : T → A) (old new : Connection T) (bytes : List ℕ) (traffic : Traffic) (notes : Notes) → new ≡ record old { unread = bytes; traffic = traffic; notes = notes } → f new.stream ≡ f old.stream
same_taken f old new bytes traffic notes e = ap (λ x. f x.stream) e

module _ {T : Type 0} (remaining contents : T → Option (List ℕ)) where
  -- one part of a poll after another
  pub then_on : (now : ℕ) (P Q R : ConnectionState → Type 0) (first : Router) (a : Connection T) (second : Router) (b : Connection T) (third : Router) (c : Connection T) → GoesFrom remaining contents now P first a second b Q → GoesFrom remaining contents now Q second b third c R → GoesFrom remaining contents now P first a third c R
  then_on now P Q R first a second b third c f g calls begun runs is =
      let one = f calls begun runs is in
      let two = g one.calls begun one.runs one.so in
      record {
        steps = two.steps ++ one.steps;
        may = may_both now two.steps one.steps (state_of calls a) (subst (MaySteps now two.steps) (sym one.leads) two.may) one.may;
        calls = two.calls;
        leads = after_both now two.steps one.steps (state_of calls a) ∙ ap (steps_after now two.steps) one.leads ∙ two.leads;
        runs = two.runs;
        so = two.so;
      }

  -- what follows from what is so
  pub so_then : (now : ℕ) (P Q R : ConnectionState → Type 0) (first : Router) (a : Connection T) (second : Router) (b : Connection T) → ((calls : List RouterCall) (begun : Begun) → Runs remaining contents calls begun second (Some b) → Q (state_of calls b) → R (state_of calls b))
      → GoesFrom remaining contents now P first a second b Q → GoesFrom remaining contents now P first a second b R
  so_then now P Q R first a second b f g calls begun runs is =
      let h = g calls begun runs is in
      record { steps = h.steps; may = h.may; calls = h.calls; leads = h.leads; runs = h.runs; so = f h.calls begun h.runs h.so }

  -- nothing is done
  pub stays : (now : ℕ) (P : ConnectionState → Type 0) (router : Router) (c : Connection T) → GoesFrom remaining contents now P router c router c P
  stays now P router c calls begun runs is = record { steps = []; may = tt; calls = calls; leads = refl; runs = runs; so = is }

  -- What was read is passed to the router, and this many bytes of it are consumed.
  pub takes : (now : ℕ) (before after : Router) (old : Connection T) (rest : List ℕ) (traffic : Traffic) (notes : Notes) (count : ℕ) → 0 < length old.unread → rest ≡ drop count old.unread → traffic ≡ and_received (take count old.unread) old.traffic → AreBytes old.unread → ReceivesSo now old.unread count before after
      → ((r n : rules.Router) → IsShown r before → IsShown n after → notes ≡ received_notes now (is_some r.version) n (record old.notes { opening = opened_on old.notes.opening (take count old.unread) }))
      → GoesFrom remaining contents now IsFlushed before old after (record old { unread = rest; traffic = traffic; notes = notes }) (λ s. count ≡ 0 → IsOver s)
  takes now before after old rest traffic notes count some rest_is traffic_is bytes received notes_are calls b runs flushed =
      let r : rules.Router = (played calls).router in
      let s = received.1 r runs.leads in
      let wanting : Option ℕ = received.0 in
      let unread : List ℕ = old.unread in
      let more : List RouterCall = Receives now wanting unread ∷ calls in
      let left : ℕ → ConnectionState = λ n. record { calls = more; unread = drop n unread; unwritten = old.unwritten; traffic = and_received (take n unread) old.traffic } in
      let all : List ℕ → Traffic → ConnectionState = λ bs t. record { calls = more; unread = bs; unwritten = old.unwritten; traffic = t } in
      let is_open = received_open now wanting unread r runs.carries.is_open in
      let whole_is : (came more ++ rest) ≡ came calls ++ unread =
      ap (λ x. came more ++ x) rest_is ∙ ap (λ n. (came calls ++ take n unread) ++ drop count unread) (sym s.count_is) ∙ append_assoc (came calls) (take count unread) (drop count unread) ∙ ap (λ x. came calls ++ x) (take-append-drop count unread) in
      record {
        steps = HandsIn wanting ∷ [];
        may = ((bytes, flushed, s.wanted), tt);
        calls = more;
        leads = ap left (sym s.count_is) ∙ (λ i. all (sym rest_is i) (sym traffic_is i));
        runs = record {
          leads = s.shown;
          can_be = (bytes, runs.can_be);
          carries = record {
            is_open = is_open;
            noted =
                notes_are r (played more).router runs.leads s.shown
                ∙ ap (λ n. received_notes now (is_some r.version) (played more).router (record old.notes { opening = opened_on old.notes.opening (take n unread) })) s.count_is
                ∙ ap (λ (n : Notes). received_notes now (is_some r.version) (played more).router (record n { opening = opened_on n.opening (consumed (Receives now wanting unread) r) })) runs.carries.noted;
            flow = record {
              read = subst (Consumes b.before (remaining old.stream)) (sym whole_is) runs.carries.flow.read;
              written = runs.carries.flow.written;
              given = runs.carries.flow.given;
              out = runs.carries.flow.out;
              all_read = ap (λ (x : Traffic). x.carried.read) traffic_is ∙ runs.carries.flow.all_read ∙ ap (λ x. capped (length x)) (sym whole_is);
              all_written = ap (λ (x : Traffic). x.carried.written) traffic_is ∙ runs.carries.flow.all_written;
              all_received = ap (λ (x : Traffic). x.received) traffic_is ∙ ap (λ c. counted_on c (take count unread)) runs.carries.flow.all_received ∙ sym (counted_both none_counted (came calls) (take count unread))
                  ∙ ap (λ n. counted (came calls ++ take n unread)) s.count_is;
              all_sent = ap (λ (x : Traffic). x.sent) traffic_is ∙ runs.carries.flow.all_sent;
            };
          };
        };
        so = λ none.
            let n = none_received now wanting unread r flushed.none_due (sym none ∙ s.count_is) in
            let e = ended_of (receives now wanting unread r).machine.router.link (n.1 some) is_open in
            (e.0, record { flushed = record { all_written = flushed.all_written; none_due = n.0 }; ended = e.1 });
      }

  -- What the router has to send is pulled.
  pub pulls : (now : ℕ) (before after : Router) (old : Connection T) (new : List ℕ) → old.unwritten ≡ [] → Calls (λ r. (called (routers.Pulls 4096) r).router) before after → ((r : rules.Router) → IsShown r before → new ≡ take 4096 r.out)
      → GoesFrom remaining contents now Anyhow before old after (record old { unwritten = new }) MayBeFlushed
  unfolding router_pulled
  pulls now before after old new nothing does is calls b runs any =
      let r : rules.Router = (played calls).router in
      let flow = runs.carries.flow in
      let pulled = is r runs.leads in
      let more : List RouterCall = routers.Pulls MAX_UNIT_LEN ∷ calls in
      let with_bytes : List ℕ → ConnectionState = λ bs. record { calls = more; unread = old.unread; unwritten = bs; traffic = old.traffic } in
      record {
        steps = Pulls ∷ [];
        may = (nothing, tt);
        calls = more;
        leads = ap with_bytes (sym pulled);
        runs = record {
          leads = does r runs.leads;
          can_be = (tt, runs.can_be);
          carries = record {
            is_open = runs.carries.is_open;
            noted = runs.carries.noted;
            flow = record {
              read = subst (λ x. Consumes b.before (remaining old.stream) (x ++ old.unread)) (sym (append-nil (came calls))) flow.read;
              written = flow.written;
              given = ap (λ x. x ++ take 4096 r.out) (flow.given ∙ ap (λ x. flow.written ++ x) nothing ∙ append-nil flow.written) ∙ ap (λ x. flow.written ++ x) (sym pulled);
              out = flow.out;
              all_read = flow.all_read ∙ ap (λ x. capped (length (x ++ old.unread))) (sym (append-nil (came calls)));
              all_written = flow.all_written;
              all_received = flow.all_received ∙ ap counted (sym (append-nil (came calls)));
              all_sent = flow.all_sent;
            };
          };
        };
        so = λ none. record { all_written = none; none_due = none_left 4096 r.out (omega arith) (sym pulled ∙ none) };
      }

  -- bytes are read
  pub reads : (now : ℕ) (router : Router) (old : Connection T) (stream : T) (unread : List ℕ) (moved : Progress) (outcome : Option PollOutcome) → FillsSo (remaining old.stream) (remaining stream) moved unread → Keeps (contents old.stream) (contents stream)
      → length unread ≤ MAX_UNIT_LEN → outcome ≡ after_read moved → (traffic : Traffic) → traffic ≡ and_read (moved_count moved) old.traffic
      → GoesFrom remaining contents now AwaitsBytes router old router (record old { stream = stream; unread = unread; traffic = traffic }) (GoesOrEnds outcome (remaining stream))
  reads now router old stream unread moved outcome fills keeps room outcome_is traffic traffic_is calls b runs idle =
      record {
        steps = Reads unread ∷ [];
        may = ((idle, room), tt);
        calls = calls;
        leads = ap with_count so_counted;
        runs = record {
          leads = runs.leads;
          can_be = runs.can_be;
          carries = record {
            is_open = runs.carries.is_open;
            noted = runs.carries.noted;
            flow = subst (λ c. Flow b (remaining stream) (contents stream) (with_count c)) so_counted
                (flow_read calls b (remaining old.stream) (remaining stream) (contents old.stream) (contents stream) old.unread unread old.unwritten old.traffic moved idle.all_consumed runs.carries.flow fills keeps);
          };
        };
        so = subst (λ o. GoesOrEnds o (remaining stream) (with_count traffic)) (sym outcome_is) (ends moved fills);
      }
    where
      with_count : Traffic → ConnectionState
      with_count c = record { calls = calls; unread = unread; unwritten = old.unwritten; traffic = c }

      so_counted : and_read (length unread) old.traffic ≡ traffic
      so_counted = ap (λ n. and_read n old.traffic) (filled_count (remaining old.stream) (remaining stream) moved unread fills) ∙ sym traffic_is

      stays_idle : unread ≡ [] → AwaitsBytes (with_count traffic)
      stays_idle none = record { flushed = record { all_written = idle.flushed.all_written; none_due = idle.flushed.none_due }; all_consumed = none; open_link = idle.open_link }

      by_zero : (n : ℕ) (b : Bool) → (n == 0) ≡ b → FillsSo (remaining old.stream) (remaining stream) (Bytes n) unread → GoesOrEnds (if b then Some (Disconnected PeerClosed) else None) (remaining stream) (with_count traffic)
      by_zero n true is h = (stays_idle (is_empty unread (h.1 ∙ eq_of n 0 is)), h.2 (eq_of n 0 is))
      by_zero n false is h = tt

      ends : (moved : Progress) → FillsSo (remaining old.stream) (remaining stream) moved unread → GoesOrEnds (after_read moved) (remaining stream) (with_count traffic)
      ends (Bytes n) h = by_zero n (n == 0) refl h
      ends Waits h = stays_idle h.1
      ends Interrupted h = tt
      ends Failed h = stays_idle h.1

  -- bytes are written
  pub writes : (now : ℕ) (router : Router) (old : Connection T) (stream : T) (new : List ℕ) (moved : Progress) (outcome : Option PollOutcome) → EmptiesSo (contents old.stream) (contents stream) moved old.unwritten new → Keeps (remaining old.stream) (remaining stream)
      → outcome ≡ after_write moved → (traffic : Traffic) → traffic ≡ and_written (moved_count moved) (take (moved_count moved) old.unwritten) old.traffic
      → GoesFrom remaining contents now HasUnwritten router old router (record old { stream = stream; unwritten = new; traffic = traffic }) (GoesOrEnds outcome (remaining stream))
  writes now router old stream new moved outcome empties keeps outcome_is traffic traffic_is calls b runs some =
      record {
        steps = Writes (moved_count moved) ∷ [];
        may = (some, tt);
        calls = calls;
        leads = ap (λ bs. with_both bs (and_written (moved_count moved) (take (moved_count moved) old.unwritten) old.traffic)) (written_is (contents old.stream) (contents stream) moved old.unwritten new empties) ∙ ap (with_both new) (sym traffic_is);
        runs = record {
          leads = runs.leads;
          can_be = runs.can_be;
          carries = record {
            is_open = runs.carries.is_open;
            noted = runs.carries.noted;
            flow = subst (λ c. Flow b (remaining stream) (contents stream) (with_both new c)) (sym traffic_is)
                (flow_written calls b (remaining old.stream) (remaining stream) (contents old.stream) (contents stream) old.unread old.unwritten new old.traffic moved runs.carries.flow empties keeps);
          };
        };
        so = subst (λ o. GoesOrEnds o (remaining stream) (with_both new traffic)) (sym outcome_is) (ends moved empties);
      }
    where
      with_both : List ℕ → Traffic → ConnectionState
      with_both bs c = record { calls = calls; unread = old.unread; unwritten = bs; traffic = c }

      still : new ≡ old.unwritten → 0 < length new
      still is = subst (λ (x : List ℕ). 0 < length x) (sym is) some

      by_zero : (n : ℕ) (b : Bool) → (n == 0) ≡ b → EmptiesSo (contents old.stream) (contents stream) (Bytes n) old.unwritten new → GoesOrEnds (if b then Some (Disconnected WriteFailed) else None) (remaining stream) (with_both new traffic)
      by_zero n true is h = still (h.1 ∙ ap (λ k. drop k old.unwritten) (eq_of n 0 is))
      by_zero n false is h = tt

      ends : (moved : Progress) → EmptiesSo (contents old.stream) (contents stream) moved old.unwritten new → GoesOrEnds (after_write moved) (remaining stream) (with_both new traffic)
      ends (Bytes n) h = by_zero n (n == 0) refl h
      ends Waits h = still h.1
      ends Interrupted h = tt
      ends Failed h = still h.1

  -- What the next call is follows from the link, if all is written and consumed.
  pub next_is : (now : ℕ) (P : ConnectionState → Type 0) (first : Router) (a : Connection T) (second : Router) (b : Connection T) (next : NextCall) → b.unwritten ≡ [] → b.unread ≡ [] → ((r : rules.Router) → IsShown r second → next ≡ next_on r.link)
      → GoesFrom remaining contents now P first a second b MayBeFlushed → GoesFrom remaining contents now P first a second b (StandsFor next)
  next_is now P first a second b next all_written all_consumed is =
      so_then now P MayBeFlushed (StandsFor next) first a second b
      (λ calls begun runs flushed. subst (λ n. StandsFor n (state_of calls b)) (sym (is (played calls).router runs.leads)) (next_so (state_of calls b) (played calls).router.link refl (flushed all_written) all_consumed runs.carries.is_open))

  -- how the link has ended
  pub ended_is : (now : ℕ) (P : ConnectionState → Type 0) (first : Router) (a : Connection T) (second : Router) (b : Connection T) (told : End) → ((r : rules.Router) (end : End) → IsShown r second → r.link ≡ Ended end → told ≡ end)
      → GoesFrom remaining contents now P first a second b IsOver → GoesFrom remaining contents now P first a second b (HasEnded told)
  ended_is now P first a second b told is =
      so_then now P IsOver (HasEnded told) first a second b
      (λ calls begun runs over. subst (λ e. HasEnded e (state_of calls b)) (sym (is (played calls).router over.0 runs.leads over.1.ended)) over.1)
