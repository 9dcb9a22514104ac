-- One client, from step to step.
use Rattle.std.specs.Prelude.{◌≡◌, ℕ, ◌+◌, ◌-◌, ◌<◌, ◌≤◌, ◌==◌, Bool, true, false, not, ◌&&◌, List, [], ◌∷◌, ◌++◌, length, slice_get, take, drop, min, Option, Some, None, IfSome, option_map, if◌then◌else◌, refl}
use Rattle.std.proofs.Common.{zero, suc, sym, ap, ◌∙◌, subst, arith, append_assoc}
use Rattle.std.proofs.lemmas.List.{append-nil, length-append, length-drop, length-take, length-take-le, take-append-drop}
use Rattle.std.specs.Io.KnownBytes.{Consumes, IsAtEnd, Keeps}
use Rattle.std.proofs.KnownBytes.{Appends-kept, Appends-trans, Consumes-kept, Consumes-trans}
use Rattle.vrps.specs.Instance.{Instance}
use Rattle.rtr_pdu.specs.Payloads.{AreBytes}
use Rattle.rtr_pdu.specs.Unit.{MAX_UNIT_LEN}
use Rattle.rtr_ends.specs.Cache.{Conn, Gives, Notifies as Notified, Serving, Takes, can_notify, conn_notified, conn_pulled, conn_takes, is_none, serve}
use Rattle.rtr_ends.specs.CacheState.{CacheState, GivesBytes, ShowsCache, ShowsSlot, TakesPiece, can_notify_at, conn_consumed, due_at, is_open_at, is_wanted_at, notified, peer_at, with_conn}
use Rattle.rtr_ends.specs.Peer.{is_wanted_by_peer}
use Rattle.rtr_ends.specs.ServeStream.{is_within}
use Rattle.rtr_ends.specs.Timing.{Intervals}
use Rattle.rtr_ends.specs.declared.cache.Cache.{Cache}
use Rattle.rtr_ends.specs.declared.cache.Conn.{Conn as Number}
use Rattle.rtr_ends.proofs.CacheStateLaws.{with_conn_at}
use Rattle.rtr_ends.proofs.ServeStreamLaws.{drop_none, none_taken, pulled_is}
use Rattle.rtr_ends.proofs.TableLaws.{false_true}
use Rattle.prefixes.proofs.Basics.{eq_of, not_eq_of}
use Rattle.rtr_server.specs.Counting.{Counted, capped, counted, counted_on, first_byte, none_counted}
use Rattle.rtr_server.specs.Streams.{EmptiesSo, FillsSo, IsRoom, PullsInto, moved_count, room_of}
use Rattle.rtr_server.proofs.CountingLaws.{counted_both}
use Rattle.rtr_server.specs.Turns.{Anyhow, ClientState, ClientStep, EndsSo, Flow, Goes, GoesFrom, GoesOrEnds, HandsIn, HasRoom, IsIdle, IsOver, IsSettled, IsToWrite, MaySettle, MayStep, MaySteps, NoneDue, Notifies, Pulls, Reads, StandsSo, Writes, WritesFrom, and_read, and_written, after_read, after_write, and_received, can_be_told, client_after, client_of, consumed_of, settles, steps_after}
use Rattle.rtr_server.specs.declared.stream.Progress.{Progress}
use Rattle.rtr_server.specs.declared.stream.Progress.TheVariants.{Bytes, Waits, Interrupted, Failed}
use Rattle.rtr_server.specs.declared.turn.CloseReason.TheVariants.{PeerClosed, Truncated, WriteFailed}
use Rattle.rtr_server.specs.declared.turn.Slot.{Slot}
use Rattle.rtr_server.specs.declared.turn.Traffic.{Traffic}
use Rattle.rtr_server.specs.declared.turn.Turn.{Turn}
use Rattle.rtr_server.specs.declared.turn.Turn.TheVariants.{Gone}

-- steps after steps
pub after_both : (keep : ℕ) (t : Intervals) (more steps : List ClientStep) (s : ClientState) → steps_after keep t (more ++ steps) s ≡ steps_after keep t more (steps_after keep t steps s)
after_both keep t [] steps s = refl
after_both keep t (step ∷ more) steps s = ap (client_after keep t step) (after_both keep t more steps s)

pub may_both : (keep : ℕ) (t : Intervals) (more steps : List ClientStep) (s : ClientState) → MaySteps keep t more (steps_after keep t steps s) → MaySteps keep t steps s → MaySteps keep t (more ++ steps) s
may_both keep t [] steps s h k = k
may_both keep t (step ∷ more) steps s h k = (subst (MayStep keep t step) (sym (after_both keep t more steps s)) h.0, may_both keep t more steps s h.1 k)

-- None of them publishes.
pub cache_is : (keep : ℕ) (t : Intervals) (steps : List ClientStep) (s : ClientState) → (steps_after keep t steps s).serving.cache ≡ s.serving.cache
cache_is keep t [] s = refl
cache_is keep t (HandsIn wanting ∷ steps) s = cache_is keep t steps s
cache_is keep t (Pulls most ∷ steps) s = cache_is keep t steps s
cache_is keep t (Notifies ∷ steps) s = cache_is keep t steps s
cache_is keep t (Reads bytes ∷ steps) s = cache_is keep t steps s
cache_is keep t (Writes count ∷ steps) s = cache_is keep t steps s

-- They keep to the room.
pub room_kept : (keep : ℕ) (t : Intervals) (steps : List ClientStep) (s : ClientState) → MaySteps keep t steps s → HasRoom s → HasRoom (steps_after keep t steps s)
room_kept keep t [] s may h = h
room_kept keep t (HandsIn wanting ∷ steps) s may h =
    let k = room_kept keep t steps s may.1 h in
    let a = steps_after keep t steps s in
    let l = length-drop (consumed_of keep t wanting a.unread a.serving) a.unread in
    record { unread = omega (arith, l, k.unread); unwritten = k.unwritten }
room_kept keep t (Pulls most ∷ steps) s may h =
    let k = room_kept keep t steps s may.1 h in
    let l = length-take most (steps_after keep t steps s).serving.conn.state.due in
    let r = may.0.1.fits in
    record { unread = k.unread; unwritten = omega (arith, l, r) }
room_kept keep t (Notifies ∷ steps) s may h = let k = room_kept keep t steps s may.1 h in record { unread = k.unread; unwritten = k.unwritten }
room_kept keep t (Reads bytes ∷ steps) s may h = let k = room_kept keep t steps s may.1 h in record { unread = may.0.1; unwritten = k.unwritten }
room_kept keep t (Writes count ∷ steps) s may h =
    let k = room_kept keep t steps s may.1 h in
    let l = length-drop count (steps_after keep t steps s).unwritten in
    record { unread = k.unread; unwritten = omega (arith, l, k.unwritten) }

-- What is due is pulled whole if nothing of it comes.
none_of : (most : ℕ) (due : List ℕ) → 0 < most → take most due ≡ [] → due ≡ []
none_of most [] some none = refl
none_of zero (b ∷ due) some none = absurd (omega (arith, some))
none_of (suc most) (b ∷ due) some none = cc

due_pulled : (most : ℕ) (due : List ℕ) → 0 < most → take most due ≡ [] → drop (min most (length due)) due ≡ []
due_pulled most due some none = ap (drop (min most (length due))) (none_of most due some none) ∙ drop_none (min most (length due))

none_left : (keep : ℕ) (t : Intervals) (most : ℕ) (o : Conn) → 0 < most → take most o.state.due ≡ [] → (conn_pulled keep t most o).state.due ≡ []
unfolding conn_pulled
none_left keep t most o some none = due_pulled most o.state.due some none

not_notified : (keep : ℕ) (t : Intervals) (i : Instance) (o : Conn) → can_notify i o ≡ false → conn_notified keep t i o ≡ o
unfolding conn_notified
not_notified keep t i o is = rw is

is_empty : (bytes : List ℕ) → length bytes ≡ 0 → bytes ≡ []
is_empty [] e = refl
is_empty (b ∷ bytes) e = absurd (omega (arith, e))

some_held : (held : List ℕ) → true ≡ not (is_none held) → 0 < length held
some_held [] e = false_true (sym e)
some_held (b ∷ held) e = omega arith

none_held : (held : List ℕ) → false ≡ not (is_none held) → held ≡ []
none_held [] e = refl
none_held (b ∷ held) e = false_true e

pub to_write : (bytes : List ℕ) → ¬ (bytes ≡ []) → 0 < length bytes
to_write [] h = absurd (h refl)
to_write (b ∷ bytes) h = omega arith

-- what stays of a slot if one field is another
pub same_owed : {T : Type 0} (old new : Slot T) (bytes : List ℕ) → new ≡ record old { unwritten = bytes } → new.is_owed ≡ old.is_owed
same_owed old new bytes e = ap (λ x. x.is_owed) e

pub same_stream : {T : Type 0} {A : Type 0} (f : T → A) (old new : Slot T) (bytes : List ℕ) (traffic : Traffic) → new ≡ record old { unread = bytes; traffic = traffic } → f new.stream ≡ f old.stream
same_stream f old new bytes traffic e = ap (λ x. f x.stream) e

module _ {S : Type 0} (holds : ℕ → Instance → S → Type 0) where
  -- what is set twice is what it was set to last
  pub set_twice : (m : CacheState) (c : ℕ) (x y z : Option Conn) (cache : Cache S) → x ≡ z → ShowsCache holds (with_conn c x (with_conn c y m)) cache → ShowsCache holds (with_conn c z m) cache
  set_twice m c x y z cache e shows = record { timing = shows.timing; session0 = shows.session0; store = shows.store; numbers = shows.numbers; slots = λ d. by_test d (d == c) (shows.slots d) }
    where
      by_test : (d : ℕ) (b : Bool) → ShowsSlot m.timing m.cache (if b then x else if b then y else m.at d) (peer_at cache.peers.items d) → ShowsSlot m.timing m.cache (if b then z else m.at d) (peer_at cache.peers.items d)
      by_test d true h = subst (λ a. ShowsSlot m.timing m.cache a (peer_at cache.peers.items d)) e h
      by_test d false h = h

  -- what is set to what it was
  set_same : (m : CacheState) (c : ℕ) (x : Option Conn) (cache : Cache S) → m.at c ≡ x → ShowsCache holds m cache → ShowsCache holds (with_conn c x m) cache
  set_same m c x cache e shows = record { timing = shows.timing; session0 = shows.session0; store = shows.store; numbers = shows.numbers; slots = λ d. by_test d (d == c) refl }
    where
      by_test : (d : ℕ) (b : Bool) → (d == c) ≡ b → ShowsSlot m.timing m.cache (if b then x else m.at d) (peer_at cache.peers.items d)
      by_test d true is = subst (λ a. ShowsSlot m.timing m.cache a (peer_at cache.peers.items d)) (ap m.at (eq_of d c is) ∙ e) (shows.slots d)
      by_test d false is = shows.slots d

  -- another connection, if what it was is known
  set_known : (F : Conn → Conn) (m : CacheState) (c : ℕ) (o p : Conn) (cache : Cache S) → m.at c ≡ Some o → F o ≡ p → ShowsCache holds (with_conn c (option_map F (m.at c)) m) cache → ShowsCache holds (with_conn c (Some p) m) cache
  set_known F m c o p cache at is shows = subst (λ x. ShowsCache holds (with_conn c x m) cache) (ap (option_map F) at ∙ ap Some is) shows

-- a count increases
more_counted : (count more all now : ℕ) → count ≡ capped all → now ≡ all + more → capped (count + more) ≡ capped now
more_counted count more all now e is = omega (arith, e, is)

pub read_more : (t : Traffic) (now more count : ℕ) → now ≡ capped (t.carried.read + more) → more ≡ count → record t { carried = record t.carried { read = now } } ≡ and_read count t
read_more t now more count e is = let f : ℕ → Traffic = λ n. record t { carried = record t.carried { read = n } } in ap f (e ∙ ap (λ k. capped (t.carried.read + k)) is)

pub received_more : (t : Traffic) (received : Counted) (asked : Option ℕ) (bytes : List ℕ) → received ≡ counted_on t.received bytes → asked ≡ first_byte t.asked bytes
    → record t { received = received; asked = asked } ≡ and_received bytes t
received_more t received asked bytes counts asks =
    let f : Counted → Option ℕ → Traffic = λ c first. record t { received = c; asked = first } in
    λ i. f (counts i) (asks i)

-- the first byte of both, if the first of these bytes is noted
first_of_both : (came bytes : List ℕ) → first_byte (slice_get came 0) bytes ≡ slice_get (came ++ bytes) 0
first_of_both [] bytes = refl
first_of_both (b ∷ came) bytes = refl

pub written_more : (t : Traffic) (now more count : ℕ) (sent : Counted) (bytes : List ℕ) → now ≡ capped (t.carried.written + more) → more ≡ count → sent ≡ counted_on t.sent bytes
    → record t { carried = record t.carried { written = now }; sent = sent } ≡ and_written count bytes t
written_more t now more count sent bytes e is counts =
    let f : ℕ → Counted → Traffic = λ n c. record t { carried = record t.carried { written = n }; sent = c } in
    let n = e ∙ ap (λ k. capped (t.carried.written + k)) is in
    λ i. f (n i) (counts i)

-- as many bytes came as were answered
filled_count : (b l : Option (List ℕ)) (moved : Progress) (unread : List ℕ) → FillsSo b l moved unread → length unread ≡ moved_count moved
filled_count b l (Bytes n) unread h = h.1
filled_count b l Waits unread h = ap (λ bs. length bs) h.1
filled_count b l Interrupted unread h = ap (λ bs. length bs) h.1
filled_count b l Failed unread h = ap (λ bs. length bs) h.1

-- bytes are read
reads_on : (before left after had has still : Option (List ℕ)) (s : Serving) (old unread unwritten : List ℕ) (owed : Bool) (traffic : Traffic) (moved : Progress) → old ≡ []
    → Flow before left had has (record { serving = s; unread = old; unwritten = unwritten; owed = owed; traffic = traffic }) → FillsSo left after moved unread → Keeps has still
    → Flow before after had still (record { serving = s; unread = unread; unwritten = unwritten; owed = owed; traffic = and_read (length unread) traffic })
reads_on before left after had has still s old unread unwritten owed traffic moved nothing flow fills keeps =
    record {
      read = by_moved moved fills;
      written = flow.written;
      given = flow.given;
      out = Appends-kept had has still flow.written flow.out keeps;
      all_read = more_counted traffic.carried.read (length unread) (length (s.came ++ old)) (length (s.came ++ unread)) flow.all_read
          (length-append s.came unread ∙ ap (λ n. n + length unread) (sym (ap (λ x. length (s.came ++ x)) nothing ∙ ap (λ x. length x) (append-nil s.came))));
      all_written = flow.all_written;
      all_received = flow.all_received;
      all_sent = flow.all_sent;
      all_asked = flow.all_asked;
    }
  where
    came : Consumes before left s.came
    came = subst (Consumes before left) (ap (λ x. s.came ++ x) nothing ∙ append-nil s.came) flow.read

    none : Keeps left after → unread ≡ [] → Consumes before after (s.came ++ unread)
    none kept is = subst (λ x. Consumes before after (s.came ++ x)) (sym is) (subst (Consumes before after) (sym (append-nil s.came)) (Consumes-kept before left after s.came came kept))

    by_moved : (moved : Progress) → FillsSo left after moved unread → Consumes before after (s.came ++ unread)
    by_moved (Bytes n) h = Consumes-trans before left after s.came unread came h.0
    by_moved Waits h = none h.0 h.1
    by_moved Interrupted h = none h.0 h.1
    by_moved Failed h = none h.0 h.1

-- bytes are written
writes_on : (before left still had has wrote : Option (List ℕ)) (s : Serving) (unread old new : List ℕ) (owed : Bool) (traffic : Traffic) (moved : Progress)
    → Flow before left had has (record { serving = s; unread = unread; unwritten = old; owed = owed; traffic = traffic }) → EmptiesSo has wrote moved old new → Keeps left still
    → Flow before still had wrote (record { serving = s; unread = unread; unwritten = new; owed = owed; traffic = and_written (moved_count moved) (take (moved_count moved) old) traffic })
writes_on before left still had has wrote s unread old new owed traffic moved flow empties keeps = by_moved moved empties
  where
    came : Consumes before still (s.came ++ unread)
    came = Consumes-kept before left still (s.came ++ unread) flow.read keeps

    none : Keeps has wrote → new ≡ old → Flow before still had wrote (record { serving = s; unread = unread; unwritten = new; owed = owed; traffic = and_written 0 (take 0 old) traffic })
    none kept is = record {
      read = came;
      written = flow.written;
      given = flow.given ∙ ap (λ x. flow.written ++ x) (sym is);
      out = Appends-kept had has wrote flow.written flow.out kept;
      all_read = flow.all_read;
      all_written = more_counted traffic.carried.written 0 (length flow.written) (length flow.written) flow.all_written (omega arith);
      all_received = flow.all_received;
      all_sent = flow.all_sent;
      all_asked = flow.all_asked;
    }

    by_moved : (moved : Progress) → EmptiesSo has wrote moved old new → Flow before still had wrote (record { serving = s; unread = unread; unwritten = new; owed = owed; traffic = and_written (moved_count moved) (take (moved_count moved) old) traffic })
    by_moved (Bytes n) h = record {
      read = came;
      written = flow.written ++ take n old;
      given = flow.given ∙ ap (λ x. flow.written ++ x) (sym (ap (λ x. take n old ++ x) h.1 ∙ take-append-drop n old)) ∙ sym (append_assoc flow.written (take n old) new);
      out = Appends-trans had has wrote flow.written (take n old) flow.out h.0;
      all_read = flow.all_read;
      all_written = more_counted traffic.carried.written n (length flow.written) (length (flow.written ++ take n old)) flow.all_written
          (length-append flow.written (take n old) ∙ ap (λ k. length flow.written + k) (length-take-le n old h.2));
      all_received = flow.all_received;
      all_sent = ap (λ c. counted_on c (take n old)) flow.all_sent ∙ sym (counted_both none_counted flow.written (take n old));
      all_asked = flow.all_asked;
    }
    by_moved Waits h = none h.0 h.1
    by_moved Interrupted h = none h.0 h.1
    by_moved Failed h = none h.0 h.1

-- what a write removes from the front of what remains to be written
written_is : (had has : Option (List ℕ)) (moved : Progress) (old new : List ℕ) → EmptiesSo had has moved old new → drop (moved_count moved) old ≡ new
written_is had has (Bytes n) old new h = sym h.1
written_is had has Waits old new h = sym h.1
written_is had has Interrupted old new h = sym h.1
written_is had has Failed old new h = sym h.1

module _ {S T : Type 0} (holds : ℕ → Instance → S → Type 0) (remaining contents : T → Option (List ℕ)) where
  -- one part of a turn after another
  pub then_on : (P Q R : ClientState → Type 0) (a b d : Slot T) (ca cb cd : Cache S) → b.conn ≡ a.conn → GoesFrom holds remaining contents P a ca b cb Q → GoesFrom holds remaining contents Q b cb d cd R → GoesFrom holds remaining contents P a ca d cd R
  then_on P Q R a b d ca cb cd same f g m s before had stands is flow =
      let one = f m s before had stands is flow in
      let m' = with_conn a.conn.0 (Some one.now.conn) m in
      let stood : StandsSo holds m' a.conn.0 one.now cb = record {
        shows = one.shows;
        at = with_conn_at a.conn.0 (Some one.now.conn) m;
        now = ap (λ (x : ClientState). x.serving.cache) (sym one.leads) ∙ cache_is m.keep m.timing one.steps (client_of s a) ∙ stands.now;
      } in
      let two = subst (λ n. StandsSo holds m' n one.now cb → Q (client_of one.now b) → Flow before (remaining b.stream) had (contents b.stream) (client_of one.now b) → Goes holds remaining contents m' n before had (client_of one.now b) d cd R)
      (ap (λ (c : Number). c.0) same) (g m' one.now before had) stood one.so one.flow in
      record {
        steps = two.steps ++ one.steps;
        may = may_both m.keep m.timing two.steps one.steps (client_of s a) (subst (MaySteps m.keep m.timing two.steps) (sym one.leads) two.may) one.may;
        now = two.now;
        leads = after_both m.keep m.timing two.steps one.steps (client_of s a) ∙ ap (steps_after m.keep m.timing two.steps) one.leads ∙ two.leads;
        shows = set_twice holds m a.conn.0 (Some two.now.conn) (Some one.now.conn) (Some two.now.conn) cd refl two.shows;
        flow = two.flow;
        so = two.so;
      }

  -- what follows from what is so
  pub so_then : (P Q R : ClientState → Type 0) (a b : Slot T) (ca cb : Cache S) → ((s : Serving) → Q (client_of s b) → R (client_of s b)) → GoesFrom holds remaining contents P a ca b cb Q → GoesFrom holds remaining contents P a ca b cb R
  so_then P Q R a b ca cb f g m s before had stands is flow =
      let h = g m s before had stands is flow in
      record { steps = h.steps; may = h.may; now = h.now; leads = h.leads; shows = h.shows; flow = h.flow; so = f h.now h.so }

  -- whether the connection continues is stated of what it is then
  pub open_is : (P Q : ClientState → Type 0) (a b : Slot T) (ca cb : Cache S) (told : Bool) → b.conn ≡ a.conn → ((m : CacheState) → ShowsCache holds m cb → told ≡ is_open_at (m.at b.conn.0))
      → GoesFrom holds remaining contents P a ca b cb Q → GoesFrom holds remaining contents P a ca b cb (λ s. Q s × (told ≡ not s.serving.conn.state.ended))
  open_is P Q a b ca cb told same looks g m s before had stands is flow =
      let h = g m s before had stands is flow in
      let m' = with_conn a.conn.0 (Some h.now.conn) m in
      record {
        steps = h.steps;
        may = h.may;
        now = h.now;
        leads = h.leads;
        shows = h.shows;
        flow = h.flow;
        so = (h.so, looks m' h.shows ∙ ap (λ (c : Number). is_open_at (m'.at c.0)) same ∙ ap is_open_at (with_conn_at a.conn.0 (Some h.now.conn) m));
      }

  -- nothing is done
  pub stays : (P : ClientState → Type 0) (old : Slot T) (cache : Cache S) → GoesFrom holds remaining contents P old cache old cache P
  stays P old cache m s before had stands is flow = record { steps = []; may = tt; now = s; leads = refl; shows = set_same holds m old.conn.0 (Some s.conn) cache stands.at stands.shows; flow = flow; so = is }

  -- bytes are received
  pub takes : (old : Slot T) (rest : List ℕ) (traffic : Traffic) (cache after : Cache S) (count : ℕ) → 0 < length old.unread → rest ≡ drop count old.unread → traffic ≡ and_received (take count old.unread) old.traffic → AreBytes old.unread
      → ((m : CacheState) → ShowsCache holds m cache → TakesPiece holds m old.conn.0 old.unread count after)
      → GoesFrom holds remaining contents IsSettled old cache (record old { unread = rest; traffic = traffic }) after (λ s. count ≡ 0 → IsOver s)
  takes old rest traffic cache after count some rest_is traffic_is bytes took m s before had stands settled flow =
      let t = took m stands.shows in
      let same = sym stands.now in
      let unread = old.unread in
      let F : Conn → Conn = λ o. (conn_takes m.keep m.timing m.cache t.wanting unread o).machine.conn in
      let now : Serving = serve m.keep m.timing (Takes t.wanting unread) s in
      let left : ℕ → ClientState = λ n. record { serving = now; unread = drop n unread; unwritten = old.unwritten; owed = old.is_owed; traffic = and_received (take n unread) old.traffic } in
      let whole : List ℕ → Traffic → ClientState = λ bs t. record { serving = now; unread = bs; unwritten = old.unwritten; owed = old.is_owed; traffic = t } in
      let is : count ≡ consumed_of m.keep m.timing t.wanting unread s =
      t.result_is ∙ ap (conn_consumed t.wanting unread m) stands.at ∙ ap (λ i. length unread - length (conn_takes m.keep m.timing i t.wanting unread s.conn).rest) same in
      let whole_is : ((s.came ++ take (consumed_of m.keep m.timing t.wanting unread s) unread) ++ rest) ≡ s.came ++ unread =
      ap (λ x. (s.came ++ take (consumed_of m.keep m.timing t.wanting unread s) unread) ++ x) rest_is ∙ ap (λ n. (s.came ++ take n unread) ++ drop count unread) (sym is) ∙ append_assoc s.came (take count unread) (drop count unread)
      ∙ ap (λ x. s.came ++ x) (take-append-drop count unread) in
      record {
        steps = HandsIn t.wanting ∷ [];
        may = ((bytes, settled, subst (λ i. IfSome t.wanting (λ unit. is_wanted_by_peer m.keep m.timing i s.conn unread unit ≡ true)) same (subst (λ o. IfSome t.wanting (λ unit. is_wanted_at unread m o unit ≡ true)) stands.at t.wanted)), tt);
        now = now;
        leads = ap left (sym is) ∙ (λ i. whole (sym rest_is i) (sym traffic_is i));
        shows = set_known holds F m old.conn.0 s.conn now.conn after stands.at (ap (λ i. (conn_takes m.keep m.timing i t.wanting unread s.conn).machine.conn) same) t.shows;
        flow = record {
          read = subst (Consumes before (remaining old.stream)) (sym whole_is) flow.read;
          written = flow.written;
          given = flow.given;
          out = flow.out;
          all_read = ap (λ (x : Traffic). x.carried.read) traffic_is ∙ flow.all_read ∙ ap (λ x. capped (length x)) (sym whole_is);
          all_written = ap (λ (x : Traffic). x.carried.written) traffic_is ∙ flow.all_written;
          all_received = ap (λ (x : Traffic). x.received) traffic_is ∙ ap (λ c. counted_on c (take count unread)) flow.all_received ∙ sym (counted_both none_counted s.came (take count unread)) ∙ ap (λ n. counted (s.came ++ take n unread)) is;
          all_sent = ap (λ (x : Traffic). x.sent) traffic_is ∙ flow.all_sent;
          all_asked = ap (λ (x : Traffic). x.asked) traffic_is ∙ ap (λ first. first_byte first (take count unread)) flow.all_asked ∙ first_of_both s.came (take count unread) ∙ ap (λ n. slice_get (s.came ++ take n unread) 0) is;
        };
        so = λ none.
            let n = none_taken m.keep m.timing s.cache t.wanting unread s.conn settled.none_due (sym none ∙ is) in
            record { all_written = settled.all_written; none_due = ap (λ (o : Conn). o.state.due) n.0 ∙ settled.none_due; ended = ap (λ (o : Conn). o.state.ended) n.0 ∙ n.1 some };
      }

  -- what is due is pulled
  pub pulls : (old : Slot T) (new : List ℕ) (cache after : Cache S) → old.unwritten ≡ [] → ((m : CacheState) → ShowsCache holds m cache → PullsInto holds m old.conn.0 new after)
      → GoesFrom holds remaining contents Anyhow old cache (record old { unwritten = new }) after NoneDue
  pulls old new cache after nothing pulled m s before had stands is flow =
      let p = pulled m stands.shows in
      let now : Serving = serve m.keep m.timing (Gives p.most) s in
      let with_bytes : List ℕ → ClientState = λ bs. record { serving = now; unread = old.unread; unwritten = bs; owed = old.is_owed; traffic = old.traffic } in
      let bytes_are : new ≡ take p.most s.conn.state.due = p.bytes_are ∙ ap (λ a. take p.most (due_at a)) stands.at in
      record {
        steps = Pulls p.most ∷ [];
        may = ((nothing, p.room), tt);
        now = now;
        leads = ap with_bytes (sym bytes_are);
        shows = set_known holds (conn_pulled m.keep m.timing p.most) m old.conn.0 s.conn now.conn after stands.at refl p.shows;
        flow = record {
          read = flow.read;
          written = flow.written;
          given = ap (λ x. x ++ take p.most s.conn.state.due) (flow.given ∙ ap (λ x. flow.written ++ x) nothing ∙ append-nil flow.written) ∙ ap (λ x. flow.written ++ x) (sym bytes_are);
          out = flow.out;
          all_read = flow.all_read;
          all_written = flow.all_written;
          all_received = flow.all_received;
          all_sent = flow.all_sent;
          all_asked = flow.all_asked;
        };
        so = λ none. none_left m.keep m.timing p.most s.conn p.room.some (sym bytes_are ∙ none);
      }

  -- the router is notified, if it can be
  pub notifies : (old : Slot T) (sent : Bool) (cache after : Cache S) → old.unwritten ≡ [] → old.is_owed ≡ true
      → ((m : CacheState) → ShowsCache holds m cache → (sent ≡ can_notify_at m.cache (m.at old.conn.0)) × ShowsCache holds (notified old.conn.0 m) after)
      → GoesFrom holds remaining contents NoneDue old cache (record old { is_owed = not sent }) after (settles sent)
  notifies old sent cache after nothing owed told m s before had stands due flow =
      let n = told m stands.shows in
      let now : Serving = serve m.keep m.timing Notified s in
      let with_owed : Bool → ClientState = λ b. record { serving = now; unread = old.unread; unwritten = old.unwritten; owed = b; traffic = old.traffic } in
      let is : sent ≡ can_be_told s = n.0 ∙ ap (can_notify_at m.cache) stands.at ∙ ap (λ i. can_notify i s.conn) (sym stands.now) in
      record {
        steps = Notifies ∷ [];
        may = (owed, tt);
        now = now;
        leads = ap with_owed (ap (λ b. b && not (can_be_told s)) owed ∙ ap not (sym is));
        shows = set_known holds (conn_notified m.keep m.timing m.cache) m old.conn.0 s.conn now.conn after stands.at (ap (λ i. conn_notified m.keep m.timing i s.conn) (sym stands.now)) n.1;
        flow = record { read = flow.read; written = flow.written; given = flow.given; out = flow.out; all_read = flow.all_read; all_written = flow.all_written; all_received = flow.all_received; all_sent = flow.all_sent; all_asked = flow.all_asked };
        so = by_sent m.keep m.timing s sent is (due nothing);
      }
    where
      by_sent : (keep : ℕ) (t : Intervals) (s : Serving) (sent : Bool) → sent ≡ can_be_told s → s.conn.state.due ≡ [] → settles sent (record { serving = serve keep t Notified s; unread = old.unread; unwritten = old.unwritten; owed = not sent; traffic = old.traffic })
      by_sent keep t s true is none = refl
      by_sent keep t s false is none =
          let same = not_notified keep t s.cache s.conn (sym is) in
          record { all_written = nothing; none_due = ap (λ (o : Conn). o.state.due) same ∙ none; told = λ owed. ap (can_notify s.cache) same ∙ sym is }

  -- none is pending
  pub owes_nothing : (old : Slot T) (cache : Cache S) → old.unwritten ≡ [] → old.is_owed ≡ false → GoesFrom holds remaining contents NoneDue old cache old cache (settles false)
  owes_nothing old cache nothing owed =
      so_then NoneDue NoneDue (settles false) old old cache cache (λ s due. record { all_written = nothing; none_due = due nothing; told = λ is. false_true (sym owed ∙ is) }) (stays NoneDue old cache)

  -- a notify was sent, and is pulled
  pub after_notice : (old new : Slot T) (cache after : Cache S) → new.is_owed ≡ old.is_owed → GoesFrom holds remaining contents Anyhow old cache new after NoneDue → GoesFrom holds remaining contents (settles true) old cache new after MaySettle
  after_notice old new cache after same g m s before had stands is flow =
      let h = g m s before had stands tt flow in
      record { steps = h.steps; may = h.may; now = h.now; leads = h.leads; shows = h.shows; flow = h.flow; so = λ none. record { all_written = none; none_due = h.so none; told = λ it. false_true (sym (same ∙ is) ∙ it) } }

  -- bytes are read
  pub reads : (old : Slot T) (unread : List ℕ) (stream : T) (cache : Cache S) (moved : Progress) (within : Bool) (turn : Option Turn) → FillsSo (remaining old.stream) (remaining stream) moved unread → Keeps (contents old.stream) (contents stream)
      → ((m : CacheState) → ShowsCache holds m cache → within ≡ is_within (m.at old.conn.0)) → turn ≡ after_read moved within → length unread ≤ MAX_UNIT_LEN
      → (traffic : Traffic) → traffic ≡ and_read (moved_count moved) old.traffic
      → GoesFrom holds remaining contents IsIdle old cache (record old { stream = stream; unread = unread; traffic = traffic }) cache (GoesOrEnds turn (remaining stream))
  reads old unread stream cache moved within turn fills keeps looks turn_is room traffic traffic_is m s before had stands idle flow =
      record {
        steps = Reads unread ∷ [];
        may = ((idle, room), tt);
        now = s;
        leads = ap with_count so_counted;
        shows = set_same holds m old.conn.0 (Some s.conn) cache stands.at stands.shows;
        flow = subst (λ c. Flow before (remaining stream) had (contents stream) (with_count c)) so_counted
            (reads_on before (remaining old.stream) (remaining stream) had (contents old.stream) (contents stream) s old.unread unread old.unwritten old.is_owed old.traffic moved idle.all_consumed flow fills keeps);
        so = subst (λ o. GoesOrEnds o (remaining stream) now) (sym turn_is) (ends moved fills);
      }
    where
      with_count : Traffic → ClientState
      with_count c = record { serving = s; unread = unread; unwritten = old.unwritten; owed = old.is_owed; traffic = c }

      now : ClientState
      now = with_count traffic

      so_counted : and_read (length unread) old.traffic ≡ traffic
      so_counted = ap (λ n. and_read n old.traffic) (filled_count (remaining old.stream) (remaining stream) moved unread fills) ∙ sym traffic_is

      stays_idle : unread ≡ [] → IsIdle now
      stays_idle none = record { settled = record { all_written = idle.settled.all_written; none_due = idle.settled.none_due; told = idle.settled.told }; all_consumed = none; goes_on = idle.goes_on }

      is_held : within ≡ not (is_none s.conn.held)
      is_held = looks m stands.shows ∙ ap is_within stands.at

      at_end : (b : Bool) → b ≡ not (is_none s.conn.held) → unread ≡ [] → IsAtEnd (remaining stream) → EndsSo (Gone (if b then Truncated else PeerClosed)) (remaining stream) now
      at_end true is none over = (stays_idle none, some_held s.conn.held is, over)
      at_end false is none over = (stays_idle none, none_held s.conn.held is, over)

      by_zero : (n : ℕ) (b : Bool) → (n == 0) ≡ b → FillsSo (remaining old.stream) (remaining stream) (Bytes n) unread → GoesOrEnds (if b then Some (Gone (if within then Truncated else PeerClosed)) else None) (remaining stream) now
      by_zero n true is h = at_end within is_held (is_empty unread (h.1 ∙ eq_of n 0 is)) (h.2 (eq_of n 0 is))
      by_zero n false is h = tt

      ends : (moved : Progress) → FillsSo (remaining old.stream) (remaining stream) moved unread → GoesOrEnds (after_read moved within) (remaining stream) now
      ends (Bytes n) h = by_zero n (n == 0) refl h
      ends Waits h = stays_idle h.1
      ends Interrupted h = tt
      ends Failed h = stays_idle h.1

  -- what was written grows
  pub wrote_on : (To : ClientState → Type 0) (old new : Slot T) (cache : Cache S) → WritesFrom remaining contents IsToWrite old new To → GoesFrom holds remaining contents IsToWrite old cache new cache To
  wrote_on To old new cache f m s before had stands is flow =
      let h = f s before had is flow in
      record { steps = Writes h.count ∷ []; may = (is, tt); now = s; leads = h.leads; shows = set_same holds m old.conn.0 (Some s.conn) cache stands.at stands.shows; flow = h.flow; so = h.so }

-- bytes are written
pub writes : {T : Type 0} (remaining contents : T → Option (List ℕ)) (old : Slot T) (new : List ℕ) (stream : T) (moved : Progress) (turn : Option Turn) → EmptiesSo (contents old.stream) (contents stream) moved old.unwritten new
    → Keeps (remaining old.stream) (remaining stream) → turn ≡ after_write moved
    → (traffic : Traffic) → traffic ≡ and_written (moved_count moved) (take (moved_count moved) old.unwritten) old.traffic
    → WritesFrom remaining contents IsToWrite old (record old { stream = stream; unwritten = new; traffic = traffic }) (GoesOrEnds turn (remaining stream))
writes remaining contents old new stream moved turn empties keeps turn_is traffic traffic_is s before had some flow =
    record {
      count = moved_count moved;
      leads = ap (λ bs. with_both bs (and_written (moved_count moved) (take (moved_count moved) old.unwritten) old.traffic)) (written_is (contents old.stream) (contents stream) moved old.unwritten new empties) ∙ ap (with_both new) (sym traffic_is);
      flow = subst (λ c. Flow before (remaining stream) had (contents stream) (with_both new c)) (sym traffic_is)
          (writes_on before (remaining old.stream) (remaining stream) had (contents old.stream) (contents stream) s old.unread old.unwritten new old.is_owed old.traffic moved flow empties keeps);
      so = subst (λ o. GoesOrEnds o (remaining stream) (with_bytes new)) (sym turn_is) (ends moved empties);
    }
  where
    with_both : List ℕ → Traffic → ClientState
    with_both bs c = record { serving = s; unread = old.unread; unwritten = bs; owed = old.is_owed; traffic = c }

    with_bytes : List ℕ → ClientState
    with_bytes bs = with_both bs traffic

    still : new ≡ old.unwritten → 0 < length new
    still is = subst (λ (x : List ℕ). 0 < length x) (sym is) some

    by_zero : (n : ℕ) (b : Bool) → (n == 0) ≡ b → EmptiesSo (contents old.stream) (contents stream) (Bytes n) old.unwritten new → GoesOrEnds (if b then Some (Gone WriteFailed) else None) (remaining stream) (with_bytes new)
    by_zero n true is h = still (h.1 ∙ ap (λ k. drop k old.unwritten) (eq_of n 0 is))
    by_zero n false is h = tt

    ends : (moved : Progress) → EmptiesSo (contents old.stream) (contents stream) moved old.unwritten new → GoesOrEnds (after_write moved) (remaining stream) (with_bytes new)
    ends (Bytes n) h = by_zero n (n == 0) refl h
    ends Waits h = still h.1
    ends Interrupted h = tt
    ends Failed h = still h.1

-- What is pulled into a room
pub pulls_into : {S : Type 0} (holds : ℕ → Instance → S → Type 0) (m : CacheState) (c : ℕ) (out : List ℕ) (count : ℕ) (now : List ℕ) (new : Cache S) → IsRoom (length out) → GivesBytes holds m c out count now new
    → PullsInto holds m c (take (count - 0) (drop 0 now)) new
pulls_into holds m c out count now new room g =
    let e : count - 0 ≡ count = omega arith in record {
      most = length out;
      room = room;
      bytes_are = ap (λ n. take n now) e ∙ pulled_is (due_at (m.at c)) out count now _ g.gives;
      shows = g.shows;
    }

-- A small room that is there, or a large one, is one.
pub room_is : (small large : List ℕ) → 0 < length small → length small ≤ 32768 → length large ≤ 32768 → IsRoom (length (room_of small large))
room_is small large some fits more = by_test (length large == 0) refl
  where
    by_test : (b : Bool) → (length large == 0) ≡ b → IsRoom (length (if b then small else large))
    by_test true is = record { some = some; fits = fits }
    by_test false is = let n = not_eq_of (length large) 0 is in record { some = to_write large (λ none. n (ap (λ x. length x) none)); fits = more }
