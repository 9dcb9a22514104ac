-- A cache with one version, and its replies to one Reset Query (RFC 8210 sections 5.4 and 8.1).
use Rattle.std.specs.Prelude.{◌≡◌, ℕ, Bool, true, false, not, ◌&&◌, List, [], ◌∷◌, ◌++◌, Option, Some, None, Result, Ok, Err, IfOk, if◌then◌else◌, refl, ⊤}
use Rattle.std.proofs.Common.{sym, ap, ◌∙◌, subst, append-nil, arith, inl}
use Rattle.std.specs.List.{AllByRecursion}
use Rattle.vrps.specs.Instance.{Instance, IsInstance}
use Rattle.vrps.specs.Steps.{HoldsSteps, Steps}
use Rattle.vrps.specs.Stores.{Publishes}
use Rattle.vrps.specs.VrpSet.{IsVrpSet, VrpSet}
use Rattle.vrps.specs.declared.store.Published.{Published}
use Rattle.vrps.specs.declared.store.Published.TheVariants.{New, Unchanged}
use Rattle.rtr_pdu.specs.Judging.{Judgement, Begins, Whole, Faulty, judge}
use Rattle.rtr_pdu.specs.Stream.{NoBeginning, OneSplit, Shows, Splits, WrittenIsRead, as_read}
use Rattle.rtr_pdu.specs.Unit.{Reads}
use Rattle.rtr_pdu.specs.declared.unit.Unit.{Unit}
use Rattle.rtr_pdu.specs.declared.unit.Unit.TheVariants.{ResetQuery}
use Rattle.rtr_pdu.specs.declared.unit.UnitFault.{UnitFault}
use Rattle.rtr_pdu.specs.declared.unit.UnitFault.TheVariants as faults
use Rattle.rtr_pdu.specs.Version.{first_version, version_in}
use Rattle.rtr_pdu.specs.declared.version.Version.{Version}
use Rattle.rtr_pdu.specs.declared.version.Version.TheVariants.{V1}
use Rattle.rtr_ends.specs.Answer.{answer, sent, sent_all}
use Rattle.rtr_ends.specs.Cache.{ConnCall, Conn, Gives, IsServed, ServesHistory, Notifies, Publishes as Publication, Takes, Taking, and_moment, conn_byte, conn_stops, conn_takes, finds_memory, conn_moment_of, version_at}
use Rattle.rtr_ends.specs.CacheState.{CacheState, ShowsCache, without_conns}
use Rattle.rtr_ends.specs.Connection.{Connection, HistorySplits, IsHistory, ConnMoment, Read, Wanting, Fault, Notify, Pull, bytes_sent, conn_after, in_version, opened, replies_from, takes_memory, units_of}
use Rattle.rtr_ends.specs.Feeding.{FedPiece, feed}
use Rattle.rtr_ends.specs.ServeStream.{IsTurn, stood}
use Rattle.rtr_ends.specs.Timing.{Intervals, default_intervals}
use Rattle.rtr_ends.specs.declared.cache.Cache.{Cache}
use Rattle.feed.specs.Feed.{answer_bytes, cache_publishing}
use Rattle.feed.specs.Loopback.{GaveAt, StartsWithSet, publishing}
use Rattle.feed.proofs.Turns.{turns_are_calls}
use Rattle.feed.proofs.FrontUnits.{never_empty}
use Rattle.prefixes.proofs.Basics.{not_both, all_both}

abbrev empty_cache : Instance
empty_cache = record { session = 1; session0 = 1; start = 0; sets = [] }

is_instance : (set : VrpSet) → IsVrpSet set → IsInstance (cache_publishing set)
is_instance set fits = record { session = omega arith; session0 = omega arith; start = omega arith; sets = (fits, tt); news = tt }

-- The first set is published, whatever it is.
pub starts : (set : VrpSet) (cache : Cache Steps) (published : Published) → IsVrpSet set
    → Publishes (λ i now. ShowsCache HoldsSteps (record (without_conns 1 default_intervals empty_cache) { cache = i }) now) (Ok published) set empty_cache cache → StartsWithSet set cache
starts set cache (New number) fits h = record { is = is_instance set fits; shows = h.0 }
starts set cache Unchanged fits h = absurd (let e : false ≡ true = h.1 in cc)

-- ---- what happens is of this cache

abbrev IsOwn : Instance → ConnMoment → Type 0
IsOwn i (Read version cache unit bytes) = cache ≡ i
IsOwn i (Wanting version cache unit bytes) = cache ≡ i
IsOwn i (Fault version fault bytes) = ⊤
IsOwn i (Notify version cache held) = ⊥
IsOwn i (Pull count) = ⊤

module _ {M : Type 0} (stops : M → Bool) (step : M → ℕ → M) (P : M → Type 0) (keeps : (m : M) (b : ℕ) → P m → P (step m b)) where
  -- What each byte keeps is kept of a piece.
  pub feed_keeps : (m : M) (piece : List ℕ) → P m → P (feed stops step m piece).machine
  feed_keeps m [] h = h
  feed_keeps m (b ∷ piece) h = by_stop (stops m) (feed_keeps (step m b) piece (keeps m b h))
    where
      by : Bool → FedPiece M
      by s = elim s [ true ↦ record { machine = m; rest = b ∷ piece } | false ↦ feed stops step (step m b) piece ]

      by_stop : (s : Bool) → P (feed stops step (step m b) piece).machine → P (by s).machine
      by_stop true on = h
      by_stop false on = on

module _ (keep : ℕ) (t : Intervals) (i : Instance) where
  own_moment : (memory : Bool) (version : Version) (bytes : List ℕ) (j : Judgement) (ms : List ConnMoment) → AllByRecursion (IsOwn i) ms → AllByRecursion (IsOwn i) (and_moment ms (conn_moment_of i memory version bytes j))
  own_moment memory version bytes Begins ms h = h
  own_moment memory version bytes (Whole u) ms h = by_test (takes_memory version i u && not memory)
    where
      by_test : (b : Bool) → AllByRecursion (IsOwn i) (ms ++ (if b then Wanting version i u bytes else Read version i u bytes) ∷ [])
      by_test true = all_both (IsOwn i) ms _ h (refl, tt)
      by_test false = all_both (IsOwn i) ms _ h (refl, tt)
  own_moment memory version bytes (Faulty fault) ms h = all_both (IsOwn i) ms _ h (tt, tt)

  own_byte : (m : Taking) (b : ℕ) → AllByRecursion (IsOwn i) m.moments → AllByRecursion (IsOwn i) (conn_byte keep t i m b).moments
  unfolding conn_byte
  own_byte m b h = own_moment (finds_memory m.wanting) (version_at m.conn (b ∷ [])) (m.conn.held ++ b ∷ []) (judge (version_at m.conn (b ∷ [])) false (m.conn.held ++ b ∷ [])) m.moments h

  own_piece : (wanting : Option ℕ) (piece : List ℕ) (o : Conn) → AllByRecursion (IsOwn i) (conn_takes keep t i wanting piece o).machine.moments
  unfolding conn_takes
  own_piece wanting piece o = feed_keeps (λ (m : Taking). conn_stops m.conn) (conn_byte keep t i) (λ m. AllByRecursion (IsOwn i) m.moments) own_byte (record { conn = o; moments = []; wanting = wanting }) piece tt

module _ (m : CacheState) where
  -- A stream publishes nothing, and notifies no router.
  own_calls : (calls : List ConnCall) → AllByRecursion IsTurn calls → ((stood m calls).cache ≡ m.cache) × AllByRecursion (IsOwn m.cache) (stood m calls).moments
  own_calls [] h = (refl, tt)
  own_calls (Publication set ∷ calls) h = absurd h.0
  own_calls (Takes wanting piece ∷ calls) h =
      let so_far = own_calls calls h.1 in
      (so_far.0, all_both (IsOwn m.cache) (stood m calls).moments _ so_far.1 (subst (λ i. AllByRecursion (IsOwn i) (conn_takes m.keep m.timing (stood m calls).cache wanting piece (stood m calls).conn).machine.moments) so_far.0 (own_piece m.keep m.timing (stood m calls).cache wanting piece (stood m calls).conn)))
  own_calls (Gives most ∷ calls) h =
      let so_far = own_calls calls h.1 in
      (so_far.0, all_both (IsOwn m.cache) (stood m calls).moments _ so_far.1 (tt, tt))
  own_calls (Notifies ∷ calls) h = absurd h.0

-- ---- the replies to one Reset Query

-- A query is split into itself.
query_splits : WrittenIsRead → Splits V1 false (sent V1 ResetQuery) (ResetQuery ∷ []) [] None
unfolding as_read
query_splits written = record { front = sent V1 ResetQuery; whole = refl; read = (sent V1 ResetQuery, [], refl, written V1 ResetQuery tt refl, refl); after = (refl, inl (omega arith)) }

-- No fault shows if there are no bytes.
shows_nothing : (version : Version) (fault : UnitFault) → Shows version [] fault → ⊥
shows_nothing version faults.Version h = cc
shows_nothing version faults.«Type» h = cc
shows_nothing version faults.Length h = cc
shows_nothing version faults.TooLong h = cc
shows_nothing version faults.Record h = omega (arith, h.0.1)
shows_nothing version faults.ErrorReport h = omega (arith, h.0.1)
shows_nothing version faults.Truncated h = h

front_none : (front back : List ℕ) → [] ≡ front ++ back → (front ≡ []) × (back ≡ [])
front_none [] back e = (refl, sym e)
front_none (b ∷ front) back e = cc

module _ (apart : NoBeginning) (written : WrittenIsRead) (keep : ℕ) (t : Intervals) (i : Instance) where
  -- After its end a connection reads nothing.
  ended_reads_none : (c : Connection) (moments : List ConnMoment) (bytes : List ℕ) → c.ended ≡ true → IsHistory keep t c moments bytes → units_of moments ≡ []
  ended_reads_none c [] bytes ended h = refl
  ended_reads_none c (Pull count ∷ later) bytes ended h = ended_reads_none (conn_after keep t c (Pull count)) later h.1.0 ended h.1.2
  ended_reads_none c (Read version cache unit came ∷ later) bytes ended h = absurd (not_both c.ended ended h.0.0)
  ended_reads_none c (Wanting version cache unit came ∷ later) bytes ended h = absurd (not_both c.ended ended h.0.0)
  ended_reads_none c (Fault version fault came ∷ later) bytes ended h = absurd (not_both c.ended ended h.0.0)
  ended_reads_none c (Notify version cache held ∷ later) bytes ended h = absurd (not_both c.ended ended h.0.0)

  -- Without bytes nothing is replied.
  nothing_more : (agreed : Option Version) (c : Connection) (moments : List ConnMoment) → AllByRecursion (IsOwn i) moments → IsHistory keep t c moments [] → replies_from keep t agreed moments ≡ []
  nothing_more agreed c [] own h = refl
  nothing_more agreed c (Pull count ∷ later) own h =
      nothing_more agreed (conn_after keep t c (Pull count)) later own.1 (subst (λ b. IsHistory keep t (conn_after keep t c (Pull count)) later b) (front_none [] h.1.0 h.1.1).1 h.1.2)
  nothing_more agreed c (Read version cache unit came ∷ later) own h = absurd (never_empty apart written version unit (subst (λ b. Reads version unit b) (front_none came h.1.0 h.1.1).0 h.0.4.1))
  nothing_more agreed c (Wanting version cache unit came ∷ later) own h = absurd (never_empty apart written version unit (subst (λ b. Reads version unit b) (front_none came h.1.0 h.1.1).0 h.0.4.1))
  nothing_more agreed c (Fault version fault came ∷ later) own h = absurd (shows_nothing version fault (subst (λ b. Shows version b fault) (front_none came h.1.0 h.1.1).0 h.0.4.1))
  nothing_more agreed c (Notify version cache held ∷ later) own h = absurd own.0

  first_of : (u v : Unit) (us vs : List Unit) → u ∷ us ≡ v ∷ vs → u ≡ v
  first_of u v us vs e = cc

  -- What begins a PDU of version 1 is of it.
  begins_1 : (came rest more : List ℕ) → came ++ rest ≡ 1 ∷ more → (came ≡ [] → ⊥) → first_version came ≡ V1
  begins_1 [] rest more e some = absurd (some refl)
  begins_1 (b ∷ came) rest more e some = let one : b ≡ 1 = cc in ap (λ x. first_version (x ∷ came)) one

  -- One Reset Query is replied to, and nothing else.
  one_reply : (c : Connection) (moments : List ConnMoment) → c.version ≡ None → AllByRecursion (IsOwn i) moments → IsHistory keep t c moments (sent V1 ResetQuery) → units_of moments ≡ ResetQuery ∷ []
      → replies_from keep t None moments ≡ in_version V1 (answer V1 i keep t ResetQuery).units
  one_reply c [] new own h units = cc
  one_reply c (Pull count ∷ later) new own h units =
      one_reply (conn_after keep t c (Pull count)) later new own.1 (subst (λ b. IsHistory keep t (conn_after keep t c (Pull count)) later b) (sym h.1.1) h.1.2) units
  one_reply c (Read version cache unit came ∷ later) new own h units =
      let some : came ≡ [] → ⊥ = λ e. never_empty apart written version unit (subst (λ b. Reads version unit b) e h.0.4.1) in
      let spoken : version ≡ V1 = h.0.4.0 ∙ ap (λ a. version_in a came) new ∙ begins_1 came h.1.0 _ (sym h.1.1) some in
      let is : unit ≡ ResetQuery = first_of unit ResetQuery (units_of later) [] units in
      let rest : h.1.0 ≡ [] = (apart V1 unit ResetQuery came (sent V1 ResetQuery) h.1.0 [] (subst (λ v. Reads v unit came) spoken h.0.4.1) (written V1 ResetQuery tt refl) (sym h.1.1)).1 in
      let none : replies_from keep t (Some version) later ≡ [] = nothing_more (Some version) (conn_after keep t c (Read version cache unit came)) later own.1 (subst (λ b. IsHistory keep t (conn_after keep t c (Read version cache unit came)) later b) rest h.1.2) in
      ap (λ l. in_version version (answer version cache keep t unit).units ++ (if (answer version cache keep t unit).goes_on then l else [])) none
      ∙ (λ j. in_version (spoken j) (answer (spoken j) (own.0 j) keep t (is j)).units ++ (if (answer (spoken j) (own.0 j) keep t (is j)).goes_on then [] else []))
      ∙ append-nil (in_version V1 (answer V1 i keep t ResetQuery).units)
  one_reply c (Wanting version cache unit came ∷ later) new own h units =
      let is : unit ≡ ResetQuery = first_of unit ResetQuery (units_of later) [] units in
      absurd (let e : false ≡ true = subst (λ u. takes_memory version cache u ≡ true) is h.0.4.2 in cc)
  one_reply c (Fault version fault came ∷ later) new own h units =
      let none : units_of later ≡ [] = ended_reads_none (conn_after keep t c (Fault version fault came)) later h.1.0 refl h.1.2 in
      absurd (let e : [] ≡ ResetQuery ∷ [] = sym none ∙ units in cc)
  one_reply c (Notify version cache held ∷ later) new own h units = absurd own.0

-- ---- the connection

module _ (apart : NoBeginning) (written : WrittenIsRead) (one_split : OneSplit) (history_splits : HistorySplits) (serves : ServesHistory) where
  -- If nothing is due, what was pulled is the answer.
  pub answered : (set : VrpSet) (c : ℕ) (wire : List ℕ) (cache : Cache Steps) (g : GaveAt set c wire cache) → IsInstance (cache_publishing set) → (stood (publishing set) g.calls).conn.state.due ≡ [] → wire ≡ answer_bytes set
  unfolding answer_bytes
  answered set c wire cache g is none =
      let m : CacheState = publishing set in
      let v : IsServed 1 default_intervals (cache_publishing set) (stood m g.calls) = serves 1 default_intervals (cache_publishing set) g.calls is (turns_are_calls g.calls g.turns) in
      let history : IsHistory 1 default_intervals (opened (cache_publishing set)) (stood m g.calls).moments (sent V1 ResetQuery) = subst (λ b. IsHistory 1 default_intervals (opened (cache_publishing set)) (stood m g.calls).moments b) g.query v.history in
      let split = history_splits 1 default_intervals (cache_publishing set) (stood m g.calls).moments (sent V1 ResetQuery) history in
      let units : units_of (stood m g.calls).moments ≡ ResetQuery ∷ [] = (one_split V1 false (sent V1 ResetQuery) (units_of (stood m g.calls).moments) (ResetQuery ∷ []) split.0 [] split.1 None split.2 (query_splits written)).units_are in
      let replied = one_reply apart written 1 default_intervals (cache_publishing set) (opened (cache_publishing set)) (stood m g.calls).moments refl (own_calls m g.calls g.turns).1 history units in
      sym g.given ∙ sym (append-nil (stood m g.calls).given) ∙ ap (λ d. (stood m g.calls).given ++ d) (sym none) ∙ v.replies ∙ ap bytes_sent (replied ∙ sym (append-nil (in_version V1 (answer V1 (cache_publishing set) 1 default_intervals ResetQuery).units)))

-- what is sent in one version
pub sent_in : (version : Version) (units : List Unit) → bytes_sent (in_version version units) ≡ sent_all version units
sent_in version [] = refl
sent_in version (u ∷ units) = ap (λ x. sent version u ++ x) (sent_in version units)

-- What is known of a value is stated otherwise.
pub if_ok : {A E : Type 0} (r : Result A E) (P Q : A → Type 0) → ((a : A) → P a → Q a) → IfOk r P → IfOk r Q
if_ok (Ok a) P Q f h = f a h
if_ok (Err e) P Q f h = h
