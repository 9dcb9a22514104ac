-- What the cache reads and sends keeps the invariant.
use Rattle.rtr_world.proofs.Words.{◌≡◌, ◌⊎◌, ℕ, ◌+◌, Bool, true, false, not, ◌&&◌, ◌||◌, nat_lt, List, [], ◌∷◌, ◌++◌, length, Option, Some, None, IsSome, if◌then◌else◌, refl, AllByRecursion, list_any, sym, ap, ◌∙◌, subst, subst₂, arith, inl, inr, and_parts, or_parts, nat_tests, append-nil, length-append, list_any-append, Instance, versions, versions_from, VrpSet, Version, V1, Judgement, Whole, judge, IsUnitOf, first_version, header_version, Unit, answer, report, sent_all, session_in, Conn, Taking, and_moment, is_none, conn_stops, conn_moment_of, with_moment, counted, finds_memory, conn_byte, can_notify, conn_notified, speaks_in, version_at, Connection, ConnMoment, Read, Wanting, Notify, conn_after, notice, is_published, spoken_in, takes_memory, Sent, in_version, feed, Router, Link, Closed, Asked, Ended, is_reading, Question, query, base_of, of_version, false_true, either, nothing_out, feed_keeps, all_both, false_of_not, true_of_not}
use Rattle.rtr_world.specs.OneAnswer.{IsOfNow, NotifiesOf, OwnNotifies, units_in, without_notifies}
use Rattle.rtr_world.specs.World.{is_read, timing}
use Rattle.rtr_world.proofs.RouterCases.{none_counted}
use Rattle.rtr_world.proofs.AnswerLaws.{plain_stays, plain_notifies, without-append}
use Rattle.rtr_world.proofs.CacheSteps.{from_now, is_now, IsAnswered, answered_report, answer_answers, serial_low, session_low}
use Rattle.rtr_world.proofs.Invariant.{OneReply, QuestionFits, Replies, no_memory, Shape, IsEarly, Open, Unheard, Flow, Live, GoodLink, GoodRouter}
use Rattle.rtr_world.proofs.UnitsAtRouters.{live_link}
use Rattle.rtr_world.proofs.SentLaws.{early_notice, early_own, own-append, units_more}
use Rattle.rtr_world.proofs.SideSteps.{live_of}
use Rattle.rtr_world.proofs.UnitStreams.{MaySpeak, Stream, byte_version, held_version, ByteCase, first_in, head_is, partly, tail_is, wholly, one_case, stream-append, all_bytes}
use Rattle.rtr_world.proofs.Versions.{Present, held_at, Seen, reads_now, seen_after}

-- A link that does not live asks for nothing, and does not look at what was seen.
dead_link : (l : Link) (all : List Instance) (i : Instance) (home home' : Option Seen) (r : Router) (conn conn' : Option Conn) (up up' down down' : List ℕ) → is_reading l ≡ false → GoodLink all i home l r conn up down → GoodLink all i home' l r conn' up' down'
dead_link Closed all i home home' r conn conn' up up' down down' dead g = g
dead_link (Ended end) all i home home' r conn conn' up up' down down' dead g = g
dead_link _ all i home home' r conn conn' up up' down down' dead g = false_true (sym dead)

-- PDUs are added at the cache's end, if nothing was pending
more_bytes : (down due lost sent : List ℕ) → due ≡ [] → lost ≡ [] → (down ++ (due ++ lost)) ++ sent ≡ down ++ (sent ++ lost)
more_bytes down due lost sent de le =
    ap (λ x. (down ++ (x ++ lost)) ++ sent) de ∙ ap (λ x. (down ++ x) ++ sent) le ∙ ap (λ x. x ++ sent) (append-nil down) ∙ ap (λ x. down ++ x) (sym (append-nil sent) ∙ ap (λ x. sent ++ x) (sym le))

stream_more : (pv : Version) (held down due lost : List ℕ) (coming : List Sent) (units : List Unit) → due ≡ [] → lost ≡ [] → AllByRecursion (IsUnitOf pv) units → Stream held (down ++ (due ++ lost)) coming → Stream held (down ++ (sent_all pv units ++ lost)) (coming ++ in_version pv units)
stream_more pv held down due lost coming units de le fit s =
    subst (λ x. Stream held x (coming ++ in_version pv units)) (more_bytes down due lost (sent_all pv units) de le) (stream-append pv held (down ++ (due ++ lost)) coming units s fit)

-- If a header is not whole with the next byte, it was not before.
unheard_more : (agreed : Option Version) (held more : List ℕ) (home : Instance) (coming : List Sent) (agrees : Bool) → Unheard (header_version agreed held) home coming agrees → Unheard (header_version agreed (held ++ more)) home coming agrees
unheard_more (Some version) held more home coming agrees u = tt
unheard_more None held more home coming agrees u = by_length (nat_lt (length (held ++ more)) 8) refl
  where
    shorter : (n m k : ℕ) → k ≡ n + m → nat_lt k 8 ≡ true → nat_lt n 8 ≡ true
    shorter n m k e h = grind (arith, nat_tests)

    by_length : (b : Bool) → nat_lt (length (held ++ more)) 8 ≡ b → Unheard (if b then None else Some (first_version (held ++ more))) home coming agrees
    by_length true e = subst (λ b. Unheard (if b then None else Some (first_version held)) home coming agrees) (shorter (length held) (length more) (length (held ++ more)) (length-append held more) e) u
    by_length false e = tt

-- a PDU was read at this moment, if there is one
abbrev moment_reads : Option ConnMoment → Bool
moment_reads None = false
moment_reads (Some m) = is_read m

-- the moment that a byte brings
abbrev brings : Instance → Taking → ℕ → Option ConnMoment
brings i m b = conn_moment_of i (finds_memory m.wanting) (version_at m.conn (b ∷ [])) (m.conn.held ++ b ∷ []) (judge (version_at m.conn (b ∷ [])) false (m.conn.held ++ b ∷ []))

module _ (all : List Instance) (i : Instance) (p : Present all i) (keep : ℕ) (home : Option Seen) (keeps : (h : Seen) → home ≡ Some h → h.keep ≡ keep) (r : Router) (down : List ℕ) where
  -- What the router waits for, once the cache has read its question whole
  record IsWhole (h : Seen) (q : Question) (coming : List Unit) (up : List ℕ) : Type 0 where
    asks : r.link ≡ Asked q
    none : without_notifies coming ≡ []
    fits : QuestionFits h.session q (of_version r.spoken r.version)
    out : Stream [] (up ++ r.out) []

  whole_question : (h : Seen) (l : Link) (u : Unit) (more coming : List Unit) → r.link ≡ l → is_reading l ≡ true → Shape all r.spoken h l r.agreed r.version r.table (u ∷ more) (without_notifies coming)
      → (q : Question) × (u ≡ query q) × ((up : List ℕ) → Stream [] (up ++ r.out) (in_version r.spoken more) → IsWhole h q coming up)
  whole_question h Closed u more coming is live s = false_true live
  whole_question h (Ended end) u more coming is live s = false_true live
  whole_question h (Asked q) u more coming is live s =
      elim (s.1) [
        | inl w ↦ (
            let e : u ∷ more ≡ query q ∷ [] = w.0 in
            (q, head_is u (query q) more [] e, λ up out. record { asks = is; none = w.1; fits = s.0; out = subst (λ x. Stream [] (up ++ r.out) (in_version r.spoken x)) (tail_is u (query q) more [] e) out }))
        | inr w ↦ absurd (let e : u ∷ more ≡ [] = w.0 in cc)
      ]
  whole_question h _ u more coming is live s = absurd (let e : u ∷ more ≡ [] = s.0 in cc)

  -- The cache has read the question, and these PDUs are the answer.
  answered : (o : Conn) (up bs : List ℕ) (h : Seen) (f : Flow all i h r (Some o) up down) (q : Question) (units : List Unit) (st : Connection) → st.version ≡ Some r.spoken → o.state.due ≡ [] → st.due ≡ sent_all r.spoken units → IsWhole h q (units_in f.coming) bs → IsAnswered r.spoken units
      → Replies all r.spoken (record h { read = Some i }) q (base_of q r.table) units → OneReply all r.spoken (record h { read = Some i }) q units → Live all i (Some (record h { read = Some i })) r (Some (record { state = st; held = [] })) bs down
  answered o up bs h f q units st spoken eo due w is replies one =
      let op : Open i r.spoken h r.out up f.wanted f.coming r.agreed f.lost o = f.open_at in
      let whole : without_notifies (units_in (f.coming ++ in_version r.spoken units)) ≡ units =
      ap without_notifies (units_more r.spoken f.coming units) ∙ without-append (units_in f.coming) units ∙ ap (λ x. x ++ without_notifies units) w.none ∙ plain_stays units is.plain in (
        record h { read = Some i },
        refl,
        record {
          said = record {
            wanted = [];
            coming = f.coming ++ in_version r.spoken units;
            version = f.version;
            session = f.session;
            notifies = own-append r.agreed r.spoken h.made f.coming units f.notifies (plain_notifies (session_in r.spoken h.made) units is.plain);
            own = f.own;
            mine = f.mine;
            shape = subst₂ (λ x y. Shape all r.spoken (record h { read = Some i }) x r.agreed r.version r.table [] y) (sym w.asks) (sym whole) (w.fits, inr (refl, replies, one));
          };
          lost = f.lost;
          downward = subst (λ x. Stream r.held (down ++ (x ++ f.lost)) (f.coming ++ in_version r.spoken units)) (sym due) (stream_more r.spoken r.held down o.state.due f.lost f.coming units eo op.whole is.fit f.downward);
          open_at = record {
            upward = w.out;
            spoken = subst (MaySpeak r.spoken) (sym spoken) refl;
            unheard = subst (λ v. Unheard (header_version v []) h.made (f.coming ++ in_version r.spoken units) r.agreed) (sym spoken) tt;
            linked = record { whole = op.whole; session = op.session; made = op.made; later = op.later };
          };
        },
      )

  -- A byte is kept, or the question is whole with it: then memory runs out, or it is answered.
  conn_by : (P : Option ConnMoment → Conn → Type 0) (m : Taking) (b : ℕ) (bs : List ℕ) (h : Seen) (f : Flow all i h r (Some m.conn) (b ∷ bs) down) → is_reading r.link ≡ true → let bytes : List ℕ = m.conn.held ++ b ∷ [] in
      (Stream bytes (bs ++ r.out) (in_version r.spoken f.wanted) → P None (record m.conn { held = bytes }))
      → ((q : Question) → IsWhole h q (units_in f.coming) bs → takes_memory r.spoken i (query q) ≡ true → not (finds_memory m.wanting) ≡ true → let x : ConnMoment = Wanting r.spoken i (query q) bytes in P (Some x) (record { state = conn_after keep timing m.conn.state x; held = [] }))
      → ((q : Question) → IsWhole h q (units_in f.coming) bs → let x : ConnMoment = Read r.spoken i (query q) bytes in P (Some x) (record { state = conn_after keep timing m.conn.state x; held = [] }))
      → P (brings i m b) (conn_byte keep timing i m b).conn
  unfolding conn_byte
  conn_by P m b bs h f live part lack read =
      subst (λ v. P (conn_moment_of i memory v bytes (judge v false bytes)) (with_moment keep timing bytes m.conn (conn_moment_of i memory v bytes (judge v false bytes))))
      (sym (byte_version r.spoken m.conn.state.version m.conn.held b (bs ++ r.out) f.wanted f.open_at.spoken f.open_at.upward)) (by_case (one_case r.spoken false m.conn.held b (bs ++ r.out) f.wanted f.open_at.upward))
    where
      bytes : List ℕ
      bytes = m.conn.held ++ b ∷ []

      memory : Bool
      memory = finds_memory m.wanting

      Judged : Judgement → Type 0
      Judged j = P (conn_moment_of i memory r.spoken bytes j) (with_moment keep timing bytes m.conn (conn_moment_of i memory r.spoken bytes j))

      by_case : ByteCase r.spoken false m.conn.held b (bs ++ r.out) (in_version r.spoken f.wanted) → Judged (judge r.spoken false bytes)
      by_case (partly e s) = subst Judged (sym e) (part s)
      by_case (wholly x more is e s) =
          let first = first_in r.spoken f.wanted x more is in
          let w = whole_question h r.link x.unit first.rest (units_in f.coming) refl live (subst (λ y. Shape all r.spoken h r.link r.agreed r.version r.table y (without_notifies (units_in f.coming))) first.is f.shape) in
          let whole = w.2 bs (subst (Stream [] (bs ++ r.out)) first.more_is s) in
          subst Judged (sym e) (subst (λ u. Judged (Whole u)) (sym w.1)
          (either (λ x. P (Some x) (record { state = conn_after keep timing m.conn.state x; held = [] })) (takes_memory r.spoken i (query w.0) && not memory) (Wanting r.spoken i (query w.0) bytes) (Read r.spoken i (query w.0) bytes)
          (λ t. let parts = and_parts (takes_memory r.spoken i (query w.0)) (not memory) t in lack w.0 whole parts.0 parts.1) (λ t. read w.0 whole)))

  abbrev GoodC : Conn → List ℕ → Type 0
  GoodC o up = GoodRouter all i home (Some o) up down r

  byte_good : (m : Taking) (b : ℕ) (bs : List ℕ) → conn_stops m.conn ≡ false → GoodC m.conn (b ∷ bs) → GoodRouter all i (seen_after i (moment_reads (brings i m b)) home) (Some (conn_byte keep timing i m b).conn) bs down r
  byte_good m b bs on g = record { table = g.table; unmarked = g.unmarked; config = g.config; link = by_link (is_reading r.link) refl }
    where
      by_link : (live : Bool) → is_reading r.link ≡ live → GoodLink all i (seen_after i (moment_reads (brings i m b)) home) r.link r (Some (conn_byte keep timing i m b).conn) bs down
      by_link false dead = dead_link r.link all i home (seen_after i (moment_reads (brings i m b)) home) r (Some m.conn) (Some (conn_byte keep timing i m b).conn) (b ∷ bs) bs down down dead g.link
      by_link true live =
          live_link all i (seen_after i (moment_reads (brings i m b)) home) (Some (conn_byte keep timing i m b).conn) bs down r r.link refl live
          (conn_by (λ came o. Live all i (seen_after i (moment_reads came) home) r (Some o) bs down) m b bs l.0 l.2 live
          (λ s. (
            l.0,
            l.1,
            record {
              said = l.2.said;
              lost = l.2.lost;
              downward = l.2.downward;
              open_at = record { upward = s; spoken = op.spoken; unheard = unheard_more m.conn.state.version m.conn.held (b ∷ []) l.0.made l.2.coming r.agreed op.unheard; linked = op.linked };
            },
          ))
          (λ q w takes wants. seen _
          (answered m.conn (b ∷ bs) bs l.0 l.2 q (report 1 [] ∷ []) (conn_after keep timing m.conn.state (Wanting r.spoken i (query q) (m.conn.held ++ b ∷ []))) refl due refl w (answered_report r.spoken 1 [] (omega arith) (all_bytes [] tt)) (no_memory refl)
          (inr (record { cache = i; was = is_now all i p r.spoken k op.session op.made op.later refl; takes = takes }, refl))))
          (λ q w.
          let a = answer_answers all i p r.spoken k op.session op.made keep q (of_version r.spoken r.version) r.table w.fits (held_at all r.spoken r.version r.table g.table) (from_now all i p r.spoken k op.session op.made q keep (keeps l.0 l.1) op.later refl) in
          seen _ (answered m.conn (b ∷ bs) bs l.0 l.2 q (answer r.spoken i keep timing (query q)).units (conn_after keep timing m.conn.state (Read r.spoken i (query q) (m.conn.held ++ b ∷ []))) refl due refl w a.answered a.replies (inl a.from))))
        where
          due : m.conn.state.due ≡ []
          due = nothing_out m.conn.state.due (true_of_not (is_none m.conn.state.due) (or_parts m.conn.state.ended (not (is_none m.conn.state.due)) on).1)

          l : Live all i home r (Some m.conn) (b ∷ bs) down
          l = live_of r.link all i home r (Some m.conn) (b ∷ bs) down g.link live

          op : Open i r.spoken l.0 r.out (b ∷ bs) l.2.wanted l.2.coming r.agreed l.2.lost m.conn
          op = l.2.open_at

          k : Seen
          k = record (l.0) { read = Some i }

          seen : (o : Conn) → Live all i (Some k) r (Some o) bs down → Live all i (reads_now i home) r (Some o) bs down
          seen o h = subst (λ x. Live all i x r (Some o) bs down) (sym (ap (reads_now i) l.1)) h

  -- What is due then is what was, or the answer to the question as the cache is now.
  abbrev pub DueNow : List ℕ → Option ℕ → Conn → Type 0
  DueNow old wanting o = (o.state.due ≡ old) ⊎ IsOfNow r.spoken i keep wanting r.link o.state.due

  -- Memory runs out only if the event says so.
  some_wants : (wanting now : Option ℕ) → (wanting ≡ None → now ≡ None) → not (finds_memory now) ≡ true → IsSome wanting
  some_wants (Some unit) now same lacks = refl
  some_wants None now same lacks = absurd (let e : false ≡ true = ap (λ x. not (finds_memory x)) (sym (same refl)) ∙ lacks in cc)

  byte_counts : (wanting : Option ℕ) (m : Taking) (b : ℕ) → (wanting ≡ None → m.wanting ≡ None) → wanting ≡ None → (conn_byte keep timing i m b).wanting ≡ None
  unfolding conn_byte
  byte_counts wanting m b same none =
      ap (counted (judge (version_at m.conn (b ∷ [])) false (m.conn.held ++ b ∷ []))) (same none) ∙ none_counted (judge (version_at m.conn (b ∷ [])) false (m.conn.held ++ b ∷ []))

  byte_now : (old : List ℕ) (wanting : Option ℕ) (m : Taking) (b : ℕ) (bs : List ℕ) → is_reading r.link ≡ true → (wanting ≡ None → m.wanting ≡ None) → GoodC m.conn (b ∷ bs) → DueNow old wanting m.conn → DueNow old wanting (conn_byte keep timing i m b).conn
  byte_now old wanting m b bs live same g now =
      let l = live_of r.link all i home r (Some m.conn) (b ∷ bs) down g.link live in
      conn_by (λ came o. DueNow old wanting o) m b bs l.0 l.2 live (λ s. now)
      (λ q w takes wants. inr (subst (λ x. IsOfNow r.spoken i keep wanting x (sent_all r.spoken (report 1 [] ∷ []))) (sym w.asks) (inr (some_wants wanting m.wanting same wants, takes, refl))))
      (λ q w. inr (subst (λ x. IsOfNow r.spoken i keep wanting x (sent_all r.spoken (answer r.spoken i keep timing (query q)).units)) (sym w.asks) (inl refl)))

  -- a notify
  notice_fit : (pv : Version) (sets : List VrpSet) → AllByRecursion (IsUnitOf pv) (notice (session_in pv i) (versions_from i.start sets))
  notice_fit pv [] = tt
  notice_fit pv (x ∷ older) = (((session_low pv i p.is, serial_low i.start (length older)), refl), tt)

  notice_silent : (session : ℕ) (sets : List VrpSet) → without_notifies (notice session (versions_from i.start sets)) ≡ []
  notice_silent session [] = refl
  notice_silent session (x ∷ older) = refl

  notice_own : (session one : ℕ) → session ≡ one → (sets : List VrpSet) → NotifiesOf session (notice one (versions_from i.start sets))
  notice_own session one e [] = tt
  notice_own session one e (x ∷ older) = (sym e, tt)

  -- the connection, notified in this version
  abbrev told : Conn → Version → Conn
  told o v = record o { state = conn_after keep timing o.state (Notify v i o.held) }

  -- It lives, if the notify may come.
  notified_live : (o : Conn) (up : List ℕ) (v : Version) (h : Seen) (f : Flow all i h r (Some o) up down) → home ≡ Some h → o.state.due ≡ [] → let now : List Sent = f.coming ++ in_version v (notice (session_in v i) (versions i)) in
      OwnNotifies r.agreed r.spoken h.made now → Unheard (header_version o.state.version o.held) h.made now r.agreed → Live all i home r (Some (told o v)) up down
  notified_live o up v h f eh due own unheard =
      let op : Open i r.spoken h r.out up f.wanted f.coming r.agreed f.lost o = f.open_at in
      let units : List Unit = notice (session_in v i) (versions i) in
      let whole : without_notifies (units_in (f.coming ++ in_version v units)) ≡ without_notifies (units_in f.coming) =
      ap without_notifies (units_more v f.coming units) ∙ without-append (units_in f.coming) units ∙ ap (λ x. without_notifies (units_in f.coming) ++ x) (notice_silent (session_in v i) i.sets) ∙ append-nil (without_notifies (units_in f.coming)) in (
        h,
        eh,
        record {
          said = record f.said { coming = f.coming ++ in_version v units; notifies = own; shape = subst (λ x. Shape all r.spoken h r.link r.agreed r.version r.table f.wanted x) (sym whole) f.shape };
          lost = f.lost;
          downward = stream_more v r.held down o.state.due f.lost f.coming units due op.whole (notice_fit v i.sets) f.downward;
          open_at = record { upward = op.upward; spoken = op.spoken; unheard = unheard; linked = op.linked };
        },
      )

  pub notified_good : (o : Conn) (up : List ℕ) → GoodC o up → GoodC (conn_notified keep timing i o) up
  unfolding conn_notified
  notified_good o up g = either (λ x. GoodC x up) (can_notify i o) o' o (λ e.
      let parts = and_parts (is_published i) (not (conn_stops o)) e in
      let stops = or_parts o.state.ended (not (is_none o.state.due)) (false_of_not (conn_stops o) parts.1) in
      record { table = g.table; unmarked = g.unmarked; config = g.config; link = by_link (is_reading r.link) refl (nothing_out o.state.due (true_of_not (is_none o.state.due) stops.1)) }) (λ e. g)
    where
      o' : Conn
      o' = told o (speaks_in o)

      by_link : (live : Bool) → is_reading r.link ≡ live → o.state.due ≡ [] → GoodLink all i home r.link r (Some o') up down
      by_link false dead due = dead_link r.link all i home home r (Some o) (Some o') up up down down dead g.link
      by_link true live due =
          by_header (header_version o.state.version o.held) refl (held_version r.spoken o.state.version o.held (up ++ r.out) l.2.wanted op.spoken op.upward)
        where
          l : Live all i home r (Some o) up down
          l = live_of r.link all i home r (Some o) up down g.link live

          op : Open i r.spoken l.0 r.out up l.2.wanted l.2.coming r.agreed l.2.lost o
          op = l.2.open_at

          by_header : (v : Option Version) → header_version o.state.version o.held ≡ v → MaySpeak r.spoken v → GoodLink all i home r.link r (Some (told o (spoken_in v))) up down
          by_header None e speaks =
              let n : Unheard None l.0.made l.2.coming r.agreed = subst (λ v. Unheard v l.0.made l.2.coming r.agreed) e op.unheard in
              let early = all_both (IsEarly l.0.made) l.2.coming (in_version V1 (notice i.session (versions i))) n.0 (early_notice l.0.made i i.sets op.later) in
              live_link all i home (Some (told o V1)) up down r r.link refl live (notified_live o up V1 l.0 l.2 l.1 due
              (subst (λ b. OwnNotifies b r.spoken l.0.made (l.2.coming ++ in_version V1 (notice i.session (versions i)))) (sym n.1) (early_own r.spoken l.0.made (l.2.coming ++ in_version V1 (notice i.session (versions i))) early))
              (subst (λ v. Unheard v l.0.made (l.2.coming ++ in_version V1 (notice i.session (versions i))) r.agreed) (sym e) (early, n.1)))
          by_header (Some v) e speaks =
              subst (λ v. GoodLink all i home r.link r (Some (told o v)) up down) (sym speaks)
              (live_link all i home (Some (told o r.spoken)) up down r r.link refl live (notified_live o up r.spoken l.0 l.2 l.1 due
              (own-append r.agreed r.spoken l.0.made l.2.coming (notice (session_in r.spoken i) (versions i)) l.2.notifies (notice_own (session_in r.spoken l.0.made) (session_in r.spoken i) (sym l.2.session ∙ op.session) i.sets))
              (subst (λ v. Unheard v l.0.made (l.2.coming ++ in_version r.spoken (notice (session_in r.spoken i) (versions i))) r.agreed) (sym e) tt)))

-- what was seen behind these moments
read_once : (i : Instance) (home : Option Seen) → reads_now i (reads_now i home) ≡ reads_now i home
read_once i None = refl
read_once i (Some h) = refl

seen_more : (i : Instance) (home : Option Seen) (moments : List ConnMoment) (came : Option ConnMoment) → seen_after i (moment_reads came) (seen_after i (list_any is_read moments) home) ≡ seen_after i (list_any is_read (and_moment moments came)) home
seen_more i home moments None = refl
seen_more i home moments (Some m) = by_reads (list_any is_read moments) (is_read m) ∙ ap (λ b. seen_after i b home) (sym (list_any-append is_read moments (m ∷ [])))
  where
    by_reads : (a b : Bool) → seen_after i b (seen_after i a home) ≡ seen_after i (a || (b || false)) home
    by_reads true true = read_once i home
    by_reads true false = refl
    by_reads false true = refl
    by_reads false false = refl

module _ (all : List Instance) (i : Instance) (p : Present all i) (keep : ℕ) (home : Option Seen) (keeps : (h : Seen) → home ≡ Some h → h.keep ≡ keep) (r : Router) (down : List ℕ) where
  abbrev pub seen_by : Taking → Option Seen
  seen_by m = seen_after i (list_any is_read m.moments) home

  keeps_now : (o : Option Seen) → home ≡ o → (h : Seen) → reads_now i o ≡ Some h → h.keep ≡ keep
  keeps_now None e h is = absurd (let k : ◌≡◌ {A = Option Seen} None (Some h) = is in cc)
  keeps_now (Some x) e h is = let same : record x { read = Some i } ≡ h = cc in ap (λ (y : Seen). y.keep) (sym same) ∙ keeps x e

  keeps_by : (read : Bool) (h : Seen) → seen_after i read home ≡ Some h → h.keep ≡ keep
  keeps_by true h e = keeps_now home refl h e
  keeps_by false h e = keeps h e

  abbrev GoodAt : Taking → List ℕ → Type 0
  GoodAt m up = GoodRouter all i (seen_by m) (Some m.conn) up down r

  goes_good : (m : Taking) (b : ℕ) (bs : List ℕ) → conn_stops m.conn ≡ false → GoodAt m (b ∷ bs) → GoodAt (conn_byte keep timing i m b) bs
  unfolding conn_byte
  goes_good m b bs goes_on g =
      subst (λ x. GoodRouter all i x (Some (conn_byte keep timing i m b).conn) bs down r) (seen_more i home m.moments (brings i m b)) (byte_good all i p keep (seen_by m) (keeps_by (list_any is_read m.moments)) r down m b bs goes_on g)

  -- it is handed a piece
  pub fed_good : (tail : List ℕ) (m : Taking) (piece : List ℕ) → GoodAt m (piece ++ tail)
      → GoodAt (feed (λ (x : Taking). conn_stops x.conn) (conn_byte keep timing i) m piece).machine ((feed (λ (x : Taking). conn_stops x.conn) (conn_byte keep timing i) m piece).rest ++ tail)
  fed_good tail m piece g = feed_keeps (λ (x : Taking). conn_stops x.conn) (conn_byte keep timing i) (λ rest x. GoodAt x (rest ++ tail)) (λ b rest x on h. goes_good x b (rest ++ tail) on h) m piece g

  abbrev DueBy : List ℕ → Option ℕ → Conn → Type 0
  DueBy old wanting o = (o.state.due ≡ old) ⊎ IsOfNow r.spoken i keep wanting r.link o.state.due

  pub fed_now : (old tail : List ℕ) (m : Taking) (piece : List ℕ) (wanting : Option ℕ) → is_reading r.link ≡ true → (wanting ≡ None → m.wanting ≡ None) → GoodAt m (piece ++ tail) → DueBy old wanting m.conn → DueBy old wanting (feed (λ (x : Taking). conn_stops x.conn) (conn_byte keep timing i) m piece).machine.conn
  fed_now old tail m piece wanting live same g now =
      (feed_keeps (λ (x : Taking). conn_stops x.conn) (conn_byte keep timing i) (λ rest x. (wanting ≡ None → x.wanting ≡ None) × GoodAt x (rest ++ tail) × DueBy old wanting x.conn)
      (λ b rest x on k. (byte_counts all i p keep home keeps r down wanting x b k.0, goes_good x b (rest ++ tail) on k.1, byte_now all i p keep (seen_by x) (keeps_by (list_any is_read x.moments)) r down old wanting x b (rest ++ tail) live k.0 k.1 k.2)) m piece (same, g, now)).2
