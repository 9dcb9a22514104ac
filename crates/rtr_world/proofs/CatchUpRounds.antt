-- A round of all bytes: the question is read whole, and its reply is read whole.
use Rattle.rtr_world.proofs.Words.{◌≡◌, ◌⊎◌, ℕ, ◌≤◌, Bool, true, false, not, List, [], ◌∷◌, ◌++◌, length, take, Option, Some, None, is_some, ⊤, refl, suc, ◌*◌, ◌==◌, map, IsSome, sym, ap, ◌∙◌, subst, arith, inl, inr, subst₂, AllByRecursion, drop_of_length-le, le-min, take_all, length-append, length-map, VrpSet, IsVrpSet, listing, without, Version, IsUnitOf, Unit, sent_most, some_sent, either, answer, report, sent, sent_all, session_in, announcements, end_of_data, response, serial_answer, step_answer, whole_answer, withdrawals, Conn, conn_pulled, conn_takes, new_conn, in_version, IsLater, clocked, receives, router_pulled, close, connects_at, Closed, Idle, Asked, is_reading, Link, AskReset, Committed, Question, base_of, is_serial, of_version, query, AskSerial, choose, Instance, NumberedSet, versions_from, with_serial, serial_at, part_is_set, size_of_listing, Prefix, Router, false_true, default_config, RouterConfig}
use Rattle.rtr_ends.specs.Answer.{Reply as Answered}
use Rattle.rtr_world.specs.CatchUp.{IsAll, IsQuiet, read_up, round, sent_down, sent_up, EachCatchesUp, IdleNext, IdleSoon, RestsNext, RestsSo, RestsSoon, RoundsEnd}
use Rattle.rtr_world.specs.History.{conn_due}
use Rattle.rtr_world.specs.World.{Side, World, instances, timing, cache_gets, cache_sends, gets_at, router_gets, sends_from, settle, router_sends, connects}
use Rattle.rtr_world.proofs.CacheSteps.{answer_answers, answered_report, from_now}
use Rattle.rtr_world.proofs.CatchUpAnswers.{IsDue, goes_or_other, is_read, no_wanting}
use Rattle.rtr_world.proofs.CatchUpReplies.{Phase, WasRead, is_idle, asks_again, has_ended, clocked_waits, no_reply, reply_read}
use Rattle.rtr_world.proofs.CatchUpSettling.{Emptied, settle_closes, settle_empties, settle_full, settle_off, settle_open, clocked_emptied, clocked_none}
use Rattle.rtr_world.proofs.Invariant.{Mine, Replies, no_memory, QuestionFits, Good}
use Rattle.rtr_world.proofs.UnitsAtRouters.{query_unit, first_fits}
use Rattle.rtr_world.proofs.UnitStreams.{MaySpeak, Stream, all_bytes, all_sent, none_part, bytes_of_version}
use Rattle.rtr_world.proofs.Versions.{Present, TableAt, held_at, Seen, seen_at}
use Rattle.rtr_world.proofs.SideSteps.{clocked_good, close_shut}
use Rattle.rtr_world.proofs.WorldSteps.{always}

-- A question that is open goes to the cache whole.
module _ (w : World) (p : Present (instances w) w.present) (h : Seen) where
  -- What is known of the connection and of the question: it fits what is committed.
  pub record Knows (pv : Version) (q : Question) (version : Option Committed) (table : VrpSet) (own : RouterConfig) : Type 0 where
    pub session : h.session ≡ session_in pv w.present
    pub made : length h.sets ≤ length w.present.sets
    pub later : IsLater h.made w.present
    pub read : h.read ≡ Some w.present
    pub keeps : h.keep ≡ w.keep
    pub fits : QuestionFits h.session q (of_version pv version)
    pub table_at : TableAt (instances w) version table
    pub config : own ≡ default_config

  -- The connection is open, with nothing to be pulled.
  pub record Quiet (pv : Version) (o : Option Conn) : Type 0 where
    pub conn : Conn
    pub conn_is : o ≡ Some conn
    pub held : conn.held ≡ []
    pub spoken : MaySpeak pv conn.state.version
    pub due : conn.state.due ≡ []
    pub on : conn.state.ended ≡ false

  -- The question is still to be pulled,
  pub record Asks (q : Question) (s : Side) : Type 0 where
    pub knows : Knows s.router.spoken q s.router.version s.router.table s.router.config
    pub quiet : Quiet s.router.spoken s.conn
    pub open quiet use *
    pub up : s.up ≡ []
    pub down : s.down ≡ []
    pub link : s.router.link ≡ Asked q
    pub out : s.router.out ≡ sent s.router.spoken (query q)
    pub router_held : s.router.held ≡ []

  -- or is on the wire.
  pub record Sent (q : Question) (s : Side) : Type 0 where
    pub knows : Knows s.router.spoken q s.router.version s.router.table s.router.config
    pub quiet : Quiet s.router.spoken s.conn
    pub open quiet use *
    pub up : s.up ≡ sent s.router.spoken (query q)
    pub down : s.down ≡ []
    pub link : s.router.link ≡ Asked q
    pub out : s.router.out ≡ []
    pub router_held : s.router.held ≡ []

  pub reading : (q : Question) (l : Link) → l ≡ Asked q → is_reading l ≡ true
  reading q l e = ap is_reading e

  -- a question is short
  pub question_few : (q : Question) (most : ℕ) (s : Side) → IsAll most → Knows s.router.spoken q s.router.version s.router.table s.router.config → length (sent s.router.spoken (query q)) ≤ most
  question_few q most s enough k =
      let unit = query_unit (instances w) s.router.spoken h.session q (of_version s.router.spoken s.router.version) s.router.table k.fits (held_at (instances w) s.router.spoken s.router.version s.router.table k.table_at) in
      omega (arith, enough, sent_most s.router.spoken (query q) unit.0 unit.1)

  -- the router sends
  pub sends_all : (q : Question) (most : ℕ) (s : Side) → IsAll most → Asks q s → Sent q (sent_up w most s)
  unfolding router_sends router_pulled
  sends_all q most s enough a =
      let all : length s.router.out ≤ most = subst (λ x. length x ≤ most) (sym a.out) (question_few q most s enough a.knows) in
      let same : settle (instances w) (router_sends most s) ≡ router_sends most s = settle_open (instances w) (router_sends most s) a.conn a.conn_is (λ e. absurd (let k : true ≡ false = sym e ∙ a.on in cc)) (reading q s.router.link a.link) in
      subst (λ x. Sent q x) (sym same) (record {
        knows = a.knows;
        quiet = a.quiet;
        up = ap (λ x. x ++ take most s.router.out) a.up ∙ take_all most s.router.out all ∙ a.out;
        down = a.down;
        link = a.link;
        out = drop_of_length-le s.router.out all;
        router_held = a.router_held;
      })

-- A question or an answer has at most 2^25 PDUs of at most 2^12 bytes.
bytes_of : (pv : Version) (units : List Unit) → AllByRecursion (IsUnitOf pv) units → length (sent_all pv units) ≤ length units * 4096
bytes_of pv [] fit = omega arith
bytes_of pv (u ∷ units) fit = omega (arith, bytes_of pv units fit.1, sent_most pv u fit.0.0 fit.0.1, length-append (sent pv u) (sent_all pv units))

records_few : (announce : Bool) (s : VrpSet) → IsVrpSet s → length (map (λ v. Prefix announce v) (listing s)) ≤ 16777215
records_few announce s is = omega (arith, length-map (listing s) (λ v. Prefix announce v), size_of_listing s, is.within_limit)

response_few : (pv : Version) (session : ℕ) (now : NumberedSet) (records : List Unit) → length records ≤ 33554430 → length (response pv session timing now records) ≤ 33554432
response_few pv session now records few = omega (arith, few, length-append records (end_of_data pv session now.serial timing ∷ []))

whole_few : (pv : Version) (session start : ℕ) (sets : List VrpSet) → AllByRecursion IsVrpSet sets → length (whole_answer pv session timing (versions_from start sets)) ≤ 33554432
whole_few pv session start [] is = omega arith
whole_few pv session start (x ∷ older) is = response_few pv session (record { serial = serial_at start (length older); set = x }) (announcements x) (omega (arith, records_few true x is.0))

abbrev IsFound : Option NumberedSet → Type 0
IsFound None = ⊤
IsFound (Some v) = IsVrpSet v.set

step_few : (pv : Version) (session : ℕ) (now : NumberedSet) (o : Option NumberedSet) → IsVrpSet now.set → IsFound o → length (step_answer pv session timing now o) ≤ 33554432
step_few pv session now None is found = omega arith
step_few pv session now (Some before) is found =
    let gone = records_few false (without before.set now.set) (part_is_set before.set now.set found) in
    let come = records_few true (without now.set before.set) (part_is_set now.set before.set is) in
    let all = length-append (withdrawals (without before.set now.set)) (announcements (without now.set before.set)) in
    response_few pv session now (withdrawals (without before.set now.set) ++ announcements (without now.set before.set)) (omega (arith, gone, come, all))

found_is : (serial start kept : ℕ) (sets : List VrpSet) → AllByRecursion IsVrpSet sets → IsFound (with_serial serial (take kept (versions_from start sets)))
found_is serial start (suc kept) (x ∷ older) is = either IsFound (serial_at start (length older) == serial) _ _ (λ here. is.0) (λ there. found_is serial start kept older is.1)
found_is serial start _ _ is = tt

serial_few : (pv : Version) (session start keep serial : ℕ) (sets : List VrpSet) → AllByRecursion IsVrpSet sets → length (serial_answer pv session keep timing serial (versions_from start sets)) ≤ 33554432
serial_few pv session start keep serial [] is = omega arith
serial_few pv session start keep serial (x ∷ older) is =
    step_few pv session (record { serial = serial_at start (length older); set = x }) (with_serial serial (take (suc keep) (versions_from start (x ∷ older)))) is.0 (found_is serial start (suc keep) (x ∷ older) is)

answer_few : (pv : Version) (i : Instance) (keep : ℕ) (q : Question) → AllByRecursion IsVrpSet i.sets → length (answer pv i keep timing (query q)).units ≤ 33554432
answer_few pv i keep AskReset is = whole_few pv (session_in pv i) i.start i.sets is
answer_few pv i keep (AskSerial session serial) is =
    either (λ (x : Answered). length x.units ≤ 33554432) (session == session_in pv i) _ _ (λ own. serial_few pv (session_in pv i) i.start keep serial i.sets is) (λ other. omega arith)

module _ (w : World) (p : Present (instances w) w.present) (h : Seen) where
  -- at these PDUs memory runs out, if at any
  module _ (at_cache at_router : Option ℕ) where
    abbrev pub Lacking : Type 0
    Lacking = at_cache ≡ None → at_router ≡ None → ⊥

    -- Error Report 0 comes, or the cache's side is so.
    abbrev Shows : Type 0 → List Unit → Type 0
    Shows Stays units = (Stays ⊎ Lacking) ⊎ ((copy : List ℕ) × (units ≡ report 0 copy ∷ []))

    -- a whole reply to the question
    record Reply (pv : Version) (q : Question) (table : VrpSet) (units : List Unit) : Type 0 where
      replies : Replies (instances w) pv h q (base_of q table) units
      fit : AllByRecursion (IsUnitOf pv) units
      memory : units ≡ report 1 [] ∷ [] → Lacking
      few : length units ≤ 33554432

    -- It is still to be pulled,
    record Got (q : Question) (s : Side) : Type 0 where
      knows : Knows w p h s.router.spoken q s.router.version s.router.table s.router.config
      units : List Unit
      reply : Reply s.router.spoken q s.router.table units
      conn : Conn
      conn_is : s.conn ≡ Some conn
      held : conn.held ≡ []
      spoken : MaySpeak s.router.spoken conn.state.version
      due : conn.state.due ≡ sent_all s.router.spoken units
      shown : Shows (conn.state.ended ≡ false) units
      up : s.up ≡ []
      down : s.down ≡ []
      link : s.router.link ≡ Asked q
      out : s.router.out ≡ []
      router_held : s.router.held ≡ []

    -- or is on the wire.
    record Given (q : Question) (s : Side) : Type 0 where
      knows : Knows w p h s.router.spoken q s.router.version s.router.table s.router.config
      units : List Unit
      reply : Reply s.router.spoken q s.router.table units
      conn : (s.conn ≡ None) ⊎ Quiet w p h s.router.spoken s.conn
      shown : Shows (Quiet w p h s.router.spoken s.conn) units
      up : s.up ≡ []
      down : s.down ≡ sent_all s.router.spoken units
      link : s.router.link ≡ Asked q
      out : s.router.out ≡ []
      router_held : s.router.held ≡ []

    -- what is due is a whole reply
    is_reply : (pv : Version) (q : Question) (version : Option Committed) (table : VrpSet) (own : RouterConfig) (unit : IsUnitOf pv (query q)) (ended : Bool) (units : List Unit) → Knows w p h pv q version table own → IsDue w.keep w.present pv (query q) unit at_cache ended units
        → Reply pv q table units × Shows (ended ≡ false) units
    is_reply pv q version table own unit ended units k (inl e) =
        let a = answer_answers (instances w) w.present p pv h k.session k.made w.keep q (of_version pv version) table k.fits (held_at (instances w) pv version table k.table_at) (from_now (instances w) w.present p pv h k.session k.made q w.keep k.keeps k.later k.read) in (
          record {
            replies = subst (λ x. Replies (instances w) pv h q (base_of q table) x) (sym e.0) a.replies;
            fit = subst (AllByRecursion (IsUnitOf pv)) (sym e.0) a.answered.fit;
            memory = λ one. absurd (no_wanting pv w.present w.keep q (sym e.0 ∙ one));
            few = subst (λ x. length x ≤ 33554432) (sym e.0) (answer_few pv w.present w.keep q p.is.sets);
          },
          elim (goes_or_other pv w.present w.keep q) [ inl on ↦ inl (inl (e.1 ∙ ap not on)) | inr other ↦ inr (other.0, e.0 ∙ other.1) ],
        )
    is_reply pv q version table own unit ended units k (inr e) = (
      record {
        replies = no_memory e.0;
        fit = subst (AllByRecursion (IsUnitOf pv)) (sym e.0) (answered_report pv 1 [] (omega arith) (all_bytes [] tt)).fit;
        memory = λ one none other. e.1 none;
        few = omega (arith, ap length e.0);
      },
      inl (inr (λ none other. e.1 none)),
    )

    some_bytes : (pv : Version) (q : Question) (table : VrpSet) (units : List Unit) → Reply pv q table units → sent_all pv units ≡ [] → ⊥
    some_bytes pv q table [] r e = no_reply (instances w) h pv q Lacking ⊤ pv (base_of q table) r.replies
    some_bytes pv q table (u ∷ units) r e = by_bytes (sent pv u) refl e
      where
        by_bytes : (bytes : List ℕ) → sent pv u ≡ bytes → bytes ++ sent_all pv units ≡ [] → ⊥
        by_bytes [] is e = some_sent pv u is
        by_bytes (b ∷ bytes) is e = cc

    -- the cache reads
    gets_all : (q : Question) (most : ℕ) (s : Side) → IsAll most → Sent w p h q s → Got q (settle (instances w) (cache_gets w most at_cache s))
    unfolding cache_gets
    gets_all q most s enough a =
        let k = a.knows in
        let all : length s.up ≤ most = subst (λ x. length x ≤ most) (sym a.up) (question_few w p h q most s enough k) in
        let unit = query_unit (instances w) s.router.spoken h.session q (of_version s.router.spoken s.router.version) s.router.table k.fits (held_at (instances w) s.router.spoken s.router.version s.router.table k.table_at) in
        let read = is_read w.keep w.present s.router.spoken (query q) unit at_cache (take most s.up) a.conn (take_all most s.up all ∙ a.up) a.held a.spoken a.due a.on in
        let o : Conn = (conn_takes w.keep timing w.present at_cache (take most s.up) a.conn).machine.conn in
        let reply = is_reply s.router.spoken q s.router.version s.router.table s.router.config unit (conn_takes w.keep timing w.present at_cache (take most s.up) a.conn).machine.conn.state.ended read.1.units k read.1.reply in
        let got : Got q (gets_at w most at_cache s (Some a.conn)) =
        record {
          knows = k;
          units = read.1.units;
          reply = reply.0;
          conn = (conn_takes w.keep timing w.present at_cache (take most s.up) a.conn).machine.conn;
          conn_is = refl;
          held = read.1.held;
          spoken = read.1.spoken;
          due = read.1.due;
          shown = reply.1;
          up = (λ j. read.0 j ++ drop_of_length-le s.up all j);
          down = a.down;
          link = a.link;
          out = a.out;
          router_held = a.router_held;
        } in
        let same : settle (instances w) (gets_at w most at_cache s (Some a.conn)) ≡ gets_at w most at_cache s (Some a.conn) =
        settle_open (instances w) (gets_at w most at_cache s (Some a.conn)) (conn_takes w.keep timing w.present at_cache (take most s.up) a.conn).machine.conn refl
        (λ ended none. some_bytes s.router.spoken q s.router.table read.1.units reply.0 (sym read.1.due ∙ none)) (reading w p h q s.router.link a.link) in
        subst (λ c. Got q (settle (instances w) (gets_at w most at_cache s c))) (sym a.conn_is) (subst (λ x. Got q x) (sym same) got)

    -- the cache sends
    gives_all : (q : Question) (most : ℕ) (s : Side) → IsAll most → Got q s → Given q (settle (instances w) (cache_sends w most s))
    unfolding cache_sends conn_pulled
    gives_all q most s enough a = subst (λ c. Given q (settle (instances w) (sends_from w.keep most s c))) (sym a.conn_is) so
      where
        o : Conn
        o = conn_pulled w.keep timing most a.conn

        n : Side
        n = sends_from w.keep most s (Some a.conn)

        few : length a.conn.state.due ≤ most
        few = omega (arith, enough, a.reply.few, bytes_of s.router.spoken a.units a.reply.fit, ap length a.due)

        down : n.down ≡ sent_all s.router.spoken a.units
        down = ap (λ x. x ++ take most a.conn.state.due) a.down ∙ take_all most a.conn.state.due few ∙ a.due

        none_due : o.state.due ≡ []
        none_due = drop_of_length-le a.conn.state.due (le-min few (omega arith))

        shut_shows : o.state.ended ≡ true → Shows (a.conn.state.ended ≡ false) a.units → Shows (Quiet w p h s.router.spoken None) a.units
        shut_shows ended (inl (inl on)) = absurd (let k : true ≡ false = sym ended ∙ on in cc)
        shut_shows ended (inl (inr l)) = inl (inr l)
        shut_shows ended (inr r) = inr r

        so : Given q (settle (instances w) n)
        so = elim (settle_full (instances w) n o refl none_due (λ none. some_bytes s.router.spoken q s.router.table a.units a.reply (sym down ∙ none)) (reading w p h q s.router.link a.link)) [
          | inl shut ↦ subst (λ x. Given q x) (sym shut.1)
              (record { knows = a.knows; units = a.units; reply = a.reply; conn = inl refl; shown = shut_shows shut.0 a.shown; up = a.up; down = down; link = a.link; out = a.out; router_held = a.router_held })
          | inr same ↦ (let c : Quiet w p h s.router.spoken n.conn = record { conn = o; conn_is = refl; held = a.held; spoken = a.spoken; due = none_due; on = same.0 } in
              subst (λ x. Given q x) (sym same.1) (record { knows = a.knows; units = a.units; reply = a.reply; conn = inr c; shown = inl (inl c); up = a.up; down = down; link = a.link; out = a.out; router_held = a.router_held }))
        ]

    -- The link is idle, and all is quiet; or it is closed, as memory ran out or the router was emptied; or the router asks for all.
    pub data Ends (q : Question) (s : Side) : Type 0 where
      idles : s.router.link ≡ Idle → IsQuiet s → Ends q s
      closes : s.router.link ≡ Closed → Lacking ⊎ ((is_serial (Some q) ≡ true) × Emptied s.router) → Ends q s
      asks_all : is_serial (Some q) ≡ true → Asks w p h AskReset s → Ends q s

    knows_again : (pv pv' : Version) (q : Question) (version version' : Option Committed) (table table' : VrpSet) (own own' : RouterConfig) → Mine h.session (of_version pv' version') → TableAt (instances w) version' table' → own' ≡ default_config → pv' ≡ pv → Knows w p h pv q version table own → Knows w p h pv' AskReset version' table' own'
    knows_again pv pv' q version version' table table' own own' mine t plain same k = record { session = k.session ∙ ap (λ v. session_in v w.present) (sym same); made = k.made; later = k.later; read = k.read; keeps = k.keeps; fits = mine; table_at = t; config = plain }

    has_memory : (wanting : Option ℕ) → at_router ≡ wanting → (wanting ≡ None) ⊎ Lacking
    has_memory None e = inl refl
    has_memory (Some unit) e = inr (λ none other. let k : Some unit ≡ None = sym e ∙ other in cc)

    -- the router reads
    takes_all : (q : Question) (most : ℕ) (s : Side) → IsAll most → Given q s → Ends q (settle (instances w) (router_gets w most at_router s))
    unfolding router_gets
    takes_all q most s enough a = by_read (reply_read (instances w) h s.router.spoken q Lacking Stays s.router.now at_router (take most s.down) s.router (has_memory at_router refl) phase)
      where
        n : Side
        n = router_gets w most at_router s

        Stays : Type 0
        Stays = Quiet w p h s.router.spoken s.conn ⊎ Lacking

        all : length s.down ≤ most
        all = omega (arith, enough, a.reply.few, bytes_of s.router.spoken a.units a.reply.fit, ap length a.down)

        bytes : take most s.down ≡ sent_all s.router.spoken a.units
        bytes = take_all most s.down all ∙ a.down

        stream : Stream s.router.held (take most s.down) (in_version s.router.spoken a.units)
        stream = record { whole = (λ j. a.router_held j ++ bytes j) ∙ sym (bytes_of_version s.router.spoken a.units); part = none_part s.router.held (in_version s.router.spoken a.units) a.router_held; fit = all_sent s.router.spoken a.units a.reply.fit }

        phase : Phase (instances w) h s.router.spoken q Lacking Stays (take most s.down) (clocked s.router.now s.router)
        phase = clocked_waits (instances w) h s.router.spoken Lacking Stays q s.router.now (take most s.down) s.router a.units a.link a.out a.knows.fits a.knows.table_at stream a.reply.replies a.reply.memory a.shown a.knows.config refl

        none_down : (receives s.router.now at_router (take most s.down) s.router).rest ≡ [] → n.down ≡ []
        none_down none = (λ j. none j ++ drop_of_length-le s.down all j)

        settled : (c : Quiet w p h s.router.spoken s.conn) → is_reading n.router.link ≡ true → settle (instances w) n ≡ n
        settled c live = settle_open (instances w) n c.conn c.conn_is (λ e. absurd (let k : true ≡ false = sym e ∙ c.on in cc)) live

        -- If memory ran out the connection may be closed.
        waits_or : is_reading n.router.link ≡ true → (receives s.router.now at_router (take most s.down) s.router).rest ≡ [] → (Quiet w p h s.router.spoken s.conn → Ends q (settle (instances w) n)) → Stays → Ends q (settle (instances w) n)
        waits_or live none goes (inl c) = goes c
        waits_or live none goes (inr l) = elim (a.conn) [ inl shut ↦ closes ((settle_off (instances w) n shut (none_down none)).link) (inl l) | inr c ↦ goes c ]

        by_read : WasRead (instances w) h s.router.spoken q Lacking Stays (receives s.router.now at_router (take most s.down) s.router).rest (receives s.router.now at_router (take most s.down) s.router).machine.router → Ends q (settle (instances w) n)
        by_read (is_idle is out none on) =
            waits_or (ap is_reading is) none
            (λ c. subst (λ x. Ends q x) (sym (settled c (ap is_reading is)))
            (idles is (record { is_open = ap is_some c.conn_is; out = out; up = a.up; due = ap conn_due c.conn_is ∙ c.due; down = none_down none }))) on
        by_read (has_ended end is none (inl l)) = closes (settle_closes (instances w) n end is none) (inl l)
        by_read (has_ended end is none (inr e)) = closes (settle_closes (instances w) n end is none) (inr (e.0, settle_empties (instances w) n end is none e.1 e.2 e.3))
        by_read (asks_again serial is out held mine table none on plain same) = waits_or (ap is_reading is) none (λ c. asks_all serial (subst (λ x. Asks w p h AskReset x) (sym (settled c (ap is_reading is))) (record {
          knows = knows_again s.router.spoken n.router.spoken q s.router.version n.router.version s.router.table n.router.table s.router.config n.router.config mine table plain same a.knows;
          quiet = subst (λ v. Quiet w p h v s.conn) (sym same) c;
          up = a.up;
          down = none_down none;
          link = is;
          out = out;
          router_held = held;
        }))) on

    -- a round
    pub round_ends : (q : Question) (most : ℕ) (s : Side) → IsAll most → Asks w p h q s → Ends q (round w most at_cache at_router s)
    round_ends q most s enough a =
        takes_all q most (sent_down w most at_cache s) enough (gives_all q most (read_up w most at_cache s) enough (gets_all q most (sent_up w most s) enough (sends_all w p h q most s enough a)))

-- Rounds end at each router that connects, after every list of events, and if memory does not run out they end in an idle link.
module _ (w : World) (p : Present (instances w) w.present) where
  -- wherever memory ran out
  rests_next : (h : Seen) (s : Side) → Asks w p h AskReset s → RestsNext w s
  rests_next h s a most at_cache at_router m =
      elim (round_ends w p h at_cache at_router AskReset most s m a) [
        | idles is quiet ↦ subst (RestsSo (round w most at_cache at_router s)) (sym is) quiet
        | closes is why ↦ subst (RestsSo (round w most at_cache at_router s)) (sym is) tt
        | asks_all serial b ↦ false_true serial
      ]

  rests_soon : (h : Seen) (q : Question) (s : Side) → Asks w p h q s → RestsSoon w s
  rests_soon h q s a most at_cache at_router m =
      let n : Side = round w most at_cache at_router s in
      elim (round_ends w p h at_cache at_router q most s m a) [
        | idles is quiet ↦ inl (subst (RestsSo (round w most at_cache at_router s)) (sym is) quiet)
        | closes is why ↦ inl (subst (RestsSo (round w most at_cache at_router s)) (sym is) tt)
        | asks_all serial b ↦ inr (b.link, rests_next h n b)
      ]

  -- a connection that is just made, as it is seen if the cache reads on it
  abbrev closed_of : Side → Router
  closed_of s = close (clocked s.router.now s.router)

  abbrev seen_new : Side → Seen
  seen_new s = record (seen_at w.keep (closed_of s).speaks w.present) { read = Some w.present }

  asks_new : (s : Side) (q : Question) → choose (of_version (closed_of s).speaks (closed_of s).version) (closed_of s).mark ≡ q → (closed_of s).held ≡ []
      → QuestionFits (session_in (closed_of s).speaks w.present) q (of_version (closed_of s).speaks (closed_of s).version) → TableAt (instances w) (closed_of s).version (closed_of s).table → (closed_of s).config ≡ default_config
      → Asks w p (seen_new s) q (settle (instances w) (connects w s))
  unfolding connects connects_at
  asks_new s q e held fits table config =
      let same = settle_open (instances w) (connects w s) (new_conn w.present) refl (λ e. absurd (let k : false ≡ true = e in cc)) refl in
      subst (λ x. Asks w p (seen_new s) q x) (sym same) (record {
        knows = record {
          session = refl;
          made = omega arith;
          later = record { session = refl; session0 = refl; start = refl; more = []; sets = refl };
          read = refl;
          keeps = refl;
          fits = fits;
          table_at = table;
          config = config;
        };
        quiet = record { conn = new_conn w.present; conn_is = refl; held = refl; spoken = tt; due = refl; on = refl };
        up = refl;
        down = refl;
        link = ap (λ x. Asked x) e;
        out = ap (λ x. sent (closed_of s).speaks (query x)) e;
        router_held = held;
      })

  -- A Serial Query is of a session that is held.
  holds_some : (now : ℕ) (r : Router) (version : Option Committed) → r.version ≡ version → is_serial (Some (choose (of_version (close (clocked now r)).speaks (close (clocked now r)).version) (close (clocked now r)).mark)) ≡ true → IsSome version
  holds_some now r (Some version) is asks = refl
  holds_some now r None is asks = false_true (ap (λ v. is_serial (Some (choose (of_version (close (clocked now r)).speaks v) (close (clocked now r)).mark))) (sym (clocked_none now r is)) ∙ asks)

  connects_asks : (s : Side) → Good w.keep w.past w.present s → (q : Question) × (Asks w p (seen_new s) q (settle (instances w) (connects w s)) × (is_serial (Some q) ≡ true → IsSome s.router.version))
  connects_asks s g =
      let told = clocked_good (instances w) w.present g.seen s.conn s.up s.down s.router.now s.router g.router in
      let shut = close_shut (instances w) w.present g.seen s.conn s.up s.down (clocked s.router.now s.router) told in
      let r : Router = close (clocked s.router.now s.router) in
      let q : Question = choose (of_version r.speaks r.version) r.mark in
      (q, (asks_new s q refl shut.held (first_fits (session_in r.speaks w.present) (of_version r.speaks r.version) r.mark shut.unmarked) shut.table shut.config, holds_some s.router.now s.router s.router.version refl))

  -- A router that was emptied asks for all.
  emptied_asks : (s : Side) → Emptied s.router → Asks w p (seen_new s) AskReset (settle (instances w) (connects w s))
  emptied_asks s e =
      let k = clocked_emptied s.router.now s.router e in
      let r : Router = close (clocked s.router.now s.router) in
      asks_new s AskReset (ap (λ v. choose (of_version r.speaks v) r.mark) k.version) k.held (subst (λ v. Mine (session_in r.speaks w.present) (of_version r.speaks v)) (sym k.version) tt) (subst₂ (λ v t. TableAt (instances w) v t) (sym k.version) (sym k.table) refl) k.config

  -- if memory did not run out
  idle_next : (h : Seen) (s : Side) → Asks w p h AskReset s → IdleNext w s
  idle_next h s a most m = elim (round_ends w p h None None AskReset most s m a) [
    | idles is quiet ↦ is
    | closes is why ↦ elim why [ inl lacking ↦ absurd (lacking refl refl) | inr e ↦ false_true e.0 ]
    | asks_all serial b ↦ false_true serial
  ]

  idle_soon : (h : Seen) (q : Question) (held : Option Committed) (s : Side) → (is_serial (Some q) ≡ true → IsSome held) → Asks w p h q s → IdleSoon w held s
  idle_soon h q held s some a most m =
      let n : Side = round w most None None s in
      elim (round_ends w p h None None q most s m a) [
        | idles is quiet ↦ inl is
        | asks_all serial b ↦ inr (inl (b.link, idle_next h n b))
        | closes is why ↦ elim why [
          | inl lacking ↦ absurd (lacking refl refl)
          | inr e ↦ inr (inr (some e.0, is, e.1.version, idle_next (seen_new n) (settle (instances w) (connects w n)) (emptied_asks n e.1)))
        ]
      ]

pub rounds_end : RoundsEnd
rounds_end = always (λ w s. RestsSoon w (settle (instances w) (connects w s))) (λ w p s k. let a = connects_asks w p s k.0 in rests_soon w p (seen_new w p s) a.0 (settle (instances w) (connects w s)) a.1.0)

pub catches_up : EachCatchesUp
catches_up = always (λ w s. IdleSoon w s.router.version (settle (instances w) (connects w s)))
    (λ w p s k. let a = connects_asks w p s k.0 in idle_soon w p (seen_new w p s) a.0 s.router.version (settle (instances w) (connects w s)) a.1.1 a.1.0)
