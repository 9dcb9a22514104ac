-- What the calls of a connection do to what it shows.
use Rattle.rtr_ends.proofs.Words.{common_steps, nat_lt, ◌≡◌, ℕ, ◌-◌, ◌<◌, ◌≤◌, ◌==◌, Bool, true, false, not, ◌&&◌, ◌||◌, List, [], ◌∷◌, ◌++◌, length, take, Option, Some, None, option_map, if◌then◌else◌, refl, append_assoc, sym, ap, ◌∙◌, subst, arith, inl, inr, rules, list_any, append-nil, Instance, NumberedSet, versions, versions_from, with_serial, serial_at, VrpSet, newest, Version, first_version, header_version, version_in, length-as_read, shows_long, unit_long, version_in-append, nat_tests, Faulty, Whole, IsFaulty, IsRead, ReaderGives, IsReader, Reader, ReaderTakes, fresh, known_version, version_with, as_read, IsPartial, Unit, SerialNotify, SerialQuery, ResetQuery, ErrorReport, UnitFault, partial_most, and-false}
use Rattle.rtr_pdu.specs.declared.unit.Next.TheVariants as next
use Rattle.rtr_ends.specs.Answer.{Reply, and_end, and_on, answer, report, sent, sent_all, serial_answer, session_in, step_answer, whole_answer}
use Rattle.rtr_ends.specs.Cache.{Conn, Taking, can_notify, conn_notified, conn_pulled, conn_stops, conn_takes, is_none, conn_judged, speaks_in, version_at}
use Rattle.rtr_ends.specs.Connection.{Connection, Read, Wanting, Notify, conn_after, fault_report, is_published, is_wanting, spoken_in, takes_memory}
use Rattle.rtr_ends.specs.Peer.{SendsReply, ReportsFault, HasBufferRoom, Knows, Pulls, Receives, ShowsPeer, held_by_peer, no_memory, read_reply}
use Rattle.rtr_ends.specs.Sender.{PullsBytes, Sends, Speaks, Stays, due_of, newest_of, own_session, ready_in}
use Rattle.rtr_ends.specs.Timing.{Intervals}
use Rattle.rtr_ends.specs.declared.peer.Peer.{Peer}
use Rattle.rtr_ends.specs.declared.sender.Sender.{Sender}
use Rattle.rtr_ends.proofs.AnsweringLaws.{knows_but}
use Rattle.rtr_ends.proofs.ReceivingLaws.{start, takes_more, takes_none, takes_shown}
use Rattle.rtr_ends.proofs.UnitByUnit.{fault_judged, unit_judged}

-- Nothing is held by a reader that is new.
fresh_room : (version : Option Version) (p : Peer) → p.reader ≡ fresh version false → ready_in p.sender ≤ 4096 → HasBufferRoom (held_by_peer p)
fresh_room version p e ready = record { received = omega (arith, ap (λ (r : Reader). length r.held) e); ready = ready }

-- the newest version, with its serial
record HasNewest (serial : ℕ) (vs : List NumberedSet) : Type 0 where
  pub version : NumberedSet
  pub is : newest vs ≡ Some version
  pub serial_is : version.serial ≡ serial

module _ (keep : ℕ) (t : Intervals) (i : Instance) (o : Conn) where
  pub pulls : (out : List ℕ) (count : ℕ) (now : List ℕ) (old : Peer) (sender : Sender) → PullsBytes (due_of old.sender) out count now (due_of sender) → Stays old.sender sender → ShowsPeer t i o old → Pulls keep t i o out count now (record old { sender = sender })
  unfolding conn_pulled
  pulls out count now old sender g s shows = search rules

  pub stops_as : (p : Peer) → ShowsPeer t i o p → (p.ended || not (is_none (due_of p.sender))) ≡ conn_stops o
  stops_as p shows = λ j. shows.ended j || not (is_none (shows.due j))

  pub receives_none : (piece : List ℕ) (p : Peer) → conn_stops o ≡ true → ShowsPeer t i o p → Receives keep t i o piece 0 p
  receives_none piece p stop shows =
      let is = takes_none keep t i o None piece stop in
      record {
        wanting = None;
        wanted = tt;
        shows = subst (λ f. ShowsPeer t i f.machine.conn p) (sym is) shows;
        consumed_is = subst (λ f. 0 ≡ length piece - length f.rest) (sym is) (omega arith);
      }

  -- the reader of what is shown
  abbrev own : Reader
  own = record { version = o.state.version; held = o.held; any = false; later = false; fault = None }

  -- A reader consumes the same as the reader that it represents.
  took : (p : Peer) (piece rest : List ℕ) (answer : _) (new : Reader) → p.reader ≡ own → ReaderTakes (version_with p.reader piece) p.reader piece answer rest new → ReaderTakes (version_at o piece) own piece answer rest new
  took p piece rest answer new e h = subst (λ x. ReaderTakes (version_with x piece) x piece answer rest new) e h

  -- The version of what is consumed is that of the whole piece.
  taken_version : (piece taken rest : List ℕ) → piece ≡ taken ++ rest → 0 < length (o.held ++ taken) → version_at o piece ≡ version_at o taken
  taken_version piece taken rest e some =
      ap (version_at o) e ∙ ap (version_in o.state.version) (sym (append_assoc o.held taken rest)) ∙ version_in-append o.state.version (o.held ++ taken) rest some

  pub receives_more : (piece rest : List ℕ) (p : Peer) (reader : Reader) → conn_stops o ≡ false → ShowsPeer t i o p → ReaderTakes (version_with p.reader piece) p.reader piece next.NeedMore rest reader
      → Receives keep t i o piece (length piece) (record p { reader = reader })
  receives_more piece rest p reader runs shows h =
      let version : Version = version_at o piece in
      let k = took p piece rest next.NeedMore reader shows.reader h in
      let all : piece ≡ k.taken = k.piece_is ∙ ap (λ x. k.taken ++ x) k.gives.2 ∙ append-nil k.taken in
      let part : IsPartial (version_at o piece) (as_read (version_at o piece) false (o.held ++ piece)) = subst (λ x. IsPartial (version_at o piece) (as_read (version_at o piece) false (o.held ++ x))) (sym all) k.gives.1 in
      let is = takes_more keep t i o None piece runs part in
      let now : reader ≡ record { version = o.state.version; held = o.held ++ piece; any = false; later = false; fault = None } =
      k.gives.3 ∙ ap (λ x. record { version = o.state.version; held = o.held ++ x; any = false; later = false; fault = None }) (sym all) in
      record {
        wanting = None;
        wanted = tt;
        shows = subst (λ f. ShowsPeer t i f.machine.conn (record p { reader = reader })) (sym is) (record {
          reader = now;
          ended = shows.ended;
          due = shows.due;
          knows = shows.knows;
          room = record { received = omega (arith, ap (λ (r : Reader). length r.held) now, partial_most (version_at o piece) (o.held ++ piece) part); ready = shows.room.ready };
        });
        consumed_is = subst (λ f. length piece ≡ length piece - length f.rest) (sym is) (omega arith);
      }

  -- An answer has bytes, or ends the connection.
  read_stops : (version : Version) (u : Unit) (bytes : List ℕ) → conn_stops (record { state = conn_after keep t o.state (Read version i u bytes); held = [] }) ≡ true
  read_stops version ResetQuery bytes = by_versions (versions i)
    where
      by_versions : (vs : List NumberedSet) → (false || not (is_none (sent_all version (whole_answer version (session_in version i) t vs)))) ≡ true
      by_versions [] = refl
      by_versions (now ∷ older) = refl
  read_stops version (SerialQuery session serial) bytes = by_test (session == session_in version i)
    where
      by_found : (now : NumberedSet) (found : Option NumberedSet) → (false || not (is_none (sent_all version (step_answer version (session_in version i) t now found)))) ≡ true
      by_found now None = refl
      by_found now (Some before) = refl

      by_versions : (vs : List NumberedSet) → (false || not (is_none (sent_all version (serial_answer version (session_in version i) keep t serial vs)))) ≡ true
      by_versions [] = refl
      by_versions (now ∷ older) = by_found now (with_serial serial (now ∷ take keep older))

      by_test : (b : Bool)
          → (let r : Reply = if b then and_on (serial_answer version (session_in version i) keep t serial (versions i)) else and_end (report 0 (sent version (SerialQuery session serial)) ∷ []) in not r.goes_on || not (is_none (sent_all version r.units))) ≡ true
      by_test true = by_versions (versions i)
      by_test false = refl
  read_stops version (ErrorReport r) bytes = refl
  read_stops version _ bytes = refl

  -- the moment at which a PDU is read
  abbrev moment : Bool → Version → Unit → List ℕ → Connection
  moment b version u bytes = conn_after keep t o.state (if b then Wanting version i u bytes else Read version i u bytes)

  moment_stops : (b : Bool) (version : Version) (u : Unit) (bytes : List ℕ) → conn_stops (record { state = moment b version u bytes; held = [] }) ≡ true
  moment_stops true version u bytes = refl
  moment_stops false version u bytes = read_stops version u bytes

  -- a connection at which a PDU of this version was read, and which speaks it
  pub record HasUnit (version : Version) (mid : Peer) : Type 0 where
    pub reader : mid.reader ≡ fresh (Some version) false
    pub speaks : mid.sender.version ≡ version
    pub room : ready_in mid.sender ≤ 4096

  moment_shown : (b : Bool) (version : Version) (u : Unit) (bytes : List ℕ) (mid new : Peer) → HasUnit version mid
      → SendsReply t i (if b then no_memory else answer version i keep t u) mid new → ShowsPeer t i (record { state = moment b version u bytes; held = [] }) new
  moment_shown true version u bytes mid new h a =
      record { reader = a.reader ∙ h.reader; ended = a.ended; due = a.due ∙ ap (λ v. sent_all v no_memory.units) h.speaks; knows = a.knows; room = fresh_room (Some version) new (a.reader ∙ h.reader) (a.room h.room) }
  moment_shown false version u bytes mid new h a =
      record { reader = a.reader ∙ h.reader; ended = a.ended; due = a.due ∙ ap (λ v. sent_all v (answer version i keep t u).units) h.speaks; knows = a.knows; room = fresh_room (Some version) new (a.reader ∙ h.reader) (a.room h.room) }

  -- a PDU of which these bytes were consumed
  unit_received : (piece taken rest : List ℕ) (u : Unit) (mid new : Peer) → conn_stops o ≡ false → piece ≡ taken ++ rest → IsPartial (version_at o taken) (as_read (version_at o taken) false o.held)
      → IsRead (version_at o taken) false (o.held ++ taken) u → HasUnit (version_at o taken) mid → ((memory : Bool) × SendsReply t i (read_reply (version_at o taken) keep t i memory u) mid new)
      → Receives keep t i o piece (length piece - length rest) new
  unit_received piece taken rest u mid new runs cut part is has a = by_memory a.0 (takes_memory version i u) refl a.1
    where
      version : Version
      version = version_at o taken

      bytes : List ℕ
      bytes = o.held ++ taken

      after_unit : Option ℕ → Taking
      after_unit w = conn_judged keep t i (start keep t i o w) version bytes (Whole u)

      to : (w : Option ℕ) → conn_stops (after_unit w).conn ≡ true → conn_takes keep t i w piece o ≡ record { machine = after_unit w; rest = rest }
      to w stop = ap (λ x. conn_takes keep t i w x o) cut ∙ takes_shown keep t i o w (after_unit w) taken rest (Whole u) runs part (unit_judged (version_at o taken) false (o.held ++ taken) u is) (λ held. refl) stop

      -- memory was there, or not needed
      read : (b : Bool) → (takes_memory version i u && not true) ≡ b → SendsReply t i (if b then no_memory else answer version i keep t u) mid new → Receives keep t i o piece (length piece - length rest) new
      read b e a = record {
        wanting = None;
        wanted = tt;
        shows = subst (λ f. ShowsPeer t i f.machine.conn new) (sym (to None (moment_stops (takes_memory version i u && not true) version u bytes)))
            (moment_shown (takes_memory version i u && not true) version u bytes mid new has (subst (λ c. SendsReply t i (if c then no_memory else answer version i keep t u) mid new) (sym e) a));
        consumed_is = subst (λ f. length piece - length rest ≡ length piece - length f.rest) (sym (to None (moment_stops (takes_memory version i u && not true) version u bytes))) refl;
      }

      by_memory : (memory takes : Bool) → takes_memory version i u ≡ takes → SendsReply t i (read_reply version keep t i memory u) mid new → Receives keep t i o piece (length piece - length rest) new
      by_memory true takes e a = read (takes_memory version i u && not true) refl a
      by_memory false false e a = read false (and-false (takes_memory version i u)) (subst (λ b. SendsReply t i (if b && not false then no_memory else answer version i keep t u) mid new) e a)
      by_memory false true e a =
          let all = to (Some 0) (moment_stops (takes_memory version i u && not false) version u bytes) in
          record {
            wanting = Some 0;
            wanted = subst (λ f. list_any is_wanting f.machine.moments ≡ true) (sym all) (ap (λ b. list_any is_wanting ((if b && not false then Wanting version i u bytes else Read version i u bytes) ∷ [])) e);
            shows = subst (λ f. ShowsPeer t i f.machine.conn new) (sym all) (moment_shown (takes_memory version i u && not false) version u bytes mid new has a);
            consumed_is = subst (λ f. length piece - length rest ≡ length piece - length f.rest) (sym all) refl;
          }

  pub receives_unit : (piece rest : List ℕ) (u : Unit) (p mid new : Peer) (reader : Reader) → conn_stops o ≡ false → ShowsPeer t i o p → IsReader (version_with p.reader piece) p.reader
      → ReaderTakes (version_with p.reader piece) p.reader piece (next.Unit u) rest reader → mid.reader ≡ reader → Speaks (spoken_in (known_version reader)) p.sender mid.sender
      → (Knows t i mid.sender → (memory : Bool) × SendsReply t i (read_reply mid.sender.version keep t i memory u) mid new) → Receives keep t i o piece (length piece - length rest) new
  receives_unit piece rest u p mid new reader runs shows stands h same speaks a =
      unit_received piece k.taken rest u mid new runs k.piece_is
      (subst (λ v. IsPartial v (as_read v false o.held)) is part) (subst (λ v. IsRead v false (o.held ++ k.taken) u) is k.gives.1) has
      (subst (λ v. (memory : Bool) × SendsReply t i (read_reply v keep t i memory u) mid new) has.speaks (a (knows_but t i p.sender mid.sender speaks.stays shows.knows)))
    where
      k : ReaderTakes (version_at o piece) own piece (next.Unit u) rest reader
      k = took p piece rest (next.Unit u) reader shows.reader h

      part : IsPartial (version_at o piece) (as_read (version_at o piece) false o.held)
      part = subst (λ r. IsReader (version_with r piece) r) shows.reader stands

      is : version_at o piece ≡ version_at o k.taken
      is = let long = unit_long (version_at o piece) false (o.held ++ k.taken) u k.gives.1.reads in taken_version piece k.taken rest k.piece_is (omega (arith, long))

      now : reader ≡ fresh (Some (version_at o k.taken)) false
      now = k.gives.2 ∙ ap (λ v. fresh (Some v) false) is

      has : HasUnit (version_at o k.taken) mid
      has = record { reader = same ∙ now; speaks = speaks.version_is ∙ ap (λ r. spoken_in (known_version r)) now; room = speaks.stays.room shows.room.ready }

  -- A header that has come determines the version in which is sent.
  header_whole : (agreed : Option Version) (bytes : List ℕ) → 8 ≤ length bytes → spoken_in (header_version agreed bytes) ≡ version_in agreed bytes
  header_whole (Some version) bytes h = refl
  header_whole None bytes h = ap (λ b. spoken_in (if b then None else Some (first_version bytes))) (not_below (length bytes) h)
    where
      not_below : (n : ℕ) → 8 ≤ n → nat_lt n 8 ≡ false
      not_below n h = grind (arith, nat_tests)

  pub receives_fault : (piece rest : List ℕ) (fault : UnitFault) (p new : Peer) (reader : Reader) → conn_stops o ≡ false → ShowsPeer t i o p → IsReader (version_with p.reader piece) p.reader
      → ReaderTakes (version_with p.reader piece) p.reader piece (next.Fault fault) rest reader → ReportsFault (record p { reader = reader }) fault new → Receives keep t i o piece (length piece - length rest) new
  receives_fault piece rest fault p new reader runs shows stands h f = by_gives k.gives
    where
      k : ReaderTakes (version_at o piece) own piece (next.Fault fault) rest reader
      k = took p piece rest (next.Fault fault) reader shows.reader h

      part : IsPartial (version_at o piece) (as_read (version_at o piece) false o.held)
      part = subst (λ r. IsReader (version_with r piece) r) shows.reader stands

      by_gives : ReaderGives (version_at o piece) own k.taken (next.Fault fault) rest reader → Receives keep t i o piece (length piece - length rest) new
      by_gives (inr again) = absurd (let e : ◌≡◌ {A = Option UnitFault} None (Some fault) = again.0 in cc)
      by_gives (inl first) =
          let long : 8 ≤ length (o.held ++ k.taken) = omega (arith, shows_long (version_at o piece) (as_read (version_at o piece) false (o.held ++ k.taken)) fault first.1.shows, length-as_read (version_at o piece) false (o.held ++ k.taken)) in
          let is : version_at o piece ≡ version_at o k.taken = taken_version piece k.taken rest k.piece_is (omega (arith, long)) in
          let spoken : spoken_in (known_version reader) ≡ version_at o k.taken = ap (λ r. spoken_in (known_version r)) first.2 ∙ header_whole o.state.version (o.held ++ k.taken) long in
          let all : conn_takes keep t i None piece o ≡ record { machine = conn_judged keep t i (start keep t i o None) (version_at o k.taken) (o.held ++ k.taken) (Faulty fault); rest = rest } =
          ap (λ x. conn_takes keep t i None x o) k.piece_is
          ∙ takes_shown keep t i o None (conn_judged keep t i (start keep t i o None) (version_at o k.taken) (o.held ++ k.taken) (Faulty fault)) k.taken rest (Faulty fault) runs
          (subst (λ v. IsPartial v (as_read v false o.held)) is part) (fault_judged (version_at o k.taken) false (o.held ++ k.taken) fault (subst (λ v. IsFaulty v false (o.held ++ k.taken) fault) is first.1)) (λ held. refl) refl in
          let now : new.reader ≡ fresh (Some (version_at o k.taken)) false = f.reader ∙ ap (λ v. fresh (Some v) false) spoken in
          record {
            wanting = None;
            wanted = tt;
            shows = subst (λ f. ShowsPeer t i f.machine.conn new) (sym all) (record {
              reader = now;
              ended = f.ended;
              due = f.due ∙ (λ j. sent_all (spoken j) (fault_report (first.2 j).version fault (first.2 j).held));
              knows = knows_but t i p.sender new.sender f.stays shows.knows;
              room = fresh_room (Some (version_at o k.taken)) new now (f.stays.room shows.room.ready);
            });
            consumed_is = subst (λ f. length piece - length rest ≡ length piece - length f.rest) (sym all) refl;
          }

  notified_not : (p : Peer) → can_notify i o ≡ false → ShowsPeer t i o p → (false ≡ can_notify i o) × ShowsPeer t i (conn_notified keep t i o) p
  unfolding conn_notified
  notified_not p e shows =
      (sym e, subst (λ c. ShowsPeer t i c p) (sym (ap (λ b. if b then record o { state = conn_after keep t o.state (Notify (speaks_in o) i o.held) } else o) e)) shows)

  pub notified_stops : (p : Peer) → conn_stops o ≡ true → ShowsPeer t i o p → (false ≡ can_notify i o) × ShowsPeer t i (conn_notified keep t i o) p
  notified_stops p stop shows = notified_not p (ap (λ b. is_published i && not b) stop ∙ and-false (is_published i)) shows

  unpublished : (vs : Option NumberedSet) → None ≡ option_map (λ (v : NumberedSet). v.serial) vs → vs ≡ None
  unpublished None h = refl
  unpublished (Some v) h = absurd (let e : None ≡ Some v.serial = h in cc)

  pub notified_none : (p : Peer) → None ≡ option_map (λ (v : NumberedSet). v.serial) (newest_of p.sender) → ShowsPeer t i o p → (false ≡ can_notify i o) × ShowsPeer t i (conn_notified keep t i o) p
  notified_none p none shows =
      notified_not p (ap (λ b. b && not (conn_stops o)) (by_sets i.sets (unpublished (newest (versions i)) (none ∙ ap (option_map (λ (v : NumberedSet). v.serial)) shows.knows.newest)))) shows
    where
      by_sets : (sets : List VrpSet) → newest (versions_from i.start sets) ≡ None → not (length sets == 0) ≡ false
      by_sets [] h = refl
      by_sets (set ∷ older) h = absurd (let e : Some (record { serial = serial_at i.start (length older); set = set }) ≡ None = h in cc)

  pub notified_some : (p mid : Peer) (session serial : ℕ) (sender : Sender) → conn_stops o ≡ false → mid.reader ≡ p.reader → mid.ended ≡ p.ended → Speaks (spoken_in (known_version p.reader)) p.sender mid.sender
      → session ≡ own_session mid.sender → Some serial ≡ option_map (λ (v : NumberedSet). v.serial) (newest_of p.sender) → ShowsPeer t i o p
      → Sends mid.sender (SerialNotify session serial ∷ []) sender → (true ≡ can_notify i o) × ShowsPeer t i (conn_notified keep t i o) (record mid { sender = sender })
  unfolding conn_notified
  notified_some p mid session serial sender runs reader ended speaks own some shows sends = grind (arith, common_steps)
