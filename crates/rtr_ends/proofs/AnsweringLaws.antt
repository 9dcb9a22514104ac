-- What the answers of a connection are.
use Rattle.rtr_ends.proofs.Words.{common_steps, ◌≡◌, ℕ, Bool, true, false, List, [], ◌∷◌, ◌++◌, take, Option, Some, None, option_map, if◌then◌else◌, refl, sym, ap, ◌∙◌, subst, arith, rules, Instance, NumberedSet, versions, with_serial, Known, NoData, Unknown, since, step_from, newest, Change, Unit, SerialQuery, ResetQuery, ErrorReport, Version, and-false}
use Rattle.rtr_ends.specs.Answer.{and_end, announcements, answer, report, response, sent, sent_all, serial_answer, session_in, step_answer, withdrawals}
use Rattle.rtr_ends.specs.Connection.{takes_memory}
use Rattle.rtr_ends.specs.Peer.{SendsReply, EndsConnection, Knows, no_memory, read_reply, since_reply}
use Rattle.rtr_ends.specs.Sender.{Sends, Stays, StaysBut, newest_of, own_session}
use Rattle.rtr_ends.specs.Timing.{Intervals}
use Rattle.rtr_ends.specs.declared.peer.Peer.{Peer}
use Rattle.rtr_ends.specs.declared.sender.Sender.{Sender}

pub stays_but : (old new : Sender) → Stays old new → StaysBut old new
stays_but old new s = record { sessions = s.sessions; timing = s.timing; newest = s.newest; room = s.room }

pub knows_but : (t : Intervals) (i : Instance) (old new : Sender) → StaysBut old new → Knows t i old → Knows t i new
knows_but t i old new s k = search rules

pub knows_stays : (t : Intervals) (i : Instance) (old new : Sender) → Stays old new → Knows t i old → Knows t i new
knows_stays t i old new s k = knows_but t i old new (stays_but old new s) k

-- the session in which it is answered
pub own_is : (t : Intervals) (i : Instance) (s : Sender) → Knows t i s → own_session s ≡ session_in s.version i
own_is t i s k = search rules

-- the change that is known is answered
pub record IsStep (version : Version) (session keep : ℕ) (t : Intervals) (serial : ℕ) (vs : List NumberedSet) (change : Change) : Type 0 where
  pub now : NumberedSet
  pub newest_is : newest vs ≡ Some now
  pub answer_is : serial_answer version session keep t serial vs ≡ response version session t now (withdrawals change.withdraw ++ announcements change.announce)

stepped : (version : Version) (session : ℕ) (t : Intervals) (now : NumberedSet) (found : Option NumberedSet) (change : Change) → Known change ≡ step_from now found
    → step_answer version session t now found ≡ response version session t now (withdrawals change.withdraw ++ announcements change.announce)
stepped version session t now None change h = absurd (let e : Known change ≡ Unknown = h in cc)
stepped version session t now (Some before) change h =
    let same : change ≡ _ = cc in ap (λ c. response version session t now (withdrawals c.withdraw ++ announcements c.announce)) (sym same)

known_step : (version : Version) (session keep : ℕ) (t : Intervals) (serial : ℕ) (vs : List NumberedSet) (change : Change) → Known change ≡ since keep serial vs → IsStep version session keep t serial vs change
known_step version session keep t serial [] change h = absurd (let e : Known change ≡ NoData = h in cc)
known_step version session keep t serial (now ∷ older) change h = record { now = now; newest_is = refl; answer_is = stepped version session t now (with_serial serial (now ∷ take keep older)) change h }

module _ (keep : ℕ) (t : Intervals) (i : Instance) where
  -- What `answer_since` does at each outcome of the store
  abbrev pub Since : ℕ → Peer → Peer → Type 0
  Since serial old new = (memory : Bool) × SendsReply t i (since_reply old.sender.version keep t i memory serial) old new

  pub since_change : (serial : ℕ) (old : Peer) (change : Change) (sender : Sender) → old.ended ≡ false → Knows t i old.sender → Known change ≡ since keep serial (versions i)
      → ((v : NumberedSet) → newest_of old.sender ≡ Some v → Sends old.sender (response old.sender.version (own_session old.sender) old.sender.timing v (withdrawals change.withdraw ++ announcements change.announce)) sender)
      → Since serial old (record old { sender = sender })
  since_change serial old change sender goes_on k h sends =
      let s = known_step old.sender.version (session_in old.sender.version i) keep t serial (versions i) change h in
      let sending = sends s.now (k.newest ∙ s.newest_is) in (
        true,
        record {
          reader = refl;
          ended = goes_on;
          due = sending.due ∙ (λ j. sent_all old.sender.version (response old.sender.version (own_is t i old.sender k j) (k.timing j) s.now (withdrawals change.withdraw ++ announcements change.announce))) ∙ ap (sent_all old.sender.version) (sym s.answer_is);
          knows = knows_stays t i old.sender sender sending.stays k;
          room = sending.stays.room;
        },
      )

  -- with memory an answer is what it is
  with_memory : (version : Version) (u : Unit) → read_reply version keep t i true u ≡ answer version i keep t u
  with_memory version u = ap (λ b. if b then no_memory else answer version i keep t u) (and-false (takes_memory version i u))

  abbrev pub Serial : ℕ → ℕ → Peer → Peer → Type 0
  Serial session serial old new = (memory : Bool) × SendsReply t i (read_reply old.sender.version keep t i memory (SerialQuery session serial)) old new

  pub serial_since : (session serial current : ℕ) (old new : Peer) → Knows t i old.sender → session ≡ own_session old.sender → Some current ≡ option_map (λ (v : NumberedSet). v.serial) (newest_of old.sender)
      → Since serial old new → Serial session serial old new
  serial_since session serial current old new k same some s = grind (arith, common_steps)

  abbrev pub Unitwise : Unit → Peer → Peer → Type 0
  Unitwise u old new = (memory : Bool) × SendsReply t i (read_reply old.sender.version keep t i memory u) old new

  pub unit_other : (old new : Peer) (u : Unit) → Knows t i old.sender → (u ≡ ResetQuery → ⊥) → ((session serial : ℕ) → u ≡ SerialQuery session serial → ⊥) → ((r : _) → u ≡ ErrorReport r → ⊥) → EndsConnection old (report 3 (sent old.sender.version u) ∷ []) new → Unitwise u old new
  unit_other old new u k no_reset no_serial no_report e = (
    true,
    subst (λ r. SendsReply t i r old new) (sym (with_memory old.sender.version u ∙ others old.sender.version u no_reset no_serial no_report))
        (record { reader = e.reader; ended = e.ended; due = e.sends.due; knows = knows_stays t i old.sender new.sender e.sends.stays k; room = e.sends.stays.room }),
  )
    where
      others : (version : Version) (u : Unit) → (u ≡ ResetQuery → ⊥) → ((session serial : ℕ) → u ≡ SerialQuery session serial → ⊥) → ((r : _) → u ≡ ErrorReport r → ⊥) → answer version i keep t u ≡ and_end (report 3 (sent version u) ∷ [])
      others version (SerialQuery s n) a b c = absurd (b s n refl)
      others version ResetQuery a b c = absurd (a refl)
      others version (ErrorReport r) a b c = absurd (c r refl)
      others version _ a b c = refl
