-- What a router gave are its questions and its report.
use Rattle.rtr_ends.proofs.Words.{◌≡◌, ℕ, Bool, true, false, List, [], ◌∷◌, ◌++◌, take, drop, Some, None, if◌then◌else◌, refl, sym, ap, ◌∙◌, subst, append_assoc, inl, inr, rules, append-nil, take-append-drop, Begins, Whole, Faulty, is_kind, Unit, UnitFault, Version}
use Rattle.rtr_pdu.specs.declared.kind.Kind.TheVariants as kinds
use Rattle.rtr_pdu.specs.declared.unit.UnitFault.TheVariants as faults
use Rattle.rtr_ends.specs.declared.link.End.{End}
use Rattle.rtr_ends.specs.declared.link.End.TheVariants as ends
use Rattle.rtr_ends.specs.Answer.{report, sent, sent_all}
use Rattle.rtr_ends.specs.Connection.{agreed_version, fault_code, fault_report}
use Rattle.rtr_ends.specs.LinkRules.{Router, ask, asking, commit, emptied, on_unit, reports, ended_by}
use Rattle.rtr_ends.specs.Router.{RouterCall, Connects, Receives, Pulls, Speaks, Configures, asked_by, called, clocked, close, connects_at, fault_end, played, reads, router_pulled}
use Rattle.rtr_ends.specs.RouterLaws.{HasSaid, RouterSays, SaysLast, is_cut, pulled_by, questions_in}
use Rattle.rtr_ends.specs.RouterLink.{Link, Closed, Idle, Asked, Answering, Ended, is_idle, is_reading}
use Rattle.rtr_ends.specs.Transcript.{Question, AskReset, AskSerial, Asks, Item, At, Reads, Shut, choose, later, of_version, query, retry_of, sum_of}
use Rattle.rtr_ends.proofs.ByteLists.{drop_none}
use Rattle.rtr_ends.proofs.Effects.{by_clock, by_close, by_unit, by_whole, put_by}
use Rattle.rtr_ends.proofs.CallSteps.{BytesKeep, StepsKeep, by_call, by_piece}
use Rattle.rtr_ends.proofs.TableLaws.{false_true}

-- the bytes of the question that a PDU made the router put
abbrev put : Version → Link → List ℕ → List ℕ
put version (Asked q) (b ∷ out) = sent version (query q)
put version link out = []

-- what a PDU makes a router say that had nothing to be pulled
record UnitSays (version : Version) (n : Router) : Type 0 where
  pub spoken : n.spoken ≡ version
  pub report : List ℕ
  pub reported : SaysLast n.link version report
  pub out : n.out ≡ put version n.link n.out ++ report
  pub whole : is_cut n.link ≡ false

-- nothing
quiet : (n : Router) → n.out ≡ [] → SaysLast n.link n.spoken [] → is_cut n.link ≡ false → UnitSays n.spoken n
quiet n none last whole = search rules

-- nothing, and the link is as it was
reading_quiet : (l : Link) (version : Version) → is_reading l ≡ true → SaysLast l version [] × (is_cut l ≡ false)
reading_quiet Closed version live = false_true live
reading_quiet (Ended end) version live = false_true live
reading_quiet _ version live = (refl, refl)

stays : (r : Router) → is_reading r.link ≡ true → r.out ≡ [] → UnitSays r.spoken r
stays r live none = let k = reading_quiet r.link r.spoken live in quiet r none k.0 k.1

-- a report
says_report : (code : ℕ) (u : Unit) (r : Router) → UnitSays r.spoken (reports code u r)
says_report code u r = record { spoken = refl; report = sent r.spoken (report code (sent r.spoken u)); reported = (sent r.spoken u, refl); out = refl; whole = refl }

-- a question
put_it : (version : Version) (q : Question) → sent version (query q) ≡ put version (Asked q) (sent version (query q)) ++ []
put_it version AskReset = sym (append-nil (sent version (query AskReset)))
put_it version (AskSerial session serial) = sym (append-nil (sent version (query (AskSerial session serial))))

says_question : (q : Question) (r : Router) → UnitSays r.spoken (asking q r)
says_question q r = record { spoken = refl; report = []; reported = refl; out = put_it r.spoken q; whole = refl }

unit_says : (u : Unit) (r : Router) → is_reading r.link ≡ true → r.out ≡ [] → UnitSays r.spoken (on_unit r.link u r)
unit_says u r live none = by_unit (UnitSays r.spoken) r.link u r (record {
  stays = stays r live none;
  asks = λ agreed h. says_question (put_by u r) (record r { agreed = agreed });
  begins = λ q session. quiet (record r { agreed = true; session = Some session; link = Answering (record { question = q; session = session; withdrawn = []; announced = [] }) }) none refl refl;
  reported = says_report 0 u r;
  failed = says_report 0 u (emptied r);
  waits = λ agreed h. quiet (record r { agreed = agreed; link = Idle; due = Some (sum_of r.now (retry_of r.config r.version)); no_data = true }) none refl refl;
  told = λ agreed h code. quiet (ended_by code (record r { agreed = agreed })) none refl refl;
  empties = λ agreed h code. quiet (ended_by code (emptied (record r { agreed = agreed }))) none refl refl;
  stages = λ on a. quiet (record r { link = Answering a }) none refl refl;
  wrong = λ on code. record { spoken = refl; report = sent r.spoken (report code (sent r.spoken u)); reported = (sent r.spoken u, refl); out = refl; whole = refl };
  over = λ on. quiet (record r { link = Ended ends.TooMany }) none refl refl;
  commits = λ on a version. quiet (commit a version r) none refl refl;
})

-- what is known of a router and the bytes that it gave: an idle link has none to be pulled
record Says (given : List ℕ) (r : Router) (items : List Item) : Type 0 where
  pub said : HasSaid r items given
  pub idle : is_idle r.link ≡ true → r.out ≡ []

-- a link that reads has reported nothing
no_report : (l : Link) (version : Version) (report : List ℕ) → is_reading l ≡ true → SaysLast l version report → report ≡ []
no_report Closed version report live e = false_true live
no_report (Ended end) version report live e = false_true live
no_report _ version report live e = e

-- if bytes are read, all replies were given
given_all : (given : List ℕ) (r : Router) (items : List Item) → is_reading r.link ≡ true → r.out ≡ [] → HasSaid r items given → given ≡ questions_in r.spoken items
given_all given r items live none h =
    let dropped = h.whole (reading_quiet r.link r.spoken live).1 in
    let silent = no_report r.link r.spoken h.report live h.reported in
    sym (append-nil given) ∙ (λ i. given ++ (sym none i ++ sym dropped i)) ∙ h.said ∙ ap (λ x. questions_in r.spoken items ++ x) silent ∙ append-nil (questions_in r.spoken items)

-- what a PDU adds to the questions
put_adds : (version : Version) (l : Link) (out : List ℕ) (items : List Item) → questions_in version (asked_by l out ++ items) ≡ questions_in version items ++ put version l out
put_adds version (Asked q) (b ∷ out) items = refl
put_adds version _ _ items = sym (append-nil (questions_in version items))

idle_none : (version : Version) (l : Link) (out report : List ℕ) → SaysLast l version report → out ≡ put version l out ++ report → is_idle l ≡ true → out ≡ []
idle_none version Idle out report last e idle = e ∙ last
idle_none version _ out report last e idle = false_true idle

reads_says : (given : List ℕ) (u : Unit) (r : Router) (items : List Item) → is_reading r.link ≡ true → r.out ≡ [] → HasSaid r items given → Says given (reads u r).router ((reads u r).items ++ items)
reads_says given u r items live none h = record {
  said = record { report = s.report; reported = subst (λ v. SaysLast n.link v s.report) (sym s.spoken) s.reported; dropped = []; said = said; whole = λ k. refl };
  idle = λ k. idle_none r.spoken n.link n.out s.report s.reported s.out k;
}
  where
    n : Router
    n = on_unit r.link u r

    s : UnitSays r.spoken n
    s = unit_says u r live none

    said : given ++ (n.out ++ []) ≡ questions_in n.spoken ((asked_by n.link n.out ++ Reads u ∷ []) ++ items) ++ s.report
    said =
        ap (λ x. given ++ x) (append-nil n.out ∙ s.out)
        ∙ ap (λ x. x ++ (put r.spoken n.link n.out ++ s.report)) (given_all given r items live none h)
        ∙ sym (append_assoc (questions_in r.spoken items) (put r.spoken n.link n.out) s.report)
        ∙ ap (λ x. x ++ s.report) (sym (put_adds r.spoken n.link n.out (Reads u ∷ items)))
        ∙ ap (λ x. questions_in r.spoken x ++ s.report) (sym (append_assoc (asked_by n.link n.out) (Reads u ∷ []) items))
        ∙ ap (λ v. questions_in v ((asked_by n.link n.out ++ Reads u ∷ []) ++ items) ++ s.report) (sym s.spoken)

-- what a fault makes it say: a report, or nothing on an Error Report
record FaultSays (version : Version) (end : End) (out : List ℕ) : Type 0 where
  pub reported : SaysLast (Ended end) version out
  pub whole : is_cut (Ended end) ≡ false

report_or_none : (version : Version) (bytes : List ℕ) (b : Bool) (code : ℕ) → FaultSays version (if b then ends.Malformed else ends.Reported code) (sent_all version (if b then [] else report code bytes ∷ []))
report_or_none version bytes true code = record { reported = refl; whole = refl }
report_or_none version bytes false code = record { reported = (bytes, append-nil (sent version (report code bytes))); whole = refl }

fault_says : (version : Version) (agreed : Bool) (fault : UnitFault) (bytes : List ℕ) → (fault ≡ faults.Truncated → ⊥)
    → FaultSays version (fault_end (agreed_version agreed version) fault bytes) (sent_all version (fault_report (agreed_version agreed version) fault bytes))
fault_says version agreed faults.Truncated bytes none = absurd (none refl)
fault_says version agreed faults.Version bytes none = report_or_none version bytes (is_kind kinds.ErrorReport bytes) (fault_code (agreed_version agreed version) faults.Version)
fault_says version agreed fault bytes none = report_or_none version bytes (is_kind kinds.ErrorReport bytes) (fault_code (agreed_version agreed version) fault)

-- bytes, as they are judged
bytes_say : (given : List ℕ) → BytesKeep (Says given)
bytes_say given memory bytes r Begins items some live none s =
    record { said = record { report = s.said.report; reported = s.said.reported; dropped = s.said.dropped; said = s.said.said; whole = s.said.whole }; idle = s.idle }
bytes_say given memory bytes r (Faulty fault) items some live none s =
    let out : List ℕ = sent_all r.spoken (fault_report (agreed_version r.agreed r.spoken) fault bytes) in
    let f = fault_says r.spoken r.agreed fault bytes (λ e. some (ap (λ x. Faulty x) e)) in
    record {
      said = record {
        report = out;
        reported = f.reported;
        dropped = [];
        said = ap (λ x. given ++ x) (append-nil out) ∙ ap (λ x. x ++ out) (given_all given r items live none s.said);
        whole = λ k. refl;
      };
      idle = λ k. false_true k;
    }
bytes_say given memory bytes r (Whole u) items some live none s = by_whole (λ n. Says given n.router (n.items ++ items)) memory bytes r u
    (record {
      said = record {
        report = [];
        reported = refl;
        dropped = [];
        said = ap (λ x. given ++ x) (append-nil r.out ∙ none) ∙ append-nil given ∙ given_all given r items live none s.said ∙ sym (append-nil (questions_in r.spoken items));
        whole = λ k. refl;
      };
      idle = λ k. false_true k;
    })
    (reads_says given u (record r { held = [] }) items live none (record { report = s.said.report; reported = s.said.reported; dropped = s.said.dropped; said = s.said.said; whole = s.said.whole }))

-- A link is cut: what was not pulled is dropped. Nothing else is said.
cuts : (given : List ℕ) (r n : Router) (items next : List Item) → n.out ≡ [] → n.spoken ≡ r.spoken → questions_in r.spoken next ≡ questions_in r.spoken items → is_idle n.link ≡ false → is_cut n.link ≡ true
    → (h : HasSaid r items given) → SaysLast n.link r.spoken h.report → Says given n next
cuts given r n items next none same more not_idle cut h last = record {
  said = record {
    report = h.report;
    reported = subst (λ v. SaysLast n.link v h.report) (sym same) last;
    dropped = r.out ++ h.dropped;
    said =
        ap (λ x. given ++ (x ++ (r.out ++ h.dropped))) none
        ∙ h.said
        ∙ ap (λ x. x ++ h.report) (sym more)
        ∙ ap (λ v. questions_in v next ++ h.report) (sym same);
    whole = λ k. false_true (sym k ∙ cut);
  };
  idle = λ k. false_true (sym not_idle ∙ k);
}

-- The clock adds nothing to the replies; if a Serial Query expires the link is cut.
clocked_says : (given : List ℕ) (now : ℕ) (r : Router) (items : List Item) → Says given r items → Says given (clocked now r) (At now ∷ items)
clocked_says given now r items s = by_clock (λ n. Says given n (At now ∷ items)) now r
    (λ holds. record { said = record { report = s.said.report; reported = s.said.reported; dropped = s.said.dropped; said = s.said.said; whole = s.said.whole }; idle = s.idle })
    (λ over on. record { said = record { report = s.said.report; reported = s.said.reported; dropped = s.said.dropped; said = s.said.said; whole = s.said.whole }; idle = s.idle })
    (λ over live open_so. cuts given r (record (emptied r) { now = later r.now now; link = Ended ends.Expired; out = [] }) items (At now ∷ items) refl refl refl refl refl s.said (no_report r.link r.spoken s.said.report live s.said.reported))

-- a link that is closed: what was said last may be a report
last_closed : (l : Link) (version : Version) (report : List ℕ) → SaysLast l version report → SaysLast Closed version report
last_closed Closed version report e = e
last_closed (Ended (ends.Reported code)) version report e = inr (code, e)
last_closed _ version report e = inl e

close_says : (given : List ℕ) (r : Router) (items : List Item) → Says given r items → Says given (close r) (Shut ∷ items)
close_says given r items s = by_close (λ n. Says given n (Shut ∷ items)) r
    (λ is. record { said = record { report = s.said.report; reported = s.said.reported; dropped = s.said.dropped; said = s.said.said; whole = s.said.whole }; idle = s.idle })
    (λ is. cuts given r (record r { link = Closed; agreed = false; session = None; held = []; out = []; due = Some (sum_of r.now (retry_of r.config r.version)) }) items (Shut ∷ items) refl refl refl refl refl s.said
    (last_closed r.link r.spoken s.said.report s.said.reported))

-- an idle link asks
asks_say : (given : List ℕ) (r : Router) (items : List Item) → is_idle r.link ≡ true → Says given r items → Says given (ask r) (Asks (choose (of_version r.spoken r.version) r.mark) ∷ items)
asks_say given r items idle s = search rules

steps_say : (given : List ℕ) → StepsKeep (Says given)
steps_say given = record { clock = clocked_says given; closes = close_says given; asks_it = asks_say given }

-- the bytes given after a call
abbrev given_after : RouterCall → Router → List ℕ → List ℕ
given_after (Connects now) r given = []
given_after (Pulls most) r given = given ++ take most r.out
given_after call r given = given

called_says : (call : RouterCall) (given : List ℕ) (r : Router) (items : List Item) → Says given r items → Says (given_after call r given) (called call r).router ((called call r).items ++ items)
unfolding connects_at router_pulled
called_says (Connects now) given r items s = record {
  said = record { report = []; reported = refl; dropped = []; said = refl; whole = λ k. refl };
  idle = λ k. false_true k;
}
called_says (Receives now wanting piece) given r items s = by_piece (Says given) (clocked_says given) (bytes_say given) now wanting piece r items s
called_says (Pulls most) given r items s = record {
  said = record {
    report = s.said.report;
    reported = s.said.reported;
    dropped = s.said.dropped;
    said = append_assoc given (take most r.out) (drop most r.out ++ s.said.dropped) ∙ ap (λ x. given ++ x) (sym (append_assoc (take most r.out) (drop most r.out) s.said.dropped)) ∙ ap (λ x. given ++ (x ++ s.said.dropped)) (take-append-drop most r.out) ∙ s.said.said;
    whole = s.said.whole;
  };
  idle = λ k. drop_none most r.out (s.idle k);
}
called_says (Speaks version) given r items s =
    record { said = record { report = s.said.report; reported = s.said.reported; dropped = s.said.dropped; said = s.said.said; whole = s.said.whole }; idle = s.idle }
called_says (Configures config) given r items s =
    record { said = record { report = s.said.report; reported = s.said.reported; dropped = s.said.dropped; said = s.said.said; whole = s.said.whole }; idle = s.idle }
called_says call given r items s = by_call (Says given) (steps_say given) call refl r items s

given_is : (call : RouterCall) (calls : List RouterCall) → given_after call (played calls).router (pulled_by calls) ≡ pulled_by (call ∷ calls)
given_is (Connects now) calls = refl
given_is _ calls = refl

played_says : (calls : List RouterCall) → Says (pulled_by calls) (played calls).router (played calls).items
played_says [] = record { said = record { report = []; reported = inl refl; dropped = []; said = refl; whole = λ k. refl }; idle = λ k. refl }
played_says (call ∷ calls) =
    subst (λ x. Says x (played (call ∷ calls)).router (played (call ∷ calls)).items) (given_is call calls)
    (called_says call (pulled_by calls) (played calls).router (played calls).items (played_says calls))

-- What a router gave, and has to be pulled, is what it said.
pub router_says : RouterSays
router_says calls = (played_says calls).said
