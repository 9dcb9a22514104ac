-- What a PDU does to a router, if it belongs there: a notify, the reply to a question, or more of an answer. A law of each effect is one of
-- the PDU.
use Rattle.rtr_world.proofs.Words.{◌≡◌, ℕ, ◌+◌, ◌≤◌, ◌<◌, Bool, true, false, not, ◌&&◌, ◌==◌, List, [], ◌∷◌, ◌++◌, length, Option, Some, None, if◌then◌else◌, refl, sym, ap, ◌∙◌, inl, inr, subst, subst₂, Payload, eq_true, Instance, VrpSet, Unit, SerialNotify, CacheResponse, Prefix, EndOfData, EndOfData0, CacheReset, report, session_in, Sent, Router, Staged, Stays, asking, ask, commit, emptied, ended_by, fails, is_news, is_strange, on_unit, stage, staged, Link, Idle, Asked, Answering, is_reading, Intervals, Begun, Committed, Question, AskReset, AskSerial, base_of, bounded, differs, is_wrong, led_to, of_version, retry_of, session_of, sum_of, either, false_true, chosen, default_config, limit_of}
use Rattle.rtr_world.specs.OneAnswer.{NotifiesOf, OwnNotifies, units_in, without_notifies}
use Rattle.rtr_world.proofs.Invariant.{after_stage, IsOwn, Leads, Mine, OfAnswer, OneReply, OwnSession, QuestionFits, Replies, no_data, not_kept, other_session, no_memory, response, Shape, nothing_yet}
use Rattle.rtr_world.proofs.SentLaws.{HeadCase, a_notify, another, head_case}
use Rattle.rtr_world.proofs.UnitStreams.{head_is, tail_is}
use Rattle.rtr_world.proofs.Versions.{Seen, Stands, find_session}

pub no_unit : (u : Unit) (us : List Unit) → u ∷ us ≡ [] → ⊥
no_unit u us e = cc

-- no notify of the connection's session is strange
same_session : (one session : ℕ) → one ≡ session → not (one == session) ≡ false
same_session one session e = ap not (eq_true one session e)

no_difference : (session one : ℕ) (own : Option ℕ) (version : Option Committed) → one ≡ session → OwnSession session own → Mine session version → differs (session_of own version) one ≡ false
no_difference session one (Some s) version e own mine = same_session s one (own ∙ sym e)
no_difference session one None None e own mine = refl
no_difference session one None (Some v) e own mine = same_session v.session one (mine ∙ sym e)

pub not_strange : (h : Seen) (r : Router) (u : Sent) (more : List Sent) (one serial : ℕ) → h.session ≡ session_in r.spoken h.made → OwnNotifies r.agreed r.spoken h.made (u ∷ more) → u.unit ≡ SerialNotify one serial → OwnSession h.session r.session
    → (r.agreed ≡ true → Mine h.session (of_version r.spoken r.version)) → is_strange r one ≡ false
not_strange h r u more one serial same comes is own mine = by_agreed r.agreed refl comes
  where
    by_agreed : (b : Bool) → r.agreed ≡ b → OwnNotifies b r.spoken h.made (u ∷ more) → (b && differs (session_of r.session (of_version r.spoken r.version)) one) ≡ false
    by_agreed false a comes = refl
    by_agreed true a comes = no_difference h.session one r.session (of_version r.spoken r.version) ((subst (λ x. NotifiesOf (session_in r.spoken h.made) (x ∷ units_in more)) is comes.1).0 ∙ sym same) own (mine a)

-- a question of what is committed is of the connection's session
pub fits_mine : (session : ℕ) (q : Question) (version : Option Committed) → QuestionFits session q version → IsOwn session q → Mine session version
fits_mine session AskReset version f own = f
fits_mine session (AskSerial one serial) None f own = tt
fits_mine session (AskSerial one serial) (Some version) f own = sym f.0 ∙ own

pub right_response : (session : ℕ) (q : Question) (version : Option Committed) → QuestionFits session q version → IsOwn session q → is_wrong (Some q) version session ≡ false
right_response session AskReset version f own = refl
right_response session (AskSerial one serial) None f own = refl
right_response session (AskSerial one serial) (Some version) f own = same_session version.session session (sym f.0 ∙ own)

module _ (all : List Instance) (h : Seen) (r : Router) where
  -- the first PDU of a reply, with what is left of it
  pub record ReplyDoes (P : Question → Unit → Router → Type 0) (rest : List Unit) : Type 0 where
    pub idles : (copy : List ℕ) → rest ≡ [] → P AskReset (report 2 copy) (record r { agreed = true; link = Idle; due = Some (sum_of r.now (retry_of r.config r.version)); no_data = true })
    pub again : (serial : ℕ) → rest ≡ [] → P (AskSerial h.session serial) CacheReset (asking AskReset (record r { agreed = true }))
    pub other : (session serial : ℕ) (copy : List ℕ) → (session ≡ h.session → ⊥) → P (AskSerial session serial) (report 0 copy) (ended_by 0 (emptied (record r { agreed = true })))
    pub lacks : (q : Question) → rest ≡ [] → P q (report 1 []) (ended_by 1 (record r { agreed = true }))
    pub begins : (q : Question) → IsOwn h.session q → OfAnswer all r.spoken h (base_of q r.table) (nothing_yet q h.session) rest → P q (CacheResponse h.session) (record r { agreed = true; session = Some h.session; link = Answering (nothing_yet q h.session) })

  pub by_reply : (P : Question → Unit → Router → Type 0) (q : Question) (u : Unit) (rest : List Unit) → QuestionFits h.session q (of_version r.spoken r.version) → Replies all r.spoken h q (base_of q r.table) (u ∷ rest) → ReplyDoes P rest → P q u (on_unit (Asked q) u r)
  unfolding on_unit
  by_reply P q u rest fits (no_data copy qe e) d =
      subst₂ (λ a b. P a b (on_unit (Asked a) b r)) (sym qe) (sym (head_is u (report 2 copy) rest [] e)) (d.idles copy (tail_is u (report 2 copy) rest [] e))
  by_reply P q u rest fits (not_kept serial qe e) d =
      subst₂ (λ a b. P a b (on_unit (Asked a) b r)) (sym qe) (sym (head_is u CacheReset rest [] e)) (d.again serial (tail_is u CacheReset rest [] e))
  by_reply P q u rest fits (other_session session serial copy qe other e) d =
      subst₂ (λ a b. P a b (on_unit (Asked a) b r)) (sym qe) (sym (head_is u (report 0 copy) rest [] e)) (d.other session serial copy other)
  by_reply P q u rest fits (no_memory e) d = subst (λ b. P q b (on_unit (Asked q) b r)) (sym (head_is u (report 1 []) rest [] e)) (d.lacks q (tail_is u (report 1 []) rest [] e))
  by_reply P q u rest fits (response tail e own a) d =
      subst (λ b. P q b (on_unit (Asked q) b r)) (sym (head_is u (CacheResponse h.session) rest tail e))
      (subst (λ b. P q (CacheResponse h.session) (if b then fails (CacheResponse h.session) r else record r { agreed = true; session = Some h.session; link = Answering (nothing_yet q h.session) }))
      (sym (right_response h.session q (of_version r.spoken r.version) fits own))
      (d.begins q own (subst (λ x. OfAnswer all r.spoken h (base_of q r.table) (nothing_yet q h.session) x) (sym (tail_is u (CacheResponse h.session) rest tail e)) a)))

  -- what the End of Data of an answer says
  abbrev pub Leaves : Begun → List Unit → ℕ → ℕ → ℕ → VrpSet → Type 0
  Leaves a rest one number serial set = (rest ≡ []) × (one ≡ h.session) × (number ≡ serial) × (led_to (base_of a.question r.table) a.withdrawn a.announced ≡ set)

  -- a PDU of the rest of an answer: a record, or the End of Data
  pub record AnswerDoes (P : Unit → Router → Type 0) (a : Begun) (rest : List Unit) : Type 0 where
    pub stages : (announce : Bool) (v : Payload) (b : Begun) → stage 16777215 (base_of a.question r.table) a announce v ≡ Stays b → P (Prefix announce v) (record r { link = Answering b })
    pub commits : (u : Unit) (one number : ℕ) (intervals : Intervals) → ((serial : ℕ) (set : VrpSet) → Leads (base_of a.question r.table) a (u ∷ rest) h.session serial set → Leaves a rest one number serial set)
        → P u (commit a (record { version = r.spoken; session = one; serial = number; moment = r.now; intervals = intervals }) r)

  pub by_answer : (P : Unit → Router → Type 0) (a : Begun) (u : Unit) (rest : List Unit) (serial : ℕ) (set : VrpSet) → r.config ≡ default_config → a.session ≡ h.session → Leads (base_of a.question r.table) a (u ∷ rest) h.session serial set → AnswerDoes P a rest → P u (on_unit (Answering a) u r)
  unfolding on_unit
  by_answer P a (Prefix announce v) rest serial set plain own leads d =
      subst (λ c. P (Prefix announce v) (staged (Prefix announce v) (stage (limit_of c) (base_of a.question r.table) a announce v) r)) (sym plain) (by_stage (stage 16777215 (base_of a.question r.table) a announce v) refl leads)
    where
      by_stage : (s : Staged) → stage 16777215 (base_of a.question r.table) a announce v ≡ s → after_stage s (λ b. Leads (base_of a.question r.table) b rest h.session serial set) → P (Prefix announce v) (staged (Prefix announce v) s r)
      by_stage (Stays b) e on = d.stages announce v b e
      by_stage _ e on = absurd on
  by_answer P a (EndOfData one number refresh retry expire) rest serial set plain own leads d =
      subst (λ b. P (EndOfData one number refresh retry expire) (if b then commit a (record { version = r.spoken; session = one; serial = number; moment = r.now; intervals = chosen r.config (bounded refresh retry expire) }) r else fails (EndOfData one number refresh retry expire) r))
      (sym (eq_true one a.session (leads.1 ∙ sym own))) (d.commits (EndOfData one number refresh retry expire) one number (chosen r.config (bounded refresh retry expire)) (λ serial set l. l))
  by_answer P a (EndOfData0 one number) rest serial set plain own leads d =
      subst (λ b. P (EndOfData0 one number) (if b then commit a (record { version = r.spoken; session = one; serial = number; moment = r.now; intervals = r.config.intervals }) r else fails (EndOfData0 one number) r))
      (sym (eq_true one a.session (leads.1 ∙ sym own))) (d.commits (EndOfData0 one number) one number r.config.intervals (λ serial set l. l))
  by_answer P a u rest serial set plain own leads d = absurd leads

  -- what an answer leads to is under the name of its End of Data
  stands_as : (one number session serial : ℕ) (led set : VrpSet) → one ≡ session → number ≡ serial → led ≡ set → (s : Stands all r.spoken session serial set) → (t : Stands all r.spoken one number led) × (t.older ≡ s.older)
  stands_as one number session serial led set es en el s = (
    record { i = s.i; found = ap (λ x. find_session r.spoken x all) es ∙ s.found; newer = s.newer; older = s.older; sets = s.sets ∙ ap (λ x. s.newer ++ x ∷ s.older) (sym el); serial_is = en ∙ s.serial_is; young = s.young; low = subst (λ x. x < 65536) (sym es) s.low },
    refl,
  )

  -- every PDU that may come to a link that reads, with what comes behind it
  pub record Does (P : Link → Unit → Router → Type 0) (wanted rest : List Unit) : Type 0 where
    pub asks : (one serial : ℕ) → r.link ≡ Idle → Shape all r.spoken h Idle r.agreed r.version r.table wanted rest → P Idle (SerialNotify one serial) (ask r)
    pub stays : (l : Link) (one serial : ℕ) → r.link ≡ l → is_reading l ≡ true → Shape all r.spoken h l r.agreed r.version r.table wanted rest → P l (SerialNotify one serial) r
    pub replies : wanted ≡ [] → ReplyDoes (λ q u k. QuestionFits h.session q (of_version r.spoken r.version) → OneReply all r.spoken h q (u ∷ rest) → P (Asked q) u k) rest
    pub stages : (a : Begun) (announce : Bool) (v : Payload) (b : Begun) → wanted ≡ [] → r.agreed ≡ true → a.session ≡ h.session → QuestionFits h.session a.question (of_version r.spoken r.version) → OfAnswer all r.spoken h (base_of a.question r.table) a (Prefix announce v ∷ rest)
        → stage 16777215 (base_of a.question r.table) a announce v ≡ Stays b → P (Answering a) (Prefix announce v) (record r { link = Answering b })
    pub commits : (a : Begun) (u : Unit) (one number : ℕ) (intervals : Intervals) → wanted ≡ [] → rest ≡ [] → r.agreed ≡ true → one ≡ h.session → (stands : Stands all r.spoken one number (led_to (base_of a.question r.table) a.withdrawn a.announced))
        → length h.sets ≤ length stands.older + 1 → P (Answering a) u (commit a (record { version = r.spoken; session = one; serial = number; moment = r.now; intervals = intervals }) r)

  -- A notify is news to an idle link, or does nothing.
  by_notify : (P : Link → Unit → Router → Type 0) (l : Link) (one serial : ℕ) (rest wanted : List Unit) → r.link ≡ l → is_reading l ≡ true → is_strange r one ≡ false → Shape all r.spoken h l r.agreed r.version r.table wanted rest → Does P wanted rest → P l (SerialNotify one serial) (on_unit l (SerialNotify one serial) r)
  unfolding on_unit
  by_notify P Idle one serial rest wanted is live quiet s d =
      subst (λ b. P Idle (SerialNotify one serial) (if b then fails (SerialNotify one serial) r else if is_news (of_version r.spoken r.version) serial then ask r else r)) (sym quiet)
      (either (P Idle (SerialNotify one serial)) (is_news (of_version r.spoken r.version) serial) (ask r) r (λ news. d.asks one serial is s) (λ old. d.stays Idle one serial is live s))
  by_notify P (Asked q) one serial rest wanted is live quiet s d =
      subst (λ b. P (Asked q) (SerialNotify one serial) (if b then fails (SerialNotify one serial) r else r)) (sym quiet) (d.stays (Asked q) one serial is live s)
  by_notify P (Answering a) one serial rest wanted is live quiet s d =
      subst (λ b. P (Answering a) (SerialNotify one serial) (if b then fails (SerialNotify one serial) r else r)) (sym quiet) (d.stays (Answering a) one serial is live s)
  by_notify P _ one serial rest wanted is live quiet s d = false_true live

  -- A PDU may come to a link that reads.
  pub record Belongs (u : Unit) (more wanted : List Unit) : Type 0 where
    pub live : is_reading r.link ≡ true
    pub config : r.config ≡ default_config
    pub quiet : (one serial : ℕ) → u ≡ SerialNotify one serial → is_strange r one ≡ false
    pub shape : Shape all r.spoken h r.link r.agreed r.version r.table wanted (without_notifies (u ∷ more))

  pub by_shape : (P : Link → Unit → Router → Type 0) (u : Unit) (more wanted : List Unit) → Belongs u more wanted → Does P wanted (without_notifies more) → P r.link u (on_unit r.link u r)
  by_shape P u more wanted c d = by_head (head_case u more)
    where
      others : (l : Link) → is_reading l ≡ true → Shape all r.spoken h l r.agreed r.version r.table wanted (u ∷ without_notifies more) → P l u (on_unit l u r)
      others Idle live s = absurd (no_unit u (without_notifies more) s.1)
      others (Asked q) live s =
          elim (s.1) [
            | inl w ↦ absurd (no_unit u (without_notifies more) w.1)
            | inr w ↦ by_reply (λ p v k. QuestionFits h.session p (of_version r.spoken r.version) → OneReply all r.spoken h p (v ∷ without_notifies more) → P (Asked p) v k) q u (without_notifies more) s.0 w.1 (d.replies w.0) s.0 w.2
          ]
      others (Answering a) live s =
          let o : OfAnswer all r.spoken h (base_of a.question r.table) a (u ∷ without_notifies more) = s.4 in
          by_answer (λ v k. OfAnswer all r.spoken h (base_of a.question r.table) a (v ∷ without_notifies more) → P (Answering a) v k) a u (without_notifies more) o.serial o.set c.config s.2 o.leads (record {
            stages = λ announce v b e o. d.stages a announce v b s.0 s.1 s.2 s.3 o e;
            commits = λ v one number intervals ends o.
                let l = ends o.serial o.set o.leads in
                let t = stands_as one number h.session o.serial (led_to (base_of a.question r.table) a.withdrawn a.announced) o.set l.1 l.2 l.3 o.stands in
                d.commits a v one number intervals s.0 l.0 s.1 l.1 t.0 (subst (λ x. length h.sets ≤ length x + 1) (sym t.1) o.since);
          }) s.4
      others _ live s = false_true live

      by_head : HeadCase u more → P r.link u (on_unit r.link u r)
      by_head (a_notify one serial e) =
          subst (λ x. P r.link x (on_unit r.link x r)) (sym e)
          (by_notify P r.link one serial (without_notifies more) wanted refl c.live (c.quiet one serial e) (subst (λ x. Shape all r.spoken h r.link r.agreed r.version r.table wanted (without_notifies (x ∷ more))) e c.shape) d)
      by_head (another none e) = others r.link c.live (subst (λ x. Shape all r.spoken h r.link r.agreed r.version r.table wanted x) e c.shape)
