-- What the cache answers is a whole answer to the question.
use Rattle.rtr_world.proofs.Words.{◌≡◌, ◌⊎◌, ℕ, suc, ◌+◌, ◌<◌, ◌≤◌, ◌^◌, Bool, true, false, not, ◌&&◌, ◌||◌, ◌==◌, List, [], ◌∷◌, ◌++◌, map, length, take, min, Option, Some, None, if◌then◌else◌, refl, sym, ap, ◌∙◌, subst, subst₂, arith, inl, inr, AllByRecursion, All, All-head, All-tail, min-le_left, IsUtf8-nil, length-take, IsDistinct-from_sorted, Payload, IsPayload, vrp_cmp, Instance, IsInstance, NumberedSet, versions, versions_from, with_serial, serial_at, VrpSet, IsVrpSet, empty, has, listing, set_of, without, part_is_set, all_of_members, has-empty, has-union, has-without, listing_ascends, same_set, set_of-listing, AreBytes, IsUnitOf, is_notify, Unit, SerialQuery, ResetQuery, CacheResponse, Prefix, AreBytes-take, Version, V0, V1, and_on, and_end, answer, announcements, end_of_data, withdrawals, report, sent, serial_answer, session_in, step_answer, whole_answer, Commits, IsLater, change_commits, Committed, Question, AskReset, AskSerial, query, base_of, eq_of, eq_true, all_both, not_both}
use Rattle.std.specs.List.{IsDistinct}
use Rattle.rtr_ends.specs.Answer.{response as response_of}
use Rattle.rtr_world.specs.OneAnswer.{EndsWith, announced_in, withdrawn_in}
use Rattle.rtr_world.specs.World.{timing}
use Rattle.rtr_world.proofs.AnswerLaws.{Plain, plain_records, commits_lead}
use Rattle.rtr_world.proofs.Invariant.{FromCache, WasCache, Leads, NoneWithdrawn, WithdrawsFirst, QuestionFits, IsOwn, Replies, nothing_yet, no_data, not_kept, other_session, response}
use Rattle.rtr_world.proofs.UnitStreams.{all_bytes}
use Rattle.rtr_world.proofs.WireBytes.{big_bytes, headed, header, number}
use Rattle.rtr_world.proofs.Versions.{HeldAt, Stands, Present, kept_at, has_sets, of_present, find_session, Seen}

-- PDUs that are no notify, and that can be sent
pub record IsAnswered (pv : Version) (units : List Unit) : Type 0 where
  pub plain : Plain units
  pub fit : AllByRecursion (IsUnitOf pv) units

answered-append : (pv : Version) (us vs : List Unit) → IsAnswered pv us → IsAnswered pv vs → IsAnswered pv (us ++ vs)
answered-append pv us vs h k = record { plain = all_both (λ u. is_notify u ≡ false) us vs h.plain k.plain; fit = all_both (IsUnitOf pv) us vs h.fit k.fit }

fit_records : (pv : Version) (announce : Bool) (vs : List Payload) → All IsPayload vs → AllByRecursion (IsUnitOf pv) (map (λ v. Prefix announce v) vs)
fit_records pv announce [] h = tt
fit_records pv announce (v ∷ vs) h = ((All-head IsPayload v vs h, refl), fit_records pv announce vs (All-tail IsPayload v vs h))

answered_records : (pv : Version) (announce : Bool) (s : VrpSet) → IsVrpSet s → IsAnswered pv (map (λ v. Prefix announce v) (listing s))
answered_records pv announce s h = record { plain = plain_records announce (listing s); fit = fit_records pv announce (listing s) h.payloads }

pub serial_low : (start position : ℕ) → serial_at start position < 2 ^ 32
serial_low start position = omega arith

-- the end of an answer
abbrev last_of : Version → ℕ → ℕ → List Unit
last_of pv session serial = end_of_data pv session serial timing ∷ []

answered_end : (pv : Version) (session serial : ℕ) → session < 2 ^ 16 → serial < 2 ^ 32 → IsAnswered pv (last_of pv session serial)
answered_end V0 session serial low number = record { plain = (refl, tt); fit = (((low, number), refl), tt) }
answered_end V1 session serial low number = record { plain = (refl, tt); fit = (((low, number, omega arith, omega arith, omega arith), refl), tt) }

answered_response : (pv : Version) (session serial : ℕ) (set : VrpSet) (records : List Unit) → session < 2 ^ 16 → serial < 2 ^ 32 → IsAnswered pv records → IsAnswered pv (response_of pv session timing (record { serial = serial; set = set }) records)
answered_response pv session serial set records low number h =
    let k = answered-append pv records (last_of pv session serial) h (answered_end pv session serial low number) in
    record { plain = (refl, k.plain); fit = ((low, refl), k.fit) }

-- the records of an answer, the withdrawals first
abbrev records : List Payload → List Payload → List Unit
records ws vs = map (λ v. Prefix false v) ws ++ map (λ v. Prefix true v) vs

-- What is asked of them, with the End of Data behind them
record Ends (session serial : ℕ) (ws vs : List Payload) (units : List Unit) : Type 0 where
  ends : EndsWith session serial units
  withdraws : withdrawn_in units ≡ ws
  announces : announced_in units ≡ vs
  order : WithdrawsFirst units

announced_end : (pv : Version) (session serial : ℕ) (vs : List Payload) → NoneWithdrawn (records [] vs ++ last_of pv session serial) × Ends session serial [] vs (records [] vs ++ last_of pv session serial)
announced_end V0 session serial [] = (tt, record { ends = (refl, refl); withdraws = refl; announces = refl; order = tt })
announced_end V1 session serial [] = (tt, record { ends = (refl, refl); withdraws = refl; announces = refl; order = tt })
announced_end pv session serial (v ∷ vs) =
    let k = announced_end pv session serial vs in (k.0, record { ends = k.1.ends; withdraws = k.1.withdraws; announces = ap (λ x. v ∷ x) k.1.announces; order = k.0 })

records_end : (pv : Version) (session serial : ℕ) (ws vs : List Payload) → Ends session serial ws vs (records ws vs ++ last_of pv session serial)
records_end pv session serial [] vs = (announced_end pv session serial vs).1
records_end pv session serial (w ∷ ws) vs =
    let k = records_end pv session serial ws vs in record { ends = k.ends; withdraws = ap (λ x. w ∷ x) k.withdraws; announces = k.announces; order = k.order }

-- reports
pub answered_report : (pv : Version) (code : ℕ) (copy : List ℕ) → code < 2 ^ 16 → AreBytes copy → IsAnswered pv (report code copy ∷ [])
answered_report pv code copy low each =
    let size = length-take 4080 copy in
    record { plain = (refl, tt); fit = (((low, short (length (take 4080 copy)) size, IsUtf8-nil, AreBytes-take 4080 copy each), refl), tt) }
  where
    short : (n : ℕ) → n ≡ min 4080 (length copy) → n + 0 ≤ 4080
    short n e = let m = min-le_left 4080 (length copy) in omega (arith, e, m)

reset_bytes : (pv : Version) → AreBytes (sent pv ResetQuery)
reset_bytes pv = all_bytes (sent pv ResetQuery) (header pv 2 0 8 (omega arith))

serial_bytes : (pv : Version) (session serial : ℕ) → AreBytes (sent pv (SerialQuery session serial))
serial_bytes pv session serial = all_bytes (sent pv (SerialQuery session serial)) (headed pv 1 session 12 (big_bytes 4 serial) (omega arith) (number 4 serial))

-- an answer that leads on, with what is asked of its PDUs
pub record Answers (all : List Instance) (pv : Version) (home : Seen) (q : Question) (base : VrpSet) (units : List Unit) : Type 0 where
  pub replies : Replies all pv home q base units
  pub from : FromCache all pv home q units
  pub answered : IsAnswered pv units

pub session_low : (pv : Version) (i : Instance) → IsInstance i → session_in pv i < 2 ^ 16
session_low V0 i is = is.session0
session_low V1 i is = is.session

module _ (all : List Instance) (i : Instance) (p : Present all i) (pv : Version) (home : Seen) (same : home.session ≡ session_in pv i) (made : length home.sets ≤ length i.sets) where
  low : session_in pv i < 2 ^ 16
  low = session_low pv i p.is

  sets_fit : (x : VrpSet) (older : List VrpSet) → i.sets ≡ x ∷ older → IsVrpSet x
  sets_fit x older e = (subst (AllByRecursion IsVrpSet) e p.is.sets).0

  -- the newest version
  newest : (x : VrpSet) (older : List VrpSet) → i.sets ≡ x ∷ older → Stands all pv home.session (serial_at i.start (length older)) x
  newest x older e = record {
    i = i;
    found = subst (λ s. find_session pv s all ≡ Some i) (sym same) (p.found pv);
    newer = [];
    older = older;
    sets = e;
    serial_is = refl;
    young = omega arith;
    low = subst (λ s. s < 65536) (sym same) low;
  }

  since : (x : VrpSet) (older : List VrpSet) → i.sets ≡ x ∷ older → length home.sets ≤ length older + 1
  since x older e = let k : length i.sets ≡ suc (length older) = ap length e in omega (arith, k, made)

  -- as the cache is now
  pub is_now : IsLater home.made i → home.read ≡ Some i → WasCache all home i
  is_now later read = record {
    since = later;
    latest = i;
    found = subst (λ s. find_session V1 s all ≡ Some i) (sym later.session) (p.found V1);
    until = record { session = refl; session0 = refl; start = refl; more = []; sets = refl };
    read = read;
  }

  pub from_now : (q : Question) (keep : ℕ) → home.keep ≡ keep → IsLater home.made i → home.read ≡ Some i → FromCache all pv home q (answer pv i keep timing (query q)).units
  from_now q keep kept later read = record { cache = i; was = is_now later read; are = ap (λ k. (answer pv i k timing (query q)).units) (sym kept) }

  whole_commits : (x : VrpSet) → Commits empty [] (listing x) x
  unfolding IsDistinct
  whole_commits x = record {
    known = tt;
    withdrawn_once = tt;
    unknown = all_of_members (λ v. has empty v ≡ false) x (λ q h. has-empty q);
    announced_once = IsDistinct-from_sorted vrp_cmp (listing x) (listing_ascends x);
    leads = same_set _ _ (λ q. sym (has-union (without empty (set_of [])) (set_of (listing x)) q ∙ (λ j. has-without empty (set_of []) q j || has (set_of-listing x j) q) ∙ ap (λ b. (b && not (has (set_of []) q)) || has x q) (has-empty q)));
  }

  -- a response with these records
  responds : (q : Question) (base x : VrpSet) (older : List VrpSet) (ws vs : List Payload) → IsOwn home.session q → i.sets ≡ x ∷ older → IsAnswered pv (records ws vs) → Commits base ws vs x → FromCache all pv home q (response_of pv (session_in pv i) timing (record { serial = serial_at i.start (length older); set = x }) (records ws vs))
      → Answers all pv home q base (response_of pv (session_in pv i) timing (record { serial = serial_at i.start (length older); set = x }) (records ws vs))
  unfolding newest
  responds q base x older ws vs own e h commits from =
      let serial : ℕ = serial_at i.start (length older) in
      let tail : List Unit = records ws vs ++ last_of pv (session_in pv i) serial in
      let k = records_end pv (session_in pv i) serial ws vs in
      let leads = commits_lead base x ws vs commits (sets_fit x older e).within_limit pv timing (session_in pv i) serial q home.session in
      record {
        replies = response tail (ap (λ s. CacheResponse s ∷ tail) (sym same)) own (record {
          serial = serial;
          set = x;
          stands = newest x older e;
          leads = subst (λ s. Leads base (nothing_yet q home.session) tail s serial x) (sym same) leads;
          since = since x older e;
          from = subst (λ s. FromCache all pv home q (CacheResponse s ∷ tail)) (sym same) from;
          ends = subst (λ s. EndsWith s serial tail) (sym same) k.ends;
          commits = subst₂ (λ w a. Commits base w a x) (sym k.withdraws) (sym k.announces) commits;
          order = (k.order, inl refl);
        });
        from = from;
        answered = answered_response pv (session_in pv i) (serial_at i.start (length older)) x (records ws vs) low (serial_low i.start (length older)) h;
      }

  reset_answers : (sets : List VrpSet) → i.sets ≡ sets → FromCache all pv home AskReset (whole_answer pv (session_in pv i) timing (versions_from i.start sets)) → Answers all pv home AskReset empty (whole_answer pv (session_in pv i) timing (versions_from i.start sets))
  reset_answers [] e from = record { replies = no_data (sent pv ResetQuery) refl refl; from = from; answered = answered_report pv 2 (sent pv ResetQuery) (omega arith) (reset_bytes pv) }
  reset_answers (x ∷ older) e from =
      responds AskReset empty x older [] (listing x) tt e (answered_records pv true x (sets_fit x older e)) (whole_commits x) from

  abbrev answer_to : VrpSet → List VrpSet → Option NumberedSet → List Unit
  answer_to x older o = step_answer pv (session_in pv i) timing (record { serial = serial_at i.start (length older); set = x }) o

  step_answers : (one serial : ℕ) (table x : VrpSet) (older : List VrpSet) (o : Option NumberedSet) → one ≡ home.session → i.sets ≡ x ∷ older → IsVrpSet table → (o ≡ None) ⊎ (o ≡ Some (record { serial = serial; set = table }))
      → FromCache all pv home (AskSerial one serial) (answer_to x older o) → Answers all pv home (AskSerial one serial) table (answer_to x older o)
  step_answers one serial table x older o own e fits (inl f) from =
      subst (λ v. Answers all pv home (AskSerial one serial) table (answer_to x older v)) (sym f)
      (record { replies = not_kept serial (ap (λ s. AskSerial s serial) own) refl; from = subst (λ v. FromCache all pv home (AskSerial one serial) (answer_to x older v)) f from; answered = record { plain = (refl, tt); fit = ((tt, refl), tt) } })
  step_answers one serial table x older o own e fits (inr f) from =
      subst (λ v. Answers all pv home (AskSerial one serial) table (answer_to x older v)) (sym f)
      (responds (AskSerial one serial) table x older (listing (without table x)) (listing (without x table)) own e
      (answered-append pv (withdrawals (without table x)) (announcements (without x table)) (answered_records pv false (without table x) (part_is_set table x fits)) (answered_records pv true (without x table) (part_is_set x table (sets_fit x older e))))
      (change_commits table x) (subst (λ v. FromCache all pv home (AskSerial one serial) (answer_to x older v)) f from))

  -- a set of the instance can be published
  one_fits : (newer : List VrpSet) (set : VrpSet) (older : List VrpSet) → AllByRecursion IsVrpSet (newer ++ set ∷ older) → IsVrpSet set
  one_fits [] set older h = h.0
  one_fits (x ∷ newer) set older h = one_fits newer set older h.1

  table_fits : (one serial : ℕ) (table : VrpSet) (a : Stands all pv one serial table) → one ≡ session_in pv i → IsVrpSet table
  table_fits one serial table a e =
      let found = of_present all i p pv one serial table a e in
      one_fits a.newer table a.older (subst (AllByRecursion IsVrpSet) (ap (λ x. x.sets) (sym found) ∙ a.sets) p.is.sets)

  serial_answers : (keep one serial : ℕ) (table : VrpSet) (sets : List VrpSet) → one ≡ session_in pv i → Stands all pv one serial table → i.sets ≡ sets → FromCache all pv home (AskSerial one serial) (serial_answer pv (session_in pv i) keep timing serial (versions_from i.start sets))
      → Answers all pv home (AskSerial one serial) table (serial_answer pv (session_in pv i) keep timing serial (versions_from i.start sets))
  serial_answers keep one serial table [] own a e from = absurd (has_sets all i p pv one serial table a own e)
  serial_answers keep one serial table (x ∷ older) own a e from =
      step_answers one serial table x older (with_serial serial (take (suc keep) (versions_from i.start (x ∷ older)))) (own ∙ sym same) e (table_fits one serial table a own)
      (subst (λ l. (with_serial serial (take (suc keep) (versions_from i.start l)) ≡ None) ⊎ (with_serial serial (take (suc keep) (versions_from i.start l)) ≡ Some (record { serial = serial; set = table }))) e (kept_at all i p (suc keep) pv one serial table a own))
      from

  -- The answer to a question that fits what is committed
  pub answer_answers : (keep : ℕ) (q : Question) (version : Option Committed) (table : VrpSet) → QuestionFits home.session q version → HeldAt all pv version table → FromCache all pv home q (answer pv i keep timing (query q)).units → Answers all pv home q (base_of q table) (answer pv i keep timing (query q)).units
  answer_answers keep AskReset version table f t from = reset_answers i.sets refl from
  answer_answers keep (AskSerial one serial) None table f t from = absurd f
  answer_answers keep (AskSerial one serial) (Some version) table f t from = by_session (one == session_in pv i) refl from
    where
      stands : Stands all pv one serial table
      stands = subst₂ (λ a b. Stands all pv a b table) (sym f.0) (sym f.1) t

      units_by : Bool → List Unit
      units_by b = (if b then and_on (serial_answer pv (session_in pv i) keep timing serial (versions i)) else and_end (report 0 (sent pv (SerialQuery one serial)) ∷ [])).units

      by_session : (b : Bool) → (one == session_in pv i) ≡ b → FromCache all pv home (AskSerial one serial) (units_by b) → Answers all pv home (AskSerial one serial) table (units_by b)
      by_session true e from = serial_answers keep one serial table i.sets (eq_of one (session_in pv i) e) stands refl from
      by_session false e from = record {
        replies = other_session one serial (sent pv (SerialQuery one serial)) refl (λ x. not_both (one == session_in pv i) (eq_true one (session_in pv i) (x ∙ same)) e) refl;
        from = from;
        answered = answered_report pv 0 (sent pv (SerialQuery one serial)) (omega arith) (serial_bytes pv one serial);
      }
