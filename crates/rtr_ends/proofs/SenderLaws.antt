-- What is due of an answer under way.
use Rattle.rtr_ends.proofs.Words.{◌≡◌, Bool, true, false, ℕ, ◌+◌, ◌-◌, ◌<◌, ◌≤◌, not, List, [], ◌∷◌, ◌++◌, length, take, drop, Option, Some, None, option_map, slice_get, get_or, refl, sym, ap, ◌∙◌, subst, arith, append_assoc, add-one, inl, inr, suc, zero, rules, drop-append_seam, drop-cons, drop-append-add, take-add, is_some, length-append, length-drop, length-take, drop_all, drop-drop, length-map, take-append-drop, take_at, slice_get-map, slice_get_within, slice_get_cases, get_or_from_slice_get, slice_get_read, Payload, NumberedSet, VrpSet, listing, Change, Serial, Version, V0, V1, Unit, CacheResponse, Prefix, ResetQuery, IsUnitOf, sent_most, some_sent}
use Rattle.rtr_ends.specs.Answer.{announcements, end_of_data, report, response, sent, sent_all, whole_answer, withdrawals}
use Rattle.rtr_ends.specs.Cache.{is_none}
use Rattle.rtr_ends.specs.Sender.{Speaks, BeginsAnswer, PullsBytes, GivesFrom, Hands, KeepsRecords, Sends, Stays, Writes, as_list, left_in, left, due_of, newest_in, newest_of, ready_in, serial_in, units_in, numbered_of, own_session, session_by}
use Rattle.rtr_ends.specs.Timing.{Intervals}
use Rattle.rtr_ends.specs.declared.sender.Records.{Records}
use Rattle.rtr_ends.specs.declared.sender.Records.TheVariants.{Step, Whole}
use Rattle.rtr_ends.specs.declared.sender.Sender.{Sender}
use Rattle.rtr_ends.specs.declared.sender.Share.{Share}
use Rattle.rtr_ends.specs.declared.sender.AnswerCursor.{AnswerCursor}
use Rattle.rtr_ends.proofs.TableLaws.{inside}

-- nothing in front and nothing behind
both_none : {X : Type 0} (xs ys : List X) → xs ++ ys ≡ [] → (xs ≡ []) × (ys ≡ [])
both_none [] ys e = (refl, e)
both_none (x ∷ xs) ys e = absurd (let h : x ∷ (xs ++ ys) ≡ [] = e in cc)

-- PDUs have bytes
none_sent : (version : Version) (units : List Unit) → sent_all version units ≡ [] → units ≡ []
none_sent version [] e = refl
none_sent version (u ∷ units) e = absurd (some_sent version u (both_none (sent version u) (sent_all version units) e).0)

-- Of a PDU at most 4,096 bytes are ready.
pub unit_ready : (version : Version) (s : Sender) (u : Unit) → IsUnitOf version u → s.pulled ≡ 0 → s.buffer.items ≡ sent version u → ready_in s ≤ 4096
unfolding ready_in
unit_ready version s u fits start bytes = let is : drop s.pulled s.buffer.items ≡ sent version u = λ i. drop (start i) (bytes i) in omega (arith, ap length is, sent_most version u fits.0 fits.1)

-- an answer under way has bytes
end_some : (version : Version) (session serial : ℕ) (t : Intervals) → is_none (sent_all version (end_of_data version session serial t ∷ [])) ≡ false
end_some V0 session serial t = refl
end_some V1 session serial t = refl

some_left : (version : Version) (units : List Unit) (session serial : ℕ) (t : Intervals) → is_none (sent_all version (units ++ end_of_data version session serial t ∷ [])) ≡ false
some_left version [] session serial t = end_some version session serial t
some_left version (u ∷ units) session serial t = over (sent version u) (sent_all version (units ++ end_of_data version session serial t ∷ [])) (some_left version units session serial t)
  where
    over : (xs ys : List ℕ) → is_none ys ≡ false → is_none (xs ++ ys) ≡ false
    over [] ys e = e
    over (x ∷ xs) ys e = refl

-- bytes are due of an answer under way
due_left : (version : Version) (session : ℕ) (t : Intervals) (a : Option AnswerCursor) → is_some a ≡ not (is_none (sent_all version (left_in version session t a)))
due_left version session t None = refl
due_left version session t (Some a) = ap not (sym (some_left version (drop a.place (units_in a.records)) session (serial_in a.records) t))

is_none-append : (xs ys : List ℕ) → 0 < length xs → is_none (xs ++ ys) ≡ false
is_none-append [] ys h = absurd (omega (arith, h))
is_none-append (x ∷ xs) ys h = refl

pub due_some : (s : Sender) → s.pulled < length s.buffer.items → true ≡ not (is_none (due_of s))
unfolding due_of
due_some s h = ap not (sym (is_none-append (drop s.pulled s.buffer.items) (sent_all s.version (left s)) (omega (arith, length-drop s.pulled s.buffer.items, h))))

pub due_answer : (s : Sender) → length s.buffer.items ≤ s.pulled → is_some s.answer ≡ not (is_none (due_of s))
unfolding due_of left
due_answer s h = due_left s.version (own_session s) s.timing s.answer ∙ ap (λ x. not (is_none (x ++ sent_all s.version (left_in s.version (own_session s) s.timing s.answer)))) (sym (drop_all s.pulled s.buffer.items h))

-- nothing is due if no answer is under way
pub none_due : (s : Sender) → due_of s ≡ [] → left_in s.version (own_session s) s.timing s.answer ≡ []
unfolding due_of left
none_due s e = none_sent s.version (left s) (both_none (drop s.pulled s.buffer.items) (sent_all s.version (left s)) e).1

at_place : {X : Type 0} (xs : List X) (i : ℕ) (x : X) → slice_get xs i ≡ Some x → drop i xs ≡ x ∷ drop (i + 1) xs
at_place xs i x e =
    let is : get_or xs i x ≡ x = get_or_from_slice_get xs i x x e in
    rw add-one (drop-cons xs i x (slice_get_within xs i x e) ∙ ap (λ y. y ∷ drop (suc i) xs) is)

past_place : {X : Type 0} (xs : List X) (i : ℕ) → slice_get xs i ≡ None → drop i xs ≡ []
past_place xs i e = elim (slice_get_cases xs i).1 [ inl found ↦ absurd (let h : ◌≡◌ {A = Option _} (Some found.0) None = sym found.2 ∙ e in cc) | inr past ↦ drop_all i xs past.0 ]

get_before : {X : Type 0} (xs ys : List X) (i : ℕ) → i < length xs → slice_get (xs ++ ys) i ≡ slice_get xs i
get_before [] ys i h = absurd (omega (arith, h))
get_before (x ∷ xs) ys zero h = refl
get_before (x ∷ xs) ys (suc i) h = get_before xs ys i (omega (arith, h))

-- the record at a place among the withdrawn
pub withdrawn_at : (w a : VrpSet) (place : ℕ) (v : Payload) → place < length (listing w) → v ≡ get_or (listing w) place v → Some (Prefix false v) ≡ slice_get (withdrawals w ++ announcements a) place
withdrawn_at w a place v h e =
    let f : Payload → Unit = λ v. Prefix false v in
    sym (get_before (withdrawals w) (announcements a) place (omega (arith, length-map (listing w) f, h)) ∙ slice_get-map f (listing w) place ∙ ap (option_map f) (slice_get_read (listing w) (length (listing w)) place v refl h e))

pub ready_newest : (o : Option Share) → newest_in o None ≡ option_map numbered_of o
ready_newest None = refl
ready_newest (Some share) = refl

newest_same : (ready : Option Share) (a b : Option AnswerCursor) → newest_in None a ≡ newest_in None b → newest_in ready a ≡ newest_in ready b
newest_same None a b e = e
newest_same (Some share) a b e = refl

pub hands_record : (s : Sender) (w : AnswerCursor) (u : Unit) (new : Sender) → Some u ≡ slice_get (units_in w.records) w.place
    → new.version ≡ s.version → new.sessions ≡ s.sessions → new.timing ≡ s.timing → new.ready ≡ s.ready → new.pulled ≡ 0 → new.answer ≡ Some (record { records = w.records; place = w.place + 1 }) → new.buffer.items ≡ sent s.version u → IsUnitOf s.version u
    → Hands (record s { answer = Some w }) new
unfolding left newest_of
hands_record s w u new at version sessions timing ready pulled answer bytes fits =
    let now : left_in new.version (own_session new) new.timing new.answer ≡ left_in s.version (own_session s) s.timing (Some (record { records = w.records; place = w.place + 1 })) =
    λ i. left_in (version i) (session_by (version i) (sessions i)) (timing i) (answer i) in
    record {
      first = u;
      was = ap (λ x. x ++ end_of_data s.version (own_session s) (serial_in w.records) s.timing ∷ []) (at_place (units_in w.records) w.place u (sym at))
          ∙ ap (λ x. u ∷ x) (sym now);
      bytes = bytes;
      pulled = pulled;
      stays = record { version = version; sessions = sessions; timing = timing; newest = (λ i. newest_in (ready i) (answer i)) ∙ newest_same s.ready _ _ refl; room = λ before. unit_ready s.version new u fits pulled bytes };
    }

-- what was written
pub written : {B : Type 0} (version : Version) (o : Option Unit) (w : Bool) (old : B) (bytes : List ℕ) (new : B) → w ≡ true → Writes version o w old bytes new → (u : Unit) × (Some u ≡ o) × (bytes ≡ sent version u) × IsUnitOf version u
written version None w old bytes new e h = absurd (let k : false ≡ true = sym h.0 ∙ e in cc)
written version (Some u) w old bytes new e h = (u, refl, h.1, h.2)

pub hands_end : (s : Sender) (w : AnswerCursor) (mid new : Sender) → None ≡ slice_get (units_in w.records) w.place
    → mid.buffer.items ≡ sent s.version (end_of_data s.version (own_session s) (serial_in w.records) s.timing)
    → mid.version ≡ s.version → mid.sessions ≡ s.sessions → mid.timing ≡ s.timing → mid.ready ≡ s.ready → mid.pulled ≡ 0 → IsUnitOf s.version (end_of_data s.version (own_session s) (serial_in w.records) s.timing) → KeepsRecords mid w.records new → Hands (record s { answer = Some w }) new
unfolding left newest_of
hands_end s w mid new at bytes same_version same_sessions same_timing same_ready pulled fits k =
    let end : Unit = end_of_data s.version (own_session s) (serial_in w.records) s.timing in
    let none : left_in new.version (own_session new) new.timing new.answer ≡ [] = ap (left_in new.version (own_session new) new.timing) k.answer in
    record {
      first = end;
      was = ap (λ x. x ++ end ∷ []) (past_place (units_in w.records) w.place (sym at)) ∙ ap (λ x. end ∷ x) (sym none);
      bytes = ap (λ b. b.items) k.buffer ∙ bytes;
      pulled = k.pulled ∙ pulled;
      stays = record {
        version = k.version ∙ same_version;
        sessions = k.sessions ∙ same_sessions;
        timing = k.timing ∙ same_timing;
        newest = ap (newest_in new.ready) k.answer ∙ k.ready ∙ ap (λ x. newest_in x (Some (record { records = w.records; place = 0 }))) same_ready ∙ newest_same s.ready _ _ refl;
        room = λ before. unit_ready s.version new end fits (k.pulled ∙ pulled) (ap (λ b. b.items) k.buffer ∙ bytes);
      };
    }

-- What two steps leave, both leave.
stays_on : (a b c : Sender) → Stays a b → Stays b c → Stays a c
stays_on a b c x y =
    record { version = y.version ∙ x.version; sessions = y.sessions ∙ x.sessions; timing = y.timing ∙ x.timing; newest = y.newest ∙ x.newest; room = λ before. y.room (x.room before) }

-- This many bytes are filled of an answer that is pulled.
pub record IsFilled (start : Sender) (given : List ℕ) (s : Sender) (out : List ℕ) (filled : ℕ) : Type 0 where
  pub low : filled ≤ length out
  pub within : filled ≤ length (due_of start)
  pub now : out ≡ take filled (due_of start) ++ drop filled given
  pub due : due_of s ≡ drop filled (due_of start)
  pub stays : Stays start s

pub none_filled : (s : Sender) (out : List ℕ) → IsFilled s out s out 0
none_filled s out = record { low = omega arith; within = omega arith; now = refl; due = refl; stays = record { version = refl; sessions = refl; timing = refl; newest = refl; room = λ before. before } }

-- Bytes that were due first are filled.
pub fills_first : (start : Sender) (given : List ℕ) (s : Sender) (out : List ℕ) (filled result : ℕ) (now : List ℕ) (new : Sender) (bytes : List ℕ) → IsFilled start given s out filled → due_of s ≡ bytes ++ due_of new → result ≡ filled + length bytes → result ≤ length out
    → now ≡ take filled out ++ bytes ++ drop result out → Stays s new → IsFilled start given new now result
fills_first start given s out filled result now new bytes f due_was result_is low now_is stays =
    let size : length (take filled (due_of start)) ≡ filled = omega (arith, length-take filled (due_of start), f.within) in
    let rest : drop filled (due_of start) ≡ bytes ++ due_of new = sym f.due ∙ due_was in
    let first : take filled out ≡ take filled (due_of start) = ap (take filled) f.now ∙ take_at (take filled (due_of start)) (drop filled given) filled size in
    let mid : bytes ≡ take (length bytes) (drop filled (due_of start)) = sym (ap (take (length bytes)) rest ∙ take_at bytes (due_of new) (length bytes) refl) in
    let last : drop result out ≡ drop result given =
    (λ i. drop (result_is i) (f.now i)) ∙ ap (λ n. drop (n + length bytes) (take filled (due_of start) ++ drop filled given)) (sym size)
    ∙ drop-append-add (take filled (due_of start)) (drop filled given) (length bytes) ∙ drop-drop (length bytes) filled given ∙ ap (λ n. drop n given) (sym result_is) in
    let whole : take filled (due_of start) ++ take (length bytes) (drop filled (due_of start)) ≡ take result (due_of start) = sym (take-add filled (length bytes) (due_of start)) ∙ ap (λ n. take n (due_of start)) (sym result_is) in
    let is : now ≡ take result (due_of start) ++ drop result given = now_is ∙ (λ i. first i ++ mid i ++ last i) ∙ ap (λ x. x ++ drop result given) whole in
    let sizes : length (due_of start) - filled ≡ length bytes + length (due_of new) = sym (length-drop filled (due_of start)) ∙ ap length rest ∙ length-append bytes (due_of new) in
    let all : result ≤ length (due_of start) = omega (arith, sizes, result_is, f.within) in
    record {
      low = omega (arith, ap length is, length-append (take result (due_of start)) (drop result given), length-take result (due_of start), all);
      within = all;
      now = is;
      due = sym (ap (drop (length bytes)) rest ∙ drop-append_seam bytes (due_of new)) ∙ drop-drop (length bytes) filled (due_of start) ∙ ap (λ n. drop n (due_of start)) (sym result_is);
      stays = stays_on start s new f.stays stays;
    }

module _ (start : Sender) (given : List ℕ) (s : Sender) (out : List ℕ) (filled result : ℕ) (now : List ℕ) (new : Sender) (f : IsFilled start given s out filled) (g : GivesFrom s out filled result now new) where
  -- what is left of the answer stays
  pub left_stays : left new ≡ left s
  unfolding left
  left_stays = λ i. left_in (g.version i) (session_by (g.version i) (g.sessions i)) (g.timing i) (g.answer i)

  abbrev back : List ℕ
  back = drop s.pulled s.buffer.items

  pub gives_more : IsFilled start given new now result
  unfolding due_of newest_of ready_in
  gives_more =
      let later : due_of new ≡ drop g.count back ++ sent_all s.version (left s) = λ i. g.left i ++ sent_all (g.version i) (left_stays i) in
      fills_first start given s out filled result now new (take g.count back) f
      (ap (λ x. x ++ sent_all s.version (left s)) (sym (take-append-drop g.count back)) ∙ append_assoc (take g.count back) (drop g.count back) (sent_all s.version (left s)) ∙ ap (λ x. take g.count back ++ x) (sym later))
      (omega (arith, g.result_is, g.count_is, length-take g.count back)) (omega (arith, g.result_is, g.count_is, f.low)) (g.now_is ∙ ap (λ n. take filled out ++ take g.count back ++ drop n out) (sym g.result_is))
      (record {
        version = g.version;
        sessions = g.sessions;
        timing = g.timing;
        newest = λ i. newest_in (g.ready i) (g.answer i);
        room = λ before. omega (arith, ap length g.left, length-drop g.count back, before);
      })

  -- if not all is filled, the buffer is empty
  pub all_given : result < length out → drop new.pulled new.buffer.items ≡ []
  all_given less = g.left ∙ drop_all g.count back (omega (arith, less, g.result_is, g.count_is))

-- all is filled
pub gives_all : (start : Sender) (given : List ℕ) (s : Sender) (out : List ℕ) (filled : ℕ) → length out ≡ length given → filled ≡ length out → IsFilled start given s out filled → PullsBytes (due_of start) given filled out (due_of s)
gives_all start given s out filled same full f = record { count_is = omega (arith, same, full, f.within); now_is = f.now; rest_is = f.due }

-- nothing is left
pub gives_rest : (start : Sender) (given : List ℕ) (s : Sender) (out : List ℕ) (filled : ℕ) → length out ≡ length given → due_of s ≡ [] → IsFilled start given s out filled → PullsBytes (due_of start) given filled out (due_of s)
gives_rest start given s out filled same none f = record {
  count_is = omega (arith, same, f.within, f.low, ap length f.due, ap length none, length-drop filled (due_of start));
  now_is = f.now;
  rest_is = f.due;
}

-- no answer is under way
pub without_answer : (s : Sender) (a : Option AnswerCursor) → s.answer ≡ None → a ≡ None → record s { answer = a } ≡ s
without_answer s a e f = λ i. record s { answer = (f ∙ sym e) i }

pub rests : (s : Sender) → drop s.pulled s.buffer.items ≡ [] → s.answer ≡ None → due_of s ≡ []
unfolding due_of left
rests s none e = λ i. none i ++ sent_all s.version (left_in s.version (own_session s) s.timing (e i))

hands_due : (s new : Sender) → drop s.pulled s.buffer.items ≡ [] → Hands s new → due_of new ≡ due_of s
unfolding due_of
hands_due s new none h =
    (λ i. drop (h.pulled i) (h.bytes i) ++ sent_all (h.stays.version i) (left new)) ∙ ap (sent_all s.version) (sym h.was) ∙ ap (λ x. x ++ sent_all s.version (left s)) (sym none)

-- the next PDU
pub hands_more : (start : Sender) (given : List ℕ) (s : Sender) (out : List ℕ) (filled : ℕ) (w : AnswerCursor) (new : Sender) → s.answer ≡ Some w → drop s.pulled s.buffer.items ≡ [] → Hands (record s { answer = Some w }) new
    → IsFilled start given s out filled → IsFilled start given new out filled
hands_more start given s out filled w new e none h f =
    let same : record s { answer = Some w } ≡ s = λ i. record s { answer = sym e i } in
    record {
      low = f.low;
      within = f.within;
      now = f.now;
      due = hands_due (record s { answer = Some w }) new none h ∙ ap due_of same ∙ f.due;
      stays = stays_on start s new f.stays (subst (λ x. Stays x new) same h.stays);
    }

pub hands_less : (s : Sender) (w : AnswerCursor) (new : Sender) → s.answer ≡ Some w → Hands (record s { answer = Some w }) new → length (left new) < length (left s)
hands_less s w new e h = search rules

-- if nothing is due no answer is under way
no_answer : (s : Sender) → due_of s ≡ [] → s.answer ≡ None
no_answer s e = by_case s.answer (none_due s e)
  where
    some : (units : List Unit) (u : Unit) → units ++ u ∷ [] ≡ [] → ⊥
    some units u e = let h : u ∷ [] ≡ [] = (both_none units (u ∷ []) e).1 in cc

    by_case : (a : Option AnswerCursor) → left_in s.version (own_session s) s.timing a ≡ [] → a ≡ None
    by_case None h = refl
    by_case (Some a) h = absurd (some (drop a.place (units_in a.records)) (end_of_data s.version (own_session s) (serial_in a.records) s.timing) h)

pub newest_none : (s : Sender) → due_of s ≡ [] → s.ready ≡ None → newest_of s ≡ None
unfolding newest_of
newest_none s e h = λ i. newest_in (h i) (no_answer s e i)

pub newest_ready : (s : Sender) (share : Share) → s.ready ≡ Some share → newest_of s ≡ Some (numbered_of share)
unfolding newest_of
newest_ready s share h = ap (λ r. newest_in r s.answer) h

pub due_begins : (s : Sender) (version : Version) (session : ℕ) (t : Intervals) (records : Records) → s.version ≡ version → own_session s ≡ session → s.timing ≡ t → s.pulled ≡ 0 → s.buffer.items ≡ sent version (CacheResponse session) → s.answer ≡ Some (record { records = records; place = 0 })
    → due_of s ≡ sent_all version (CacheResponse session ∷ units_in records ++ end_of_data version session (serial_in records) t ∷ [])
unfolding due_of left
due_begins s version session t records v a b c d e = λ i. drop (c i) (d i) ++ sent_all (v i) (left_in (v i) (a i) (b i) (e i))

-- another share that is ready, and the same bytes
pub same_due : (s : Sender) (ready : Option Share) → due_of (record s { ready = ready }) ≡ due_of s
unfolding due_of left
same_due s ready = refl

pub offers : (s : Sender) (ready : Option Share) (share : Share) → ready ≡ Some share → newest_of (record s { ready = ready }) ≡ Some (numbered_of share)
unfolding newest_of
offers s ready share e = ap (λ r. newest_in r s.answer) e

-- an answer to a Reset Query, if nothing is published
pub resets_none : (s new : Sender) (ready : Option Share) → due_of s ≡ [] → s.ready ≡ None → ready ≡ None → Sends (record s { ready = ready }) (report 2 (sent s.version ResetQuery) ∷ []) new
    → Sends s (whole_answer s.version (own_session s) s.timing (as_list (newest_of s))) new
unfolding newest_of ready_in
resets_none s new ready e h k sends = record {
  due = sends.due ∙ ap (λ v. sent_all s.version (whole_answer s.version (own_session s) s.timing (as_list v))) (sym (newest_none s e h));
  stays = record { version = sends.stays.version; sessions = sends.stays.sessions; timing = sends.stays.timing; newest = sends.stays.newest ∙ ap (λ r. newest_in r s.answer) (k ∙ sym h); room = sends.stays.room };
}

-- and of a version
pub resets_some : (s new : Sender) (share : Share) (ready : Option Share) → s.ready ≡ Some share → ready ≡ None → BeginsAnswer (record s { ready = ready }) (Whole share) new
    → Sends s (whole_answer s.version (own_session s) s.timing (as_list (newest_of s))) new
unfolding newest_of
resets_some s new share ready h k b = search rules

pub steps : (s new : Sender) (serial : Serial) (change : Change) (v : NumberedSet) → due_of s ≡ [] → Some serial.0 ≡ option_map (λ (v : NumberedSet). v.serial) (newest_of s) → newest_of s ≡ Some v → BeginsAnswer s (Step serial change) new
    → Sends s (response s.version (own_session s) s.timing v (withdrawals change.withdraw ++ announcements change.announce)) new
unfolding newest_of
steps s new serial change v e same is b =
    let serial_is : serial.0 ≡ v.serial = inside (same ∙ ap (option_map (λ (v : NumberedSet). v.serial)) is) in
    record {
      due = b.due ∙ ap (λ n. sent_all s.version (CacheResponse (own_session s) ∷ (withdrawals change.withdraw ++ announcements change.announce) ++ end_of_data s.version (own_session s) n s.timing ∷ [])) serial_is;
      stays = record {
        version = b.version;
        sessions = b.sessions;
        timing = b.timing;
        newest = (λ i. newest_in (b.ready i) (b.answer i)) ∙ newest_same s.ready (Some (record { records = Step serial change; place = 0 })) None refl ∙ ap (newest_in s.ready) (sym (no_answer s e));
        room = λ before. b.room;
      };
    }

-- nothing is due in any version
pub speaks : (s : Sender) (version : Version) → due_of s ≡ [] → Speaks version s (record s { version = version })
unfolding due_of left newest_of ready_in
speaks s version e =
    let front = (both_none (drop s.pulled s.buffer.items) (sent_all s.version (left s)) e).0 in
    record {
      version_is = refl;
      due = rests (record s { version = version }) front (no_answer s e);
      stays = record { sessions = refl; timing = refl; newest = refl; room = λ h. h };
    }
