-- Records that are written straight into what goes out.
use Rattle.rtr_ends.proofs.Words.{common_steps, ◌≡◌, ℕ, ◌+◌, ◌<◌, ◌≤◌, List, [], ◌∷◌, ◌++◌, length, take, drop, get_or, Option, Some, None, refl, sym, ap, ◌∙◌, arith, append_assoc, drop-append-add, append-nil, drop-drop, flat_map_more, length-append, length-take, take-append-drop, take_at, take_more, flat_map-append, Version, Unit}
use Rattle.rtr_ends.specs.Answer.{end_of_data, sent, sent_all}
use Rattle.rtr_ends.specs.Sender.{FillsAnswer, FillsFrom, FillsOn, FillsWith, due_of, left, left_in, newest_in, newest_of, own_session, ready_in, serial_in, session_by, units_in}
use Rattle.rtr_ends.specs.declared.sender.AnswerCursor.{AnswerCursor}
use Rattle.rtr_ends.specs.declared.sender.Sender.{Sender}
use Rattle.rtr_ends.proofs.SenderLaws.{IsFilled, fills_first}

-- one more
pub one_written : (version : Version) (units : List Unit) (given out now : List ℕ) (filled i end next : ℕ) (u : Unit) → filled ≤ length given → FillsWith version units given filled i end out → i < length units → get_or units i u ≡ u
    → now ≡ take end out ++ sent version u ++ drop next out → next ≡ end + length (sent version u) → next ≤ length given → FillsWith version units given filled (i + 1) next now
one_written version units given out now filled i end next u start f less is now_is next_is fits =
    let front : List ℕ = take filled given ++ sent_all version (take i units) in
    let size : length front ≡ end = omega (arith, length-append (take filled given) (sent_all version (take i units)), length-take filled given, start, f.result_is) in
    let taken : take end out ≡ front = ap (take end) f.now_is ∙ take_at front (drop end given) end size in
    let left : drop next out ≡ drop next given =
    (λ j. drop (next_is j) (f.now_is j)) ∙ ap (λ n. drop (n + length (sent version u)) (front ++ drop end given)) (sym size) ∙ drop-append-add front (drop end given) (length (sent version u))
    ∙ drop-drop (length (sent version u)) end given ∙ ap (λ n. drop n given) (sym next_is) in
    let cut : take (i + 1) units ≡ take i units ++ u ∷ [] = take_more units i u less ∙ ap (λ x. take i units ++ x ∷ []) is in
    let more : sent_all version (take (i + 1) units) ≡ sent_all version (take i units) ++ sent version u = ap (sent_all version) cut ∙ sym (flat_map_more (sent version) [] (take i units) u) in
    record {
      within = omega (arith, less);
      result_is = omega (arith, next_is, f.result_is, ap length more, length-append (sent_all version (take i units)) (sent version u));
      low = fits;
      now_is = now_is ∙ (λ j. taken j ++ sent version u ++ left j)
          ∙ ap (λ x. x ++ drop next given) (append_assoc (take filled given) (sent_all version (take i units)) (sent version u) ∙ ap (λ x. take filled given ++ x) (sym more));
    }

-- further PDUs behind them change nothing
pub of_longer : (version : Version) (units more : List Unit) (out : List ℕ) (filled count result : ℕ) (now : List ℕ) → FillsWith version units out filled count result now → FillsWith version (units ++ more) out filled count result now
of_longer version units more out filled count result now f = grind (arith, common_steps)

module _ (start : Sender) (given : List ℕ) (s : Sender) (out : List ℕ) (filled result : ℕ) (now : List ℕ) (new : Sender) (f : IsFilled start given s out filled) (none : drop s.pulled s.buffer.items ≡ []) (g : FillsOn s out filled result now new) where
  -- the buffer stays as it was
  pub none_stays : drop new.pulled new.buffer.items ≡ []
  none_stays = (λ i. drop (g.pulled i) (g.buffer i).items) ∙ none

  left_is : (a : Option AnswerCursor) → s.answer ≡ a → left s ≡ left_in s.version (own_session s) s.timing a
  unfolding left
  left_is a e = ap (left_in s.version (own_session s) s.timing) e

  left_now : (a : Option AnswerCursor) → new.answer ≡ a → left new ≡ left_in s.version (own_session s) s.timing a
  unfolding left
  left_now a e = λ i. left_in (g.version i) (session_by (g.version i) (g.sessions i)) (g.timing i) (e i)

  newest_is : (a b : Option AnswerCursor) → s.answer ≡ a → new.answer ≡ b → newest_in s.ready b ≡ newest_in s.ready a → newest_of new ≡ newest_of s
  unfolding newest_of
  newest_is a b was is same = (λ i. newest_in (g.ready i) (is i)) ∙ same ∙ ap (newest_in s.ready) (sym was)

  -- The first PDUs of what was left are written, and the others are left.
  record FillsUnits : Type 0 where
    pub first : List Unit
    pub was : left s ≡ first ++ left new
    pub result_is : result ≡ filled + length (sent_all s.version first)
    pub low : result ≤ length out
    pub now_is : now ≡ take filled out ++ sent_all s.version first ++ drop result out
    pub newest : newest_of new ≡ newest_of s

  by_answer : (a b : Option AnswerCursor) → s.answer ≡ a → new.answer ≡ b → FillsAnswer s.version a out filled result now b → FillsUnits
  by_answer None b was is h = record {
    first = [];
    was = left_is None was ∙ sym (left_now None (is ∙ h.2));
    result_is = omega (arith, h.0);
    low = omega (arith, h.0, f.low);
    now_is = h.1 ∙ sym (ap (λ x. x ++ drop result out) (append-nil (take filled out)) ∙ ap (λ n. take n out ++ drop result out) (sym h.0) ∙ take-append-drop result out);
    newest = newest_is None None was (is ∙ h.2) refl;
  }
  by_answer (Some old) b was is h =
      let cursor : AnswerCursor = h.0 in
      let goes : FillsFrom s.version old out filled result now cursor = h.2 in
      let units : List Unit = drop old.place (units_in old.records) in
      let end : List Unit = end_of_data s.version (own_session s) (serial_in old.records) s.timing ∷ [] in
      let later : drop goes.count units ++ end ≡ left new =
      ap (λ x. x ++ end) (drop-drop goes.count old.place (units_in old.records))
      ∙ sym (left_now (Some cursor) (is ∙ h.1) ∙ (λ i. drop (goes.place i) (units_in (goes.records i)) ++ end_of_data s.version (own_session s) (serial_in (goes.records i)) s.timing ∷ [])) in
      record {
        first = take goes.count units;
        was = left_is (Some old) was ∙ ap (λ x. x ++ end) (sym (take-append-drop goes.count units)) ∙ append_assoc (take goes.count units) (drop goes.count units) end ∙ ap (λ x. take goes.count units ++ x) later;
        result_is = goes.fills.result_is;
        low = goes.fills.low;
        now_is = goes.fills.now_is;
        newest = newest_is (Some old) (Some cursor) was (is ∙ h.1) (same_newest s.ready cursor old goes.records);
      }
    where
      same_newest : (ready : _) (x y : AnswerCursor) → x.records ≡ y.records → newest_in ready (Some x) ≡ newest_in ready (Some y)
      same_newest None x y e = ap (λ r. newest_in None (Some (record { records = r; place = 0 }))) e
      same_newest (Some share) x y e = refl

  units_filled : FillsUnits
  units_filled = by_answer s.answer new.answer refl refl g.answer

  pub fills_more : IsFilled start given new now result
  unfolding due_of ready_in
  fills_more =
      let u = units_filled in
      fills_first start given s out filled result now new (sent_all s.version u.first) f
      (ap (λ x. x ++ sent_all s.version (left s)) none ∙ ap (sent_all s.version) u.was ∙ flat_map-append (sent s.version) u.first (left new)
      ∙ ap (λ x. sent_all s.version u.first ++ x) (sym (λ i. none_stays i ++ sent_all (g.version i) (left new))))
      u.result_is u.low u.now_is (record { version = g.version; sessions = g.sessions; timing = g.timing; newest = u.newest; room = λ before. omega (arith, ap length none_stays) })

  -- and at most as many PDUs are left as there were
  pub none_more : length (left new) ≤ length (left s)
  none_more = let u = units_filled in omega (arith, ap length u.was, length-append u.first (left new))
