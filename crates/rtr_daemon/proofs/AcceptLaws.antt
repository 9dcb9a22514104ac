-- Listeners are asked, one accept after another.
use Rattle.std.proofs.Common.{◌≡◌, ◌∙◌, ◌⊎◌, inl, inr, ℕ, zero, suc, ◌+◌, ◌-◌, ◌<◌, ◌≤◌, List, [], ◌∷◌, length, get_or, take, arith, ap, refl, subst, sym}
use Rattle.std.specs.Prelude.{true, false, Option, None, Some, slice_get, slice_set, unwrap_or}
use Rattle.std.proofs.lemmas.List.Elements.{All-more, All-weaker}
use Rattle.std.proofs.lemmas.Bool.{cases_lt}
use Rattle.std.proofs.lemmas.Option.{slice_get-get_or, slice_get_within}
use Rattle.prefixes.proofs.Basics.{set_other, set_same}
use Rattle.rtr_daemon.specs.Accepting.{AcceptsOnce, AreTriedBy, AsksEach, AsksOne, AsksUntil, IsBy, IsTriedBy, can_accept, changed, changed_at, is_asked}
use Rattle.rtr_daemon.specs.SocketCalls.{SocketCalls}
use Rattle.rtr_daemon.specs.Starting.{open_listener}
use Rattle.rtr_daemon.specs.declared.accepting.Listener.{Listener}

-- A listener that is there is changed.
pub changed_is : (ls : List Listener) (i : ℕ) (change : Listener → Listener) (l : Listener) → slice_get ls i ≡ Some l → changed_at ls i change ≡ slice_set ls i (change l)
changed_is ls i change l is = ap (changed ls i change) is

-- A listener is set to what it is.
pub set_self : (ls : List Listener) (i : ℕ) (l : Listener) → slice_get ls i ≡ Some l → slice_set ls i l ≡ ls
set_self [] i l is = refl
set_self (x ∷ xs) zero l is = let same : x ≡ l = cc in ap (λ first. first ∷ xs) (sym same)
set_self (x ∷ xs) (suc i) l is = ap (λ rest. x ∷ rest) (set_self xs i l is)

set_again : (ls : List Listener) (i : ℕ) (a b : Listener) → slice_set (slice_set ls i a) i b ≡ slice_set ls i b
set_again [] i a b = refl
set_again (x ∷ xs) zero a b = refl
set_again (x ∷ xs) (suc i) a b = ap (λ rest. x ∷ rest) (set_again xs i a b)

pub many_set : (ls : List Listener) (i : ℕ) (a : Listener) → length (slice_set ls i a) ≡ length ls
many_set [] i a = refl
many_set (x ∷ xs) zero a = refl
many_set (x ∷ xs) (suc i) a = ap suc (many_set xs i a)

-- So far the listener of an index was asked this number of times, and then it can be asked further.
pub record Asking {W : Type 0} (calls : SocketCalls W) (ticks : ℕ → Type 0) (i : ℕ) (start now : List Listener) (count : ℕ) (l : Listener) : Type 0 where
  pub last : Listener
  pub is : now ≡ slice_set start i last
  pub leads : (end : Listener) → AsksUntil calls ticks i (1024 - count) last end → AsksUntil calls ticks i 1024 l end

pub asking_none : {W : Type 0} (calls : SocketCalls W) (ticks : ℕ → Type 0) (i : ℕ) (start : List Listener) (l : Listener) → slice_get start i ≡ Some l → Asking calls ticks i start start 0 l
asking_none calls ticks i start l is = record { last = l; is = sym (set_self start i l is); leads = λ end asks. asks }

-- The listener now
now_at : {W : Type 0} (calls : SocketCalls W) (ticks : ℕ → Type 0) (i : ℕ) (start now : List Listener) (count : ℕ) (l : Listener) → slice_get start i ≡ Some l → (a : Asking calls ticks i start now count l) → slice_get now i ≡ Some a.last
now_at calls ticks i start now count l is a = ap (λ ls. slice_get ls i) a.is ∙ set_same start i a.last (slice_get_within start i l is)

pub asking_more : {W : Type 0} (calls : SocketCalls W) (ticks : ℕ → Type 0) (i : ℕ) (start now new : List Listener) (count at : ℕ) (l : Listener) → slice_get start i ≡ Some l → count < 1024 → ticks at → is_asked (slice_get now i) at ≡ true → AcceptsOnce calls ticks i now new
    → Asking calls ticks i start now count l → Asking calls ticks i start new (count + 1) l
asking_more {W} calls ticks i start now new count at l is less ticked asked accepts a =
    let there = now_at calls ticks i start now count l is a in
    let can : can_accept a.last at ≡ true = subst (λ o. is_asked o at ≡ true) there asked in
    let once = accepts a.last there in
    let left : suc (1024 - (count + 1)) ≡ 1024 - count = omega (arith, less) in
    record {
      last = once.2;
      is = once.4 ∙ ap (λ ls. slice_set ls i once.2) a.is ∙ set_again start i a.last once.2;
      leads = λ end asks. a.leads end (subst (λ n. AsksUntil calls ticks i n a.last end) left (at, ticked, inr (can, once.0, once.1, once.2, once.3, asks)));
    }

-- It cannot be asked again now.
pub asked_out : {W : Type 0} (calls : SocketCalls W) (ticks : ℕ → Type 0) (i : ℕ) (start now : List Listener) (count at : ℕ) (l : Listener) → slice_get start i ≡ Some l → count < 1024 → ticks at → is_asked (slice_get now i) at ≡ false → Asking calls ticks i start now count l
    → (end : Listener) × (now ≡ slice_set start i end) × AsksUntil calls ticks i 1024 l end
asked_out calls ticks i start now count at l is less ticked asked a =
    let there = now_at calls ticks i start now count l is a in
    let cannot : can_accept a.last at ≡ false = subst (λ o. is_asked o at ≡ false) there asked in
    let left : suc (1024 - (count + 1)) ≡ 1024 - count = omega (arith, less) in
    (a.last, a.is, a.leads a.last (subst (λ n. AsksUntil calls ticks i n a.last a.last) left (at, ticked, inl (cannot, refl))))

-- It was asked as often as it may be.
pub asked_often : {W : Type 0} (calls : SocketCalls W) (ticks : ℕ → Type 0) (i : ℕ) (start now : List Listener) (count : ℕ) (l : Listener) → 1024 ≤ count → Asking calls ticks i start now count l → (end : Listener) × (now ≡ slice_set start i end) × AsksUntil calls ticks i 1024 l end
asked_often calls ticks i start now count l often a =
    let none : 0 ≡ 1024 - count = omega (arith, often) in
    (a.last, a.is, a.leads a.last (subst (λ n. AsksUntil calls ticks i n a.last a.last) none refl))

-- The listeners before an index were asked.
pub record AskedBefore {W : Type 0} (calls : SocketCalls W) (ticks : ℕ → Type 0) (start now : List Listener) (count : ℕ) : Type 0 where
  pub many : length now ≡ length start
  pub asked : (i : ℕ) (l : Listener) → i < count → slice_get start i ≡ Some l → (last : Listener) × (slice_get now i ≡ Some last) × AsksUntil calls ticks i 1024 l last
  pub others : (i : ℕ) → count ≤ i → slice_get now i ≡ slice_get start i

pub asked_none : {W : Type 0} (calls : SocketCalls W) (ticks : ℕ → Type 0) (start : List Listener) → AskedBefore calls ticks start start 0
asked_none calls ticks start = record { many = refl; asked = λ i l less is. absurd (omega (arith, less)); others = λ i less. refl }

pub asked_more : {W : Type 0} (calls : SocketCalls W) (ticks : ℕ → Type 0) (start now new : List Listener) (count : ℕ) → count < length start → AsksOne calls ticks count now new → AskedBefore calls ticks start now count → AskedBefore calls ticks start new (count + 1)
asked_more {W} calls ticks start now new count less asks a =
    let first = get_or start count open_listener in
    let at_start : slice_get start count ≡ Some first = slice_get-get_or start count open_listener less in
    let at_now : slice_get now count ≡ Some first = a.others count (omega arith) ∙ at_start in
    let one = asks first at_now in
    let within : count < length now = slice_get_within now count first at_now in
    let here : slice_get new count ≡ Some one.0 = ap (λ ls. slice_get ls count) one.1 ∙ set_same now count one.0 within in
    record {
      many = ap length one.1 ∙ many_set now count one.0 ∙ a.many;
      asked = λ i l earlier is. by i l is one here (cases_lt i count) earlier;
      others = λ i later. ap (λ ls. slice_get ls i) one.1 ∙ set_other now count i one.0 (λ e. omega (arith, later, e)) ∙ a.others i (omega (arith, later));
    }
  where
    by : (i : ℕ) (l : Listener) → slice_get start i ≡ Some l → (one : (last : Listener) × (new ≡ slice_set now count last) × AsksUntil calls ticks count 1024 (get_or start count open_listener) last) → slice_get new count ≡ Some one.0 → (i < count) ⊎ (count ≤ i) → i < count + 1
        → (last : Listener) × (slice_get new i ≡ Some last) × AsksUntil calls ticks i 1024 l last
    by i l is one here (inl before) earlier =
        let had = a.asked i l before is in
        (had.0, ap (λ ls. slice_get ls i) one.1 ∙ set_other now count i one.0 (λ e. omega (arith, before, e)) ∙ had.1, had.2)
    by i l is one here (inr not_before) earlier =
        let same : i ≡ count = omega (arith, not_before, earlier) in
        let first_is : Some l ≡ Some (get_or start count open_listener) = sym is ∙ ap (slice_get start) same ∙ slice_get-get_or start count open_listener less in
        let l_is : get_or start count open_listener ≡ l = cc in
        (one.0, ap (slice_get new) same ∙ here, subst (λ n. AsksUntil calls ticks n 1024 l one.0) (sym same) (subst (λ x. AsksUntil calls ticks count 1024 x one.0) l_is one.2))

pub asked_all : {W : Type 0} (calls : SocketCalls W) (ticks : ℕ → Type 0) (start now : List Listener) (count : ℕ) → length start ≤ count → AskedBefore calls ticks start now count → AsksEach calls ticks start now
asked_all calls ticks start now count all a = record { many = a.many; asks = λ i l is. a.asked i l (let within = slice_get_within start i l is in omega (arith, within, all)) is }

is_by_less : (old next : Option ℕ) (e at : ℕ) → next ≡ Some e → ((t : ℕ) → old ≡ Some t → e ≤ t) → IsBy old at → IsBy next at
is_by_less None next e at is earlier h = absurd h
is_by_less (Some t) next e at is earlier h = let less : e ≤ t = earlier t refl in subst (λ n. IsBy n at) (sym is) (let within : e ≤ at = omega (arith, less, h) in within)

-- One listener more at which a connection may be pending
pub tried_more : (old next : Option ℕ) (e t : ℕ) (listeners : List Listener) (i : ℕ) (d : Listener) → i < length listeners → next ≡ Some e → ((u : ℕ) → old ≡ Some u → e ≤ u) → e ≤ t → t ≡ unwrap_or (get_or listeners i d).paused_until 0
    → AreTriedBy old (take i listeners) → AreTriedBy next (take (i + 1) listeners)
tried_more old next e t listeners i d less is earlier within at before =
    All-more (IsTriedBy next) listeners i d less
    (All-weaker (IsTriedBy old) (IsTriedBy next) (λ l h pending. is_by_less old next e (unwrap_or l.paused_until 0) is earlier (h pending)) (take i listeners) before)
    (λ pending. subst (λ n. IsBy n (unwrap_or (get_or listeners i d).paused_until 0)) (sym is) (subst (λ n. e ≤ n) at within))

-- One more at which none is
pub tried_none : (old next : Option ℕ) (listeners : List Listener) (i : ℕ) (d : Listener) → i < length listeners → next ≡ old → (get_or listeners i d).pending ≡ false → AreTriedBy old (take i listeners) → AreTriedBy next (take (i + 1) listeners)
tried_none old next listeners i d less same none before =
    All-more (IsTriedBy next) listeners i d less (subst (λ n. AreTriedBy n (take i listeners)) (sym same) before) (λ pending. absurd (let never : false ≡ true = sym none ∙ pending in cc))

-- Each is tried by a time, if there is one. Without one none is pending, so that any will do.
pub tried_at : (time : Option ℕ) (other : ℕ) (listeners : List Listener) → AreTriedBy time listeners → AreTriedBy (Some (unwrap_or time other)) listeners
tried_at None other listeners tried = All-weaker (IsTriedBy None) (IsTriedBy (Some other)) (λ l h pending. absurd (h pending)) listeners tried
tried_at (Some time) other listeners tried = tried

pub tried_earlier : (time other : ℕ) (listeners : List Listener) → other ≤ time → AreTriedBy (Some time) listeners → AreTriedBy (Some other) listeners
tried_earlier time other listeners earlier tried =
    All-weaker (IsTriedBy (Some time)) (IsTriedBy (Some other)) (λ l h pending. let at : time ≤ unwrap_or l.paused_until 0 = h pending in let by : other ≤ unwrap_or l.paused_until 0 = omega (arith, earlier, at) in by) listeners tried
