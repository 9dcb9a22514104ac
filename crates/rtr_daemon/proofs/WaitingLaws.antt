-- What waits among the clients is covered, and found anew.
use Rattle.std.proofs.Common.{◌≡◌, ℕ, List, ◌<◌, ◌≤◌, ◌+◌, ◌⊎◌, inl, inr, ap, refl, subst, sym, ◌∙◌, arith, cond}
use Rattle.std.specs.Prelude.{Bool, true, false, ◌||◌, is_some, max, min, nat_le, not, unwrap_or, if◌then◌else◌, Option, None, Some, IsSome, OnErr, OnOk, Result, Ok, Err, option_map}
use Rattle.std.specs.BTreeMap.{BTreeMap, IsUnchanged, Updates, WritesThrough, get, is_at}
use Rattle.std.specs.Map.{lookup}
use Rattle.std.specs.Ordering.{nat_cmp}
use Rattle.std.proofs.Math.Nat.{le-max_right, min-le_left, min-le_right}
use Rattle.std.proofs.lemmas.Bool.{cases_lt, false≢true}
use Rattle.std.proofs.lemmas.Bool.Decides.{nat_tests}
use Rattle.rtr_daemon.specs.Closing.{WakesFor, is_notified_client}
use Rattle.rtr_daemon.specs.declared.losing.Readings.{Readings}
use Rattle.rtr_daemon.specs.Known.{SameClients, known_at, without_queue}
use Rattle.rtr_daemon.specs.Losing.{lines_noted}
use Rattle.tcp_table.specs.Columns.{endpoint_of}
use Rattle.tcp_table.specs.Loss.{unanswered_after}
use Rattle.tcp_table.specs.Tables.{bytes_of}
use Rattle.tcp_table.specs.declared.line.TcpLine.{TcpLine}
use Rattle.rtr_daemon.specs.Queue.{IsFirstFrom, IsQueued, QueuesBehind}
use Rattle.rtr_daemon.specs.Waiting.{AreCovered, Covers, first_of, is_blocked_client, is_by, silent_time, waiting_and, waiting_with}
use Rattle.rtr_daemon.specs.declared.client_entry.ClientEntry.{ClientEntry}
use Rattle.rtr_daemon.specs.declared.client_table.ClientTable.{ClientTable}
use Rattle.rtr_daemon.specs.declared.waiting.Waiting.{Waiting}
use Rattle.rtr_daemon.proofs.OverdueLaws.{absent}
use Rattle.rtr_daemon.proofs.WakeLaws.{IsBefore, still_queued}

or_right : (a b : Bool) → b ≡ true → (a || b) ≡ true
or_right true b is = refl
or_right false b is = is

or_left : (a b : Bool) → a ≡ true → (a || b) ≡ true
or_left true b is = refl
or_left false b is = absurd (false≢true is)

earlier_by : (at : Option ℕ) (time limit : ℕ) → is_by at limit ≡ true → nat_le (first_of at time) limit ≡ true
earlier_by None time limit by = absurd (false≢true by)
earlier_by (Some a) time limit by =
    let least = min-le_left time a in
    let within : a ≤ limit = grind (arith, nat_tests) in
    grind (arith, nat_tests)

first_by : (at : Option ℕ) (time : ℕ) → nat_le (first_of at time) time ≡ true
first_by None time = grind (arith, nat_tests)
first_by (Some a) time = let least = min-le_right time a in grind (arith, nat_tests)

-- A client that is covered stays so with a client more.
pub covers_more : (w : Waiting) (more entry : ClientEntry) → Covers w entry → Covers (waiting_and w more) entry
covers_more w more entry c = record {
  blocked = λ is. or_left w.blocked (is_some more.blocked) (c.blocked is);
  notified = λ is. or_left w.notified more.is_notified (c.notified is);
  silent = λ is. by more.has_asked (c.silent is);
} where
  by : (asked : Bool) → is_by w.silent_at (silent_time entry) ≡ true → is_by (if asked then w.silent_at else Some (first_of w.silent_at (silent_time more))) (silent_time entry) ≡ true
  by true at = at
  by false at = earlier_by w.silent_at (silent_time more) (silent_time entry) at

-- The client itself is covered.
pub covers_new : (w : Waiting) (entry : ClientEntry) → Covers (waiting_and w entry) entry
covers_new w entry = record {
  blocked = λ is. or_right w.blocked (is_some entry.blocked) is;
  notified = λ is. or_right w.notified entry.is_notified is;
  silent = λ is. subst (λ asked. is_by (if asked then w.silent_at else Some (first_of w.silent_at (silent_time entry))) (silent_time entry) ≡ true) (sym is) (first_by w.silent_at (silent_time entry));
}

pub all_covered_more : (w : Waiting) (more : ClientEntry) (m : BTreeMap ℕ ClientEntry) → AreCovered w m → AreCovered (waiting_and w more) m
all_covered_more w more m all token entry got = covers_more w more entry (all token entry got)

-- A client is noted that is covered.
pub covered_put : (w : Waiting) (m n : BTreeMap ℕ ClientEntry) (token : ℕ) (after : ClientEntry) → ((t : ℕ) → get nat_cmp n t ≡ cond (is_at (nat_cmp token) t) (Some after) (get nat_cmp m t)) → Covers w after → AreCovered w m → AreCovered w n
covered_put w m n token after put here before t entry got = by (is_at (nat_cmp token) t) (sym (put t) ∙ got) where
  by : (is : Bool) → cond is (Some after) (get nat_cmp m t) ≡ Some entry → Covers w entry
  by true same = let entry_is : after ≡ entry = cc in subst (Covers w) entry_is here
  by false same = before t entry same

-- A client is noted through what was lent of the table.
pub covered_written : (w : Waiting) (m n : BTreeMap ℕ ClientEntry) (token : ℕ) (before after : ClientEntry) → Some before ≡ get nat_cmp m token → WritesThrough nat_cmp (nat_cmp token) m after n → Covers w after → AreCovered w m → AreCovered w n
covered_written w m n token before after is written here all = covered_put w m n token after (written.3 (subst IsSome is refl)).0 here all

-- A client is inserted, or memory runs out.
pub covered_inserted : {A B : Type 0} (w : Waiting) (m n : BTreeMap ℕ ClientEntry) (token : ℕ) (entry : ClientEntry) (result : Result A B) → OnOk result (Updates nat_cmp m n token (Some entry)) → OnErr result (IsUnchanged m n) → Covers w entry → AreCovered w m → AreCovered w n
covered_inserted w m n token entry (Ok x) updates same here all = covered_put w m n token entry updates.0 here all
covered_inserted w m n token entry (Err e) updates same here all = λ t other got. all t other (sym (ap (lookup (is_at (nat_cmp t))) same) ∙ got)

-- A client is removed.
pub covered_removed : (w : Waiting) (m n : BTreeMap ℕ ClientEntry) (token : ℕ) → ((t : ℕ) → get nat_cmp n t ≡ cond (is_at (nat_cmp token) t) None (get nat_cmp m t)) → AreCovered w m → AreCovered w n
covered_removed w m n token removed before t entry got = by (is_at (nat_cmp token) t) (sym (removed t) ∙ got) where
  by : (is : Bool) → cond is None (get nat_cmp m t) ≡ Some entry → Covers w entry
  by true same = absurd (let never : None ≡ Some entry = same in cc)
  by false same = before t entry same

-- What is covered does not depend on who is queued.
pub covers_as : (w : Waiting) (entry : ClientEntry) → Covers w (without_queue entry) → Covers w entry
covers_as w entry c = record { blocked = c.blocked; notified = c.notified; silent = c.silent }

pub covers_known : (w : Waiting) (entry : ClientEntry) → Covers w entry → Covers w (without_queue entry)
covers_known w entry c = record { blocked = c.blocked; notified = c.notified; silent = c.silent }

pub covers_queued : (w : Waiting) (entry : ClientEntry) (is_queued : Bool) → Covers w entry → Covers w (record entry { is_queued = is_queued })
covers_queued w entry is_queued c = record { blocked = c.blocked; notified = c.notified; silent = c.silent }

-- nor on which bytes are sent again
pub covers_lined : (w : Waiting) (lines : List TcpLine) (now : ℕ) (entry : ClientEntry) → Covers w entry → Covers w (lines_noted lines now entry)
covers_lined w lines now entry c = by entry.is_notified where
  by : (notified : Bool) → Covers w (if notified then record entry { unanswered = unanswered_after entry.unanswered (bytes_of (endpoint_of entry.local) (endpoint_of entry.address) lines) now } else entry)
  by true = record { blocked = c.blocked; notified = c.notified; silent = c.silent }
  by false = c

-- Each known client is covered.
pub known_covered : (w : Waiting) (table : ClientTable) → AreCovered w table.by_token → (token : ℕ) (entry : ClientEntry) → known_at table token ≡ Some entry → Covers w entry
known_covered w table all token entry = by (get nat_cmp table.by_token token) refl where
  by : (found : Option ClientEntry) → get nat_cmp table.by_token token ≡ found → option_map without_queue found ≡ Some entry → Covers w entry
  by None is same = absurd (let never : None ≡ Some entry = same in cc)
  by (Some e) is same = let entry_is : without_queue e ≡ entry = cc in subst (Covers w) entry_is (covers_known w e (all token e is))

-- Each client is covered if each known one is.
pub all_covered : (w : Waiting) (table : ClientTable) → ((token : ℕ) (entry : ClientEntry) → known_at table token ≡ Some entry → Covers w entry) → AreCovered w table.by_token
all_covered w table known token entry got = covers_as w entry (known token (without_queue entry) (ap (option_map without_queue) got))

-- So far the clients before the next token are covered, and those of them that are blocked are queued.
pub record FoundBefore (start now : ClientTable) (w : Waiting) (next : Option ℕ) : Type 0 where
  pub covered : (t : ℕ) (entry : ClientEntry) → IsBefore t next → known_at now t ≡ Some entry → Covers w entry
  pub tried : (t : ℕ) → IsBefore t next → is_blocked_client (known_at start t) ≡ true → IsQueued now t

pub found_none : (table : ClientTable) (w : Waiting) (next : Option ℕ) → IsFirstFrom table 0 next → FoundBefore table table w next
found_none table w next first = record {
  covered = λ t entry before is. absurd (let never : None ≡ Some entry = sym (gone t before) ∙ is in cc);
  tried = λ t before blocked. absurd (false≢true (subst (λ known. is_blocked_client known ≡ true) (gone t before) blocked));
} where
  gone : (t : ℕ) → IsBefore t next → known_at table t ≡ None
  gone t before = absent table 0 next first t (omega arith) before

-- One client more
pub found_more : (start table mid : ClientTable) (w : Waiting) (token : ℕ) (after : Option ℕ) → SameClients start table → SameClients table mid → QueuesBehind table.queue.items mid → (is_blocked_client (known_at start token) ≡ true → IsQueued mid token) → IsFirstFrom mid (token + 1) after → FoundBefore start table w (Some token)
    → FoundBefore start mid (waiting_with w (known_at mid token)) after
found_more start table mid w token after first second behind tries next so_far = record { covered = λ t entry before is. covered t entry is (cases_lt t token) (cases_lt token t) before; tried = λ t before is. tried t is (cases_lt t token) (cases_lt token t) before } where
  gone : (t : ℕ) → token < t → IsBefore t after → known_at mid t ≡ None
  gone t later before = absent mid (token + 1) after next t (omega (arith, later)) before

  with_known : (known : Option ClientEntry) (entry : ClientEntry) → Covers w entry → Covers (waiting_with w known) entry
  with_known None entry c = c
  with_known (Some e) entry c = covers_more w e entry c

  own : (known : Option ClientEntry) (entry : ClientEntry) → known ≡ Some entry → Covers (waiting_with w known) entry
  own None entry is = absurd (let never : None ≡ Some entry = is in cc)
  own (Some e) entry is = let same : e ≡ entry = cc in subst (Covers (waiting_and w e)) same (covers_new w e)

  covered : (t : ℕ) (entry : ClientEntry) → known_at mid t ≡ Some entry → (t < token) ⊎ (token ≤ t) → (token < t) ⊎ (t ≤ token) → IsBefore t after → Covers (waiting_with w (known_at mid token)) entry
  covered t entry is (inl less) more before = with_known (known_at mid token) entry (so_far.covered t entry less (sym (second t) ∙ is))
  covered t entry is (inr most) (inl later) before = absurd (let never : None ≡ Some entry = sym (gone t later before) ∙ is in cc)
  covered t entry is (inr most) (inr least) before = let at : t ≡ token = omega (arith, most, least) in own (known_at mid token) entry (subst (λ u. known_at mid u ≡ Some entry) at is)

  tried : (t : ℕ) → is_blocked_client (known_at start t) ≡ true → (t < token) ⊎ (token ≤ t) → (token < t) ⊎ (t ≤ token) → IsBefore t after → IsQueued mid t
  tried t is (inl less) more before = still_queued table mid t (second t) behind (so_far.tried t less is)
  tried t is (inr most) (inl later) before = absurd (false≢true (subst (λ known. is_blocked_client known ≡ true) (sym (second t ∙ first t) ∙ gone t later before) is))
  tried t is (inr most) (inr least) before = let at : t ≡ token = omega (arith, most, least) in subst (IsQueued mid) (sym at) (tries (subst (λ u. is_blocked_client (known_at start u) ≡ true) at is))

-- If a client is blocked, the next round is in time for each.
pub wakes_for_blocked : (round : ℕ) (readings : Readings) (entry : ClientEntry) → WakesFor round readings round entry
wakes_for_blocked round readings entry = record { blocked = λ is. omega arith; silent = λ is. le-max_right (silent_time entry) round; notified = λ is. le-max_right readings.next round }

-- Otherwise the first round in which one is silent, or the tables are read, is.
pub wakes_for_others : (w : Waiting) (round : ℕ) (readings : Readings) (reading silent : ℕ) (entry : ClientEntry) → w.blocked ≡ false → (w.notified ≡ true → reading ≡ readings.next) → silent ≡ unwrap_or w.silent_at 18446744073709551615 → Covers w entry → WakesFor round readings (max (min reading silent) round) entry
wakes_for_others w round readings reading silent entry none read at c = record {
  blocked = λ is. absurd (false≢true (sym none ∙ c.blocked is));
  silent = λ is. let within : silent ≤ silent_time entry = by w.silent_at at (c.silent is) in omega (arith, within);
  notified = λ is. let same : reading ≡ readings.next = read (c.notified is) in omega (arith, same);
} where
  by : (time : Option ℕ) → silent ≡ unwrap_or time 18446744073709551615 → is_by time (silent_time entry) ≡ true → silent ≤ silent_time entry
  by None is covered = absurd (false≢true covered)
  by (Some time) is covered = let within : time ≤ silent_time entry = grind (arith, nat_tests) in omega (arith, is, within)

-- If no client is noted as notified, none is.
pub none_notified : (table : ClientTable) (w : Waiting) → not w.notified ≡ true → ((token : ℕ) (entry : ClientEntry) → known_at table token ≡ Some entry → Covers w entry) → (token : ℕ) → is_notified_client (known_at table token) ≡ false
none_notified table w not_noted covers token = by (known_at table token) (covers token) where
  is_false : (b : Bool) → not b ≡ true → b ≡ false
  is_false true is = absurd (false≢true is)
  is_false false is = refl

  none : w.notified ≡ false
  none = is_false w.notified not_noted

  none_of : (entry : ClientEntry) (is : Bool) → entry.is_notified ≡ is → Covers w entry → entry.is_notified ≡ false
  none_of entry true is c = absurd (false≢true (sym none ∙ c.notified is))
  none_of entry false is c = is

  by : (known : Option ClientEntry) → ((entry : ClientEntry) → known ≡ Some entry → Covers w entry) → is_notified_client known ≡ false
  by None all = refl
  by (Some entry) all = none_of entry entry.is_notified refl (all entry refl)
