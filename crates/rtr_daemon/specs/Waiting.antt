-- What waits among the clients: whether some are blocked on writing or notified, and when the first of those without a query is silent. Times are
-- milliseconds of the monotonic clock.
use Rattle.std.specs.Prelude.{◌≡◌, ◌||◌, ℕ, Bool, false, true, is_some, min, nat_le, Option, None, Some, if◌then◌else◌}
use Rattle.std.specs.BTreeMap.{BTreeMap, get}
use Rattle.std.specs.Ordering.{nat_cmp}
use Rattle.rtr_daemon.specs.Overdue.{first_query}
use Rattle.rtr_daemon.specs.Times.{later_by}
use Rattle.rtr_daemon.specs.declared.client_entry.ClientEntry.{ClientEntry}
use Rattle.rtr_daemon.specs.declared.waiting.Waiting.{Waiting}

-- when a client is silent if it sends no whole query
abbrev pub silent_time : ClientEntry → ℕ
silent_time entry = later_by first_query entry.came

-- the earlier of two times, if there are two
abbrev pub first_of : Option ℕ → ℕ → ℕ
first_of None at = at
first_of (Some time) at = min time at

abbrev pub and_silent : ClientEntry → Option ℕ → Option ℕ
and_silent entry at = if entry.has_asked then at else Some (first_of at (silent_time entry))

-- whether there is such a time, and it is not later than this one
abbrev pub is_by : Option ℕ → ℕ → Bool
is_by None at = false
is_by (Some time) at = nat_le time at

-- what waits, with a client more
abbrev pub waiting_and : Waiting → ClientEntry → Waiting
waiting_and w entry = record { blocked = w.blocked || is_some entry.blocked; notified = w.notified || entry.is_notified; silent_at = and_silent entry w.silent_at }

-- It covers a client: what waits of the client is noted there.
pub record Covers (w : Waiting) (entry : ClientEntry) : Type 0 where
  pub blocked : is_some entry.blocked ≡ true → w.blocked ≡ true
  pub notified : entry.is_notified ≡ true → w.notified ≡ true
  pub silent : entry.has_asked ≡ false → is_by w.silent_at (silent_time entry) ≡ true

-- It covers each client.
abbrev pub AreCovered : Waiting → BTreeMap ℕ ClientEntry → Type 0
AreCovered w clients = (token : ℕ) (entry : ClientEntry) → get nat_cmp clients token ≡ Some entry → Covers w entry

-- whether there is a client, and it is blocked on writing
abbrev pub is_blocked_client : Option ClientEntry → Bool
is_blocked_client None = false
is_blocked_client (Some entry) = is_some entry.blocked

-- what waits, with a client more, if there is one
abbrev pub waiting_with : Waiting → Option ClientEntry → Waiting
waiting_with w None = w
waiting_with w (Some entry) = waiting_and w entry
