-- Which clients are closed each second. Times are milliseconds of the monotonic clock.
use Rattle.std.specs.Prelude.{◌≡◌, ◌⊎◌, ◌<◌, ◌≤◌, ℕ, Bool, false, true, is_some, max, List, Option, None, Some}
use Rattle.tcp_table.specs.Tables.{unanswered}
use Rattle.rtr_daemon.specs.Known.{SameClients, known_at}
use Rattle.rtr_daemon.specs.Losing.{ClosesLost}
use Rattle.rtr_daemon.specs.Overdue.{unless_overdue}
use Rattle.rtr_daemon.specs.Queue.{IsQueued}
use Rattle.rtr_daemon.specs.SocketCalls.{SocketCalls}
use Rattle.rtr_daemon.specs.Times.{later_by}
use Rattle.rtr_daemon.specs.Waiting.{is_blocked_client, silent_time}
use Rattle.rtr_daemon.specs.declared.client_entry.ClientEntry.{ClientEntry}
use Rattle.rtr_daemon.specs.declared.client_table.ClientTable.{ClientTable}
use Rattle.rtr_daemon.specs.declared.daemon.Daemon.{Daemon}
use Rattle.rtr_daemon.specs.declared.daemon.Plan.{Plan}
use Rattle.rtr_daemon.specs.declared.losing.Readings.{Readings}

-- Each overdue client is closed, and what is known of all others is unchanged.
abbrev pub ClosesOverdue : ℕ → Plan → ClientTable → ClientTable → Type 0
ClosesOverdue now plan old new = (token : ℕ) → known_at new token ≡ unless_overdue now plan (known_at old token)

-- whether there is a client that was notified and has sent nothing since
abbrev pub is_notified_client : Option ClientEntry → Bool
is_notified_client None = false
is_notified_client (Some entry) = entry.is_notified

-- The system's tables of connections need not be read: they were within the last ten seconds, or no client was notified without having sent
-- anything since.
abbrev pub NeedNoReading : ℕ → Readings → ClientTable → Type 0
NeedNoReading now readings table = (now < readings.next) ⊎ ((token : ℕ) → is_notified_client (known_at table token) ≡ false)

-- Each client that is lost by the system's tables is closed, after as long as for stalled ones. If they cannot be read, or memory runs out for their
-- lines, none is.
abbrev pub ClosesBy : Option (List ℕ) → ℕ → ℕ → ClientTable → ClientTable → Type 0
ClosesBy None now stall old new = SameClients old new
ClosesBy (Some table) now stall old new = ClosesLost (unanswered table) now stall old new ⊎ SameClients old new

-- The system's tables were asked for, and lost clients closed by them. The next reading is ten seconds later.
pub record Looks {W : Type 0} (calls : SocketCalls W) (now stall : ℕ) (old : ClientTable) (readings : Readings) (new : ClientTable) : Type 0 where
  pub before : W
  pub tables : Option (List ℕ)
  pub after : W
  pub shown : calls.shows before tables after
  pub closed : ClosesBy tables now stall old new
  pub next : readings.next ≡ later_by 10000 now

-- So it is if it is time for a reading. Otherwise nothing has changed.
abbrev pub LooksIfDue : {W : Type 0} → SocketCalls W → ℕ → ℕ → Readings → ClientTable → Readings → ClientTable → Type 0
LooksIfDue calls now stall readings old after new = (NeedNoReading now readings old × SameClients old new × (after ≡ readings)) ⊎ Looks calls now stall old after new

-- Each second, overdue clients are closed, at a time that the clock answered. Then lost ones are, if it is time for that. All others stay.
pub record ClosesClients {S T W : Type 0} (calls : SocketCalls W) (ticks : ℕ → Type 0) (now : ℕ) (old new : Daemon S T) : Type 0 where
  pub at : ℕ
  pub ticked : ticks at
  pub left : ClientTable
  pub overdue : ClosesOverdue at old.plan old.clients left
  pub lost : LooksIfDue calls now old.plan.stall old.readings left new.readings new.clients

-- A time is early enough for a client. If the client is blocked, the time is not after the next round. If it has sent no query, it is not after the
-- first round in which the client is silent. If it was notified, it is not after the first one in which the system's tables are read.
pub record WakesFor (round : ℕ) (readings : Readings) (time : ℕ) (entry : ClientEntry) : Type 0 where
  pub blocked : is_some entry.blocked ≡ true → time ≤ round
  pub silent : entry.has_asked ≡ false → time ≤ max (silent_time entry) round
  pub notified : entry.is_notified ≡ true → time ≤ max readings.next round

-- Each blocked client is queued, so that it is tried.
abbrev pub TriesBlocked : ClientTable → Type 0
TriesBlocked table = (token : ℕ) → is_blocked_client (known_at table token) ≡ true → IsQueued table token
