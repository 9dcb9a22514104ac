-- Clients that come.
use Rattle.std.specs.Prelude.{◌≡◌, ◌⊎◌, ℕ, false, Some, None}
use Rattle.rtr_server.specs.declared.server.Client.{Client}
use Rattle.rtr_daemon.specs.Accepting.{HadAccepted}
use Rattle.rtr_daemon.specs.Known.{OtherClients, known_at}
use Rattle.rtr_daemon.specs.Queue.{IsQueued}
use Rattle.rtr_daemon.specs.SocketCalls.{Came, SocketCalls}
use Rattle.rtr_daemon.specs.declared.client_entry.ClientEntry.{ClientEntry}
use Rattle.rtr_daemon.specs.declared.client_entry.Ends.{Ends}
use Rattle.rtr_daemon.specs.declared.client_table.ClientTable.{ClientTable}

-- a client that came at a time: it was not served yet
abbrev pub newcomer : Client → Ends → ℕ → ClientEntry
newcomer client ends now = record {
  client = client;
  address = ends.address;
  local = ends.local;
  came = now;
  has_asked = false;
  blocked = None;
  answering = None;
  notifies = 0;
  is_notified = false;
  unanswered = None;
  carried = record { read = 0; written = 0 };
  is_queued = false;
}

-- The client of a poll token is new, and in the queue.
pub record IsNew (ticks : ℕ → Type 0) (table : ClientTable) (token : ℕ) : Type 0 where
  pub client : Client
  pub ends : Ends
  pub came : ℕ
  pub ticked : ticks came
  pub known : known_at table token ≡ Some (newcomer client ends came)
  pub queued : IsQueued table token

-- A client of this poll token came, or none. All others are unchanged.
pub record MayAdd (ticks : ℕ → Type 0) (token : ℕ) (old new : ClientTable) : Type 0 where
  pub others : OtherClients token old new
  pub came : (known_at new token ≡ known_at old token) ⊎ IsNew ticks new token

-- What is known of each client is unchanged, or the client is new: a listener accepted its connection.
abbrev pub AddsAccepted : {W : Type 0} → SocketCalls W → (ℕ → Type 0) → ClientTable → ClientTable → Type 0
AddsAccepted calls ticks old new = (token : ℕ) → (known_at new token ≡ known_at old token) ⊎ ((listener : ℕ) × HadAccepted calls listener (Came token) × IsNew ticks new token)
