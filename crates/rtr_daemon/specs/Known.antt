-- What is known of the clients.
use Rattle.std.specs.Prelude.{◌≡◌, ℕ, Option, None, option_map, false}
use Rattle.std.specs.BTreeMap.{get}
use Rattle.std.specs.Ordering.{nat_cmp}
use Rattle.rtr_server.specs.declared.server.Client.{Client}
use Rattle.rtr_daemon.specs.declared.client_entry.ClientEntry.{ClientEntry}
use Rattle.rtr_daemon.specs.declared.client_table.ClientTable.{ClientTable}

-- what is known of a client, whether it is queued or not
abbrev pub without_queue : ClientEntry → ClientEntry
without_queue entry = record entry { is_queued = false }

-- what is known of the client of a poll token
abbrev pub known_at : ClientTable → ℕ → Option ClientEntry
known_at table token = option_map without_queue (get nat_cmp table.by_token token)

-- the client of a poll token
abbrev pub client_at : ClientTable → ℕ → Option Client
client_at table token = option_map (λ entry. entry.client) (known_at table token)

-- What is known of each client is unchanged.
abbrev pub SameClients : ClientTable → ClientTable → Type 0
SameClients old new = (token : ℕ) → known_at new token ≡ known_at old token

-- No client is left.
abbrev pub NoClients : ClientTable → Type 0
NoClients table = (token : ℕ) → known_at table token ≡ None

-- What is known of the clients of all other tokens is unchanged.
abbrev pub OtherClients : ℕ → ClientTable → ClientTable → Type 0
OtherClients token old new = (other : ℕ) → ¬ (other ≡ token) → known_at new other ≡ known_at old other
