-- When a client is lost: it was notified and has sent nothing since, and the bytes to it are sent again and again. Times are milliseconds of the monotonic
-- clock.
use Rattle.std.specs.Prelude.{◌≡◌, ℕ, Bool, false, List, Option, None, Some, option_map, if◌then◌else◌}
use Rattle.tcp_table.specs.Columns.{endpoint_of}
use Rattle.tcp_table.specs.Loss.{is_lost, unanswered_after}
use Rattle.tcp_table.specs.Tables.{bytes_of}
use Rattle.tcp_table.specs.declared.line.TcpLine.{TcpLine}
use Rattle.rtr_daemon.specs.Known.{known_at}
use Rattle.rtr_daemon.specs.declared.client_entry.ClientEntry.{ClientEntry}
use Rattle.rtr_daemon.specs.declared.client_table.ClientTable.{ClientTable}

-- what is known of a client after a reading of the system's tables: of one that was notified and has sent nothing since, which bytes are sent again
abbrev pub lines_noted : List TcpLine → ℕ → ClientEntry → ClientEntry
lines_noted lines now entry =
    if entry.is_notified
    then record entry { unanswered = unanswered_after entry.unanswered (bytes_of (endpoint_of entry.local) (endpoint_of entry.address) lines) now }
    else entry

-- whether there is a client, and it is lost
abbrev pub is_lost_client : Option ClientEntry → ℕ → ℕ → Bool
is_lost_client None now stall = false
is_lost_client (Some entry) now stall = is_lost entry.unanswered now stall

abbrev pub noted_by : List TcpLine → ℕ → Option ClientEntry → Option ClientEntry
noted_by lines now client = option_map (lines_noted lines now) client

-- what is known of a client after lost ones are closed
abbrev pub unless_lost : List TcpLine → ℕ → ℕ → Option ClientEntry → Option ClientEntry
unless_lost lines now stall client = if is_lost_client (noted_by lines now client) now stall then None else noted_by lines now client

-- Each client that is lost is closed. Of all others it is noted what the tables show, and otherwise they are unchanged.
abbrev pub ClosesLost : List TcpLine → ℕ → ℕ → ClientTable → ClientTable → Type 0
ClosesLost lines now stall old new = (token : ℕ) → known_at new token ≡ unless_lost lines now stall (known_at old token)
