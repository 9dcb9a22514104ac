-- What a connection can do next.
use Rattle.std.specs.Prelude.{Bool, false, true}
use Rattle.status_server.specs.declared.http_connection.HttpProgress.{HttpProgress}
use Rattle.status_server.specs.declared.http_connection.HttpProgress.TheVariants.{Busy, Closed, WouldBlock}

-- A busy connection is served in the next turn.
abbrev pub is_busy : HttpProgress → Bool
is_busy Busy = true
is_busy WouldBlock = false
is_busy Closed = false

abbrev pub is_closed : HttpProgress → Bool
is_closed Closed = true
is_closed WouldBlock = false
is_closed Busy = false
