-- The entries before the index were woken.
use Rattle.std.proofs.Common.{◌≡◌}
use Rattle.status_server.specs.Connections.{woken}
use Rattle.status_server.proofs.ConnectionLaws.{upto}
use Rattle.status_server.proofs.http_connections.wake_in.Given as goal

abbrev pub invariant-loop-entry : goal.invariant-loop-entry
invariant-loop-entry g l = l.entries ≡ upto (woken l.token) l.entry-index l.initial.entries
