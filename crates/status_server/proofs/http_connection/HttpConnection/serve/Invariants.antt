-- Each call so far was one of the calls of the stream. It is known whether one of them sent a byte, and what was answered.
use Rattle.std.proofs.Common.{◌≡◌}
use Rattle.http_server.specs.Connection.{history}
use Rattle.http_server.specs.Exchange.{Calls}
use Rattle.status_server.specs.Calls.{MakesCalls, has_sent}
use Rattle.status_server.proofs.http_connection.HttpConnection.serve.Given as goal

abbrev pub invariant-loop-call : goal.invariant-loop-call
invariant-loop-call g l =
    MakesCalls g.T.Read.remaining g.T.Write.contents l._call l.initial.self l.self
    × (l.has_sent ≡ has_sent l.initial.self l.self)
    × Calls g.S.Service.answers l.initial.service l.service (history l.initial.self.connection).calls (history l.self.connection).calls
