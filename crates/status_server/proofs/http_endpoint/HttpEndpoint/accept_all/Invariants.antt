-- The connections that were accepted so far follow those of before.
use Rattle.status_server.specs.Connections.{Accepts}
use Rattle.status_server.proofs.http_endpoint.HttpEndpoint.accept_all.Given as goal

abbrev pub invariant-loop-connection : goal.invariant-loop-connection
invariant-loop-connection g l = Accepts l.now l.initial.self.0 l.self.0
