-- Some connections were woken so far.
use Rattle.status_server.specs.Connections.{Each, IsWoken}
use Rattle.status_server.proofs.http_endpoint.HttpEndpoint.note_all.Given as goal

abbrev pub invariant-loop-ready : goal.invariant-loop-ready
invariant-loop-ready g l = Each IsWoken l.initial.self.0 l.self.0
