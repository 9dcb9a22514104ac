use Rattle.status_server.specs.Connections.{IsWoken}
use Rattle.status_server.proofs.ConnectionLaws.{each_same, each_then, woken_same, woken_then}
use Rattle.status_server.proofs.http_endpoint.HttpEndpoint.note_all.Goals as goal

pub loop-ready-init : goal.loop-ready-init
loop-ready-init g c = each_same IsWoken woken_same c.args.self.now.0

pub loop-ready-preserved : goal.loop-ready-preserved
loop-ready-preserved g c = each_then IsWoken woken_then c.args.self.now.0 c.loop-ready.self.0 c.note.new.self.0 c.loop-ready.invariant c.note.ensures
