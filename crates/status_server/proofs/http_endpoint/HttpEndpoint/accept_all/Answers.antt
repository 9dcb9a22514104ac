use Rattle.status_server.proofs.ConnectionLaws.{accepts_none, accepts_then}
use Rattle.status_server.proofs.http_endpoint.HttpEndpoint.accept_all.Goals as goal

pub loop-connection-init : goal.loop-connection-init
loop-connection-init g c = accepts_none c.args.now c.args.self.now.0

pub loop-connection-preserved : goal.loop-connection-preserved
loop-connection-preserved g c = accepts_then c.args.now c.args.self.now.0 c.loop-connection.self.0 c.accept.new.self.0 c.loop-connection.invariant c.accept.ensures

pub returns-then-not-accept : goal.returns-then-not-accept
returns-then-not-accept g c = accepts_then c.args.now c.args.self.now.0 c.loop-connection.self.0 c.accept.new.self.0 c.loop-connection.invariant c.accept.ensures
