use Rattle.status_server.proofs.ConnectionLaws.{accepts_none, accepts_one}
use Rattle.status_server.proofs.http_endpoint.HttpEndpoint.accept.Goals as goal

pub returns-then-not-self : goal.returns-then-not-self
returns-then-not-self g c = rw (← c.self.view_is) (accepts_none c.args.now c.self.inside.connections)

pub returns-in-Connection : goal.returns-in-Connection
returns-in-Connection g c = accepts_one c.args.now c.args.self.now.0 c.admit.new.self.0 c.admit.ensures

pub returns-in-WouldBlock : goal.returns-in-WouldBlock
returns-in-WouldBlock g c = rw (← c.self.view_is) (accepts_none c.args.now c.self.inside.connections)

pub returns-in-Again : goal.returns-in-Again
returns-in-Again g c = rw (← c.self.view_is) (accepts_none c.args.now c.self.inside.connections)

pub returns-in-Failed : goal.returns-in-Failed
returns-in-Failed g c = rw (← c.self.view_is) (accepts_none c.args.now c.self.inside.connections)
