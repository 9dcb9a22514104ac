use Rattle.status_server.proofs.ConnectionLaws.{let_in, turned_away}
use Rattle.status_server.proofs.http_endpoint.HttpEndpoint.admit.Goals as goal

pub returns-then-is_full : goal.returns-then-is_full
returns-then-is_full g c = rw (← c.self.view_is) (turned_away c.args.now c.make_room.result c.self.inside.connections c.make_room.new.self c.make_room.ensures)

pub returns : goal.returns
returns g c =
    rw (← c.self.view_is)
    (let_in c.args.now c.args.token c.args.stream c.make_room.result c.self.inside.connections c.make_room.new.self c.admit.new.self c.admit.result c.make_room.ensures c.admit.ensures.ok c.admit.ensures.err)
