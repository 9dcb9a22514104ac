use Rattle.std.proofs.Common.{refl, sym}
use Rattle.status_server.specs.Connections.{IsWoken}
use Rattle.status_server.proofs.ConnectionLaws.{each_at, each_same, each_woken, woken_same}
use Rattle.status_server.proofs.http_endpoint.HttpEndpoint.note.Goals as goal

pub returns-in-Listener : goal.returns-in-Listener
returns-in-Listener g c = rw (← c.self.view_is) (each_same IsWoken woken_same c.self.inside.connections)

pub returns-in-Connection : goal.returns-in-Connection
returns-in-Connection g c = rw (← c.self.view_is) (each_at IsWoken refl (sym c.wake.ensures) (each_woken c.in-Connection.token c.self.inside.connections))
