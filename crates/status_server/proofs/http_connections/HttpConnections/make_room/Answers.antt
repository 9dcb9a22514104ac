use Rattle.std.proofs.Common.{◌≤◌, arith, length}
use Rattle.status_server.proofs.WaitingLaws.{one_goes}
use Rattle.status_server.proofs.http_connections.HttpConnections.make_room.Goals as goal

pub returns : goal.returns
returns g c =
    let full : 64 ≤ length c.self.inside.entries.items = omega (arith, c.self.inside.entries.ok.0, c.len.ensures, c.if-len-lt-MAX_CONNECTIONS.false) in
    let longest = rw c.deref.ensures.value at c.in_ok-index.ensures.longest in
    let within = rw c.deref.ensures.value at c.in_ok-index.ensures.within in
    rw (← c.self.view_is)
    (one_goes c.self.inside.entries.items c.remove-connection.new.self.items c.in_ok-index.index c.remove-connection.result c.into_stream.result full longest within c.remove-connection.ensures.value c.into_stream.ensures
    c.remove-connection.ensures.by_index.2)
