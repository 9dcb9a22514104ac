use Rattle.std.proofs.Common.{rules}
use Rattle.std.proofs.lemmas.Fn.{filter_same}
use Rattle.status_server.specs.Connections.{is_in_time}
use Rattle.status_server.proofs.http_connections.HttpConnections.expire.Goals as goal

pub returns : goal.returns
returns g c =
    rw (← c.self.view_is)
    (filter_same _ (is_in_time c.args.now) _ (λ x b f' h. search rules) _ _ c.retain.ensures.filtered)
