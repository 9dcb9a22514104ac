use Rattle.std.proofs.Common.{not, rules}
use Rattle.std.proofs.lemmas.Fn.{filter_same}
use Rattle.status_server.specs.Progress.{is_closed}
use Rattle.status_server.proofs.http_connections.HttpConnections.remove_closed.Goals as goal

pub returns : goal.returns
returns g c =
    rw (← c.self.view_is)
    (filter_same _ (λ p. not (is_closed p.progress)) _ (λ x b f' h. search rules) _ _ c.retain.ensures.filtered)
