use Rattle.std.proofs.Common.{ap, arith, ◌∙◌}
use Rattle.std.proofs.lemmas.List.{with_items_is}
use Rattle.status_server.specs.Connections.{wake}
use Rattle.status_server.proofs.http_connections.HttpConnections.wake.Goals as goal

pub returns : goal.returns
returns g c =
    let all = with_items_is c.self.inside.entries c.wake_in.new.entries (omega (arith, c.wake_in.auto.entries, c.deref_mut.ensures.len)) in
    all ∙ c.wake_in.ensures ∙ ap (wake c.args.token) c.deref_mut.ensures.value ∙ ap (wake c.args.token) c.self.view_is
