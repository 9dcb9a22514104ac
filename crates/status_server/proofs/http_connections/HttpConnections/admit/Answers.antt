use Rattle.std.proofs.Common.{rules, refl}
use Rattle.status_server.specs.declared.http_connection.HttpProgress.TheVariants.{Busy}
use Rattle.status_server.proofs.http_connections.HttpConnections.admit.Goals as goal

pub returns-clause-ok : goal.returns-clause-ok
returns-clause-ok g c = record {
  added = record { token = c.args.token; came = c.args.now; last_sent = c.args.now; progress = Busy; connection = c.new.result };
  is_new = record { token_is = refl; came = refl; last_sent = refl; progress = refl; connection = c.new.ensures };
  list = search rules;
}
