use Rattle.std.proofs.Common.{ap, sym, ◌∙◌}
use Rattle.status_server.specs.Resources.{route_path}
use Rattle.status_server.proofs.Sending.{on_ok}
use Rattle.status_server.proofs.Sources.{end_of}
use Rattle.status_server.proofs.answers.Answers.route.Goals as goal

pub returns-clause-sends : goal.returns-clause-sends
returns-clause-sends g c = on_ok c.judged-2.result c.judged-2.ensures.sends (λ judged. record {
  rest = c.unwrap_or-rest.result.now;
  ends = λ is. end_of c.route_in.result c.args.path.now _ c.route_in.ensures.some c.route_in.ensures.none is ∙ ap (λ b. route_path b.now) (sym c.unwrap_or-rest.ensures);
  found = c.read_path.result;
  finds = c.read_path.ensures;
  judged = judged;
})
