use Rattle.std.proofs.Common.{ap, ◌∙◌}
use Rattle.status_server.proofs.Sending.{on_ok}
use Rattle.status_server.proofs.Sources.{status_shown}
use Rattle.status_server.proofs.answers.Answers.api_status.Goals as goal

pub returns-clause-sends : goal.returns-clause-sends
returns-clause-sends g c =
    let shows = g.S.StatusSource.shows in
    let same = ap (λ a. shows a.source) c.self.view_is ∙ c.in_ok-load_status.ensures.0 in
    on_ok c.send_api_status.result c.send_api_status.ensures (λ sends. (
      c.in-Some.status,
      status_shown c.self.inside.status c.in-Some.status (shows c.self.inside.source.now) (shows c.args.self.now.source) c.self.invariant c.in-Some.is same,
      sends,
    ))
