use Rattle.std.proofs.Common.{List, [], ℕ, ap, subst, ◌∙◌}
use Rattle.std.specs.Prelude.{unwrap_or}
use Rattle.http_uri.specs.Uri.{uri_query}
use Rattle.status_pages.specs.Query.{Finds}
use Rattle.status_server.specs.Answers.{SendsJudged}
use Rattle.status_server.proofs.Sending.{on_ok}
use Rattle.status_server.proofs.Sources.{now_or}
use Rattle.status_server.proofs.answers.Answers.query.Goals as goal

pub returns-clause-sends : goal.returns-clause-sends
returns-clause-sends g c =
    let text = ap (λ b. b.now) c.unwrap_or-query.ensures ∙ now_or c.query.result _ ∙ ap (λ o. unwrap_or o []) (c.query.ensures.value ∙ ap uri_query c.uri.ensures) in
    on_ok c.judged.result c.judged.ensures.sends (λ judged. record {
      varied = c.add_vary.new.response;
      varies = c.in_ok-add_vary.ensures;
      is_html = c.prefers_html.result;
      found = c.read_query-route.result;
      finds = subst (λ (q : List ℕ). Finds q c.read_query-route.result) text c.read_query-route.ensures;
      judged = subst (λ (q : List ℕ). SendsJudged (g.S.StatusSource.shows c.args.self.now.source) c.prefers_html.result q c.read_query-route.result c.add_vary.new.response c.judged.new.response) text judged;
    })
