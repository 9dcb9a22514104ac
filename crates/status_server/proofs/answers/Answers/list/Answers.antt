use Rattle.std.proofs.Common.{List, ℕ, ap, subst, ◌∙◌}
use Rattle.status_server.proofs.Sending.{on_ok}
use Rattle.status_server.proofs.Sources.{list_shown, status_shown}
use Rattle.status_server.specs.Answers.{SendsList}
use Rattle.status_server.proofs.answers.Answers.list.Goals as goal

pub returns-clause-sends : goal.returns-clause-sends
returns-clause-sends g c =
    let shows = g.S.StatusSource.shows in
    let before = ap (λ a. shows a.source) c.self.view_is in
    let same = ap (λ a. shows a.source) c.self-2.view_is ∙ c.in_ok-load_status.ensures.0 ∙ c.list.ensures.keeps ∙ before in
    on_ok c.send_list.result c.send_list.ensures (λ sends. (
      c.in-Some.status,
      status_shown c.self-2.inside.status c.in-Some.status (shows c.self-2.inside.source.now) (shows c.args.self.now.source) c.self-2.invariant c.in-Some.is same,
      (
        c.in_ok-list.list,
        list_shown c.args.form c.in_ok-list.list (shows c.self.inside.source.now) (shows c.args.self.now.source) c.in_ok-list.ensures.shown before,
        subst (λ (kind : List ℕ). SendsList c.args.headers.now kind c.in-Some.status c.in_ok-list.list c.args.response.now c.send_list.new.response) c.media_type-kind.ensures.kind sends,
      ),
    ))
