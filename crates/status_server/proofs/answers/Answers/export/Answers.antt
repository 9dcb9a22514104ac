use Rattle.std.proofs.Common.{ap, subst, ◌∙◌}
use Rattle.status_server.proofs.Sending.{on_ok}
use Rattle.status_server.proofs.Sources.{list_shown, status_shown}
use Rattle.status_server.specs.Answers.{IsShown, shown_list}
use Rattle.status_server.specs.declared.list_forms.ListForm.{ListForm}
use Rattle.status_server.proofs.answers.Answers.export.Goals as goal

pub returns-clause-sends : goal.returns-clause-sends
returns-clause-sends g c =
    let shows = g.S.StatusSource.shows in
    let source = shows c.args.self.now.source in
    let before = ap (λ a. shows a.source) c.self.view_is in
    let same = ap (λ a. shows a.source) c.self-2.view_is ∙ c.in_ok-load_status.ensures.0 ∙ c.list.ensures.keeps ∙ before in
    let shown = list_shown c.records.result c.in_ok-list.list (shows c.self.inside.source.now) source c.in_ok-list.ensures.shown before in
    on_ok c.send_export.result c.send_export.ensures (λ sends. (
      c.in-Some.status,
      status_shown c.self-2.inside.status c.in-Some.status (shows c.self-2.inside.source.now) source c.self-2.invariant c.in-Some.is same,
      (c.in_ok-list.list, subst (λ (f : ListForm). IsShown (shown_list f source) c.in_ok-list.list) c.records.ensures shown, sends),
    ))
