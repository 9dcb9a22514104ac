use Rattle.std.proofs.Common.{arith, subst, sym, ◌∙◌}
use Rattle.std.proofs.lemmas.List.{with_items_is}
use Rattle.std.specs.Prelude.{option_copied}
use Rattle.status_server.specs.Answers.{Answering, AnswersSo}
use Rattle.status_server.specs.Connections.{Each, IsServed}
use Rattle.status_server.proofs.ConnectionLaws.{each_at}
use Rattle.status_server.proofs.http_connections.HttpConnections.serve_busy.Goals as goal

pub returns : goal.returns
returns g c =
    let all = with_items_is c.self.inside.entries c.serve_in.new.entries (omega (arith, c.serve_in.auto.entries, c.deref_mut.ensures.len)) in
    let shows = g.S.StatusSource.shows in
    let served =
    subst (λ (a : Answering g.row.S.Denot). Each (IsServed g.T.Read.remaining g.T.Write.contents (AnswersSo (shows a.source) a.name) c.args.now c.args.budget) c.deref_mut.result.now c.serve_in.new.entries)
    c.new-answers.ensures c.serve_in.ensures
    in
    each_at (IsServed g.T.Read.remaining g.T.Write.contents (AnswersSo (shows c.args.source.now) (option_copied c.args.name)) c.args.now c.args.budget) (c.deref_mut.ensures.value ∙ c.self.view_is) (sym all) served
