use Rattle.std.proofs.Common.{List, Option, arith, get_or, ℕ, subst}
use Rattle.status_server.specs.Answers.{AnswersSo, Shown}
use Rattle.status_server.specs.Connections.{IsServed}
use Rattle.status_server.proofs.AnsweringLaws.{on_on, on_refl}
use Rattle.status_server.proofs.ConnectionLaws.{each_all, each_more, each_none}
use Rattle.status_server.proofs.http_connections.serve_in.Goals as goal

pub loop-entry-init : goal.loop-entry-init
loop-entry-init g c = (
  each_none (IsServed g.T.Read.remaining g.T.Write.contents (AnswersSo (g.S.StatusSource.shows c.args.answers.now.source) c.args.answers.now.name) c.args.now c.args.budget) c.args.entries.now,
  on_refl g.S.StatusSource.shows c.args.answers.now,
)

pub loop-entry-preserved : goal.loop-entry-preserved
loop-entry-preserved g c =
    let shows = g.S.StatusSource.shows in
    let on = c.loop-entry.invariant.1 in
    let item = get_or c.loop-entry.entries c.loop-entry.entry-index c.entry-item.result in
    let served =
    subst (λ (k : Shown). IsServed g.T.Read.remaining g.T.Write.contents (AnswersSo k c.args.answers.now.name) c.args.now c.args.budget item c.serve.new.self) on.0
    (subst (λ (n : Option (List ℕ)). IsServed g.T.Read.remaining g.T.Write.contents (AnswersSo (shows c.loop-entry.answers.source) n) c.args.now c.args.budget item c.serve.new.self) on.1
    c.serve.ensures.served)
    in (
      each_more (IsServed g.T.Read.remaining g.T.Write.contents (AnswersSo (shows c.args.answers.now.source) c.args.answers.now.name) c.args.now c.args.budget) c.loop-entry.entry-index c.args.entries.now c.loop-entry.entries c.serve.new.self c.entry-item.result
          c.loop-entry.invariant.0 served,
      on_on shows c.args.answers.now c.loop-entry.answers c.serve.new.answers on c.serve.ensures.keeps,
    )

pub returns : goal.returns
returns g c =
    each_all (IsServed g.T.Read.remaining g.T.Write.contents (AnswersSo (g.S.StatusSource.shows c.args.answers.now.source) c.args.answers.now.name) c.args.now c.args.budget) c.loop-entry.entry-index c.args.entries.now c.loop-entry.entries
    (omega (arith, c.loop-entry-test.false, c.loop-entry.auto.entries)) c.loop-entry.invariant.0
