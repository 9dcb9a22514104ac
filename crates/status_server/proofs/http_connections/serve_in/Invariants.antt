-- The entries before the index were served, and the service answers as at first.
use Rattle.status_server.specs.Answers.{AnswersOn, AnswersSo}
use Rattle.status_server.specs.Connections.{IsServed}
use Rattle.status_server.proofs.ConnectionLaws.{EachUpto}
use Rattle.status_server.proofs.http_connections.serve_in.Given as goal

abbrev pub invariant-loop-entry : goal.invariant-loop-entry
invariant-loop-entry g l =
    EachUpto (IsServed g.T.Read.remaining g.T.Write.contents (AnswersSo (g.S.StatusSource.shows l.initial.answers.source) l.initial.answers.name) l.now l.budget)
    l.entry-index l.initial.entries l.entries
    × AnswersOn g.S.StatusSource.shows l.initial.answers l.answers
