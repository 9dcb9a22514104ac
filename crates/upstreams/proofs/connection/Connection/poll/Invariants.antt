-- So far it continued by allowed steps, with a call of the stream for each round.
use Rattle.rtr_server.proofs.AnswerLogs.{SoFar}
use Rattle.upstreams.specs.Polls.{Anyhow, GoesFrom}
use Rattle.upstreams.proofs.connection.Connection.poll.Given as goal

abbrev pub invariant-loop-call : goal.invariant-loop-call
invariant-loop-call g l = record {
  goes : GoesFrom g.T.Stream.remaining g.T.Stream.contents l.fn.now Anyhow l.initial.router l.initial.self l.router l.self Anyhow;
  answers : SoFar l._call (g.T.Stream.answers l.initial.self.stream) (g.T.Stream.answers l.self.stream);
}
