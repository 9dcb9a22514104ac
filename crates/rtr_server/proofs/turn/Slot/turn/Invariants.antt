-- So far it continued by allowed steps, with a call of the stream for each round.
use Rattle.std.proofs.Common.{◌≡◌}
use Rattle.rtr_server.specs.Turns.{Anyhow, GoesFrom}
use Rattle.rtr_server.proofs.AnswerLogs.{SoFar}
use Rattle.rtr_server.proofs.turn.Slot.turn.Given as goal

abbrev pub invariant-loop-call : goal.invariant-loop-call
invariant-loop-call g l = record {
  conn : l.self.conn ≡ l.initial.self.conn;
  goes : GoesFrom g.S.VersionStore.holds g.T.Stream.remaining g.T.Stream.contents Anyhow l.initial.self l.initial.cache l.self l.cache Anyhow;
  answers : SoFar l._call (g.T.Stream.answers l.initial.self.stream) (g.T.Stream.answers l.self.stream);
}
