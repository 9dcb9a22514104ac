-- So far it continued by allowed steps.
use Rattle.std.proofs.Common.{◌≡◌, length}
use Rattle.upstreams.specs.Polls.{Anyhow, GoesFrom}
use Rattle.upstreams.proofs.connection.Connection.prepare.Given as goal

abbrev pub invariant-loop-now : goal.invariant-loop-now
invariant-loop-now g l = record {
  goes : GoesFrom g.T.Stream.remaining g.T.Stream.contents l.fn.now Anyhow l.initial.router l.initial.self l.router l.self Anyhow;
  answers : g.T.Stream.answers l.self.stream ≡ g.T.Stream.answers l.initial.self.stream;
}

abbrev pub decreases-loop-now : goal.decreases-loop-now
decreases-loop-now g l = length l.self.unread
