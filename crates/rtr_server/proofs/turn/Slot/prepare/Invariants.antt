-- So far it continued by allowed steps.
use Rattle.std.proofs.Common.{◌≡◌, length}
use Rattle.rtr_server.specs.Turns.{Anyhow, GoesFrom}
use Rattle.rtr_server.proofs.turn.Slot.prepare.Given as goal

abbrev pub invariant-loop-self : goal.invariant-loop-self
invariant-loop-self g l = record {
  conn : l.self.conn ≡ l.initial.self.conn;
  goes : GoesFrom g.S.VersionStore.holds g.T.Stream.remaining g.T.Stream.contents Anyhow l.initial.self l.initial.cache l.self l.cache Anyhow;
  answers : g.T.Stream.answers l.self.stream ≡ g.T.Stream.answers l.initial.self.stream;
}

abbrev pub decreases-loop-self : goal.decreases-loop-self
decreases-loop-self g l = length l.self.unread
