-- So far as many turns as were counted were taken and seen, the service went through them, and what the sources have came from the files.
use Rattle.std.proofs.Common.{ℕ}
use Rattle.rtr_daemon.specs.Due.{Turns}
use Rattle.rtr_daemon.specs.Origins.{SourcesComeFrom}
use Rattle.rtr_daemon.specs.Running.{AreSeen, GoesThrough}
use Rattle.rtr_daemon.proofs.running.run.Given as goal

abbrev pub invariant-loop-turn : goal.invariant-loop-turn
invariant-loop-turn g l = record {
  goes : (turns : ℕ) × GoesThrough g.W.Time.can_be g.S.VersionStore.holds g.T.Stream.remaining g.T.Stream.contents turns l.initial.daemon.service l.daemon.service;
  turns : AreSeen (Turns g.W.Disk.answers g.W.Sockets.calls g.W.Time.reads g.W.Time.can_be g.W.Time.can_tick g.S.VersionStore.holds g.T.Stream.remaining g.T.Stream.contents g.T.Stream.answers) g.A.AfterTurn.sees l._turn l.initial.daemon l.initial.after l.daemon l.after;
  comes : SourcesComeFrom g.W.Disk.answers g.W.Time.can_be l.initial.daemon → SourcesComeFrom g.W.Disk.answers g.W.Time.can_be l.daemon;
}
