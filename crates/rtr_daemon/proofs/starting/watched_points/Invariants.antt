-- So far the paths are watched, in their order.
use Rattle.std.proofs.Common.{◌≡◌, ◌++◌}
use Rattle.std.specs.Prelude.{map}
use Rattle.rtr_daemon.proofs.starting.watched_points.Given as goal

abbrev pub invariant-loop-path : goal.invariant-loop-path
invariant-loop-path l = map (λ p. p.path) l.offered.items ++ l.path-iterator.rest.items ≡ l.fn.paths.items
