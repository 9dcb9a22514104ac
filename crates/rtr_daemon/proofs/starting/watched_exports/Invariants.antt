-- So far the number of each export is its place, and the paths are watched, in their order.
use Rattle.std.proofs.Common.{◌≡◌, ◌++◌}
use Rattle.std.specs.Prelude.{map}
use Rattle.rtr_daemon.specs.Files.{AreNumbered}
use Rattle.rtr_daemon.proofs.starting.watched_exports.Given as goal

abbrev pub invariant-loop-path : goal.invariant-loop-path
invariant-loop-path l = record {
  numbered : AreNumbered l.exports.items;
  paths : map (λ e. e.file.path) l.exports.items ++ l.path-iterator.rest.items ≡ l.fn.paths.items;
}
