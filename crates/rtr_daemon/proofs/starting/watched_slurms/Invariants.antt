-- So far the paths are watched, in their order, and nothing is refused.
use Rattle.std.proofs.Common.{◌≡◌, ◌++◌}
use Rattle.std.specs.Prelude.{All, None, map}
use Rattle.rtr_daemon.proofs.starting.watched_slurms.Given as goal

abbrev pub invariant-loop-path : goal.invariant-loop-path
invariant-loop-path l = record {
  paths : map (λ f. f.path) l.slurms.items ++ l.path-iterator.rest.items ≡ l.fn.paths.items;
  refusals : All (λ f. f.refusals.last ≡ None) l.slurms.items;
}
