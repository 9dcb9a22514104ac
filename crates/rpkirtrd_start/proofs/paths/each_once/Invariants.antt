-- Each path of the front was taken once.
use Rattle.std.proofs.Common.{◌≡◌}
use Rattle.rtr_daemon.specs.Starting.{texts}
use Rattle.rpkirtrd_start.specs.Plans.{and_others, each_once}
use Rattle.rpkirtrd_start.proofs.paths.each_once.Given as goal

abbrev pub invariant-loop-path : goal.invariant-loop-path
invariant-loop-path g l = and_others (texts l.kept.items) (texts l.path-iterator.rest.items) ≡ each_once (texts l.fn.paths.items)
