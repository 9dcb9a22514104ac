-- The exports before this one are changed, and all others are as they were.
use Rattle.std.proofs.Common.{◌≡◌, ◌++◌, drop, map, take}
use Rattle.rtr_daemon.specs.Ages.{aged}
use Rattle.rtr_daemon.proofs.ages.judge_each_age.Given as goal

abbrev pub invariant-loop-export : goal.invariant-loop-export
invariant-loop-export g l = l.export-items ≡ map (aged l.initial.most l.initial.now l.initial.sources) (take l.export-index l.initial.export-items) ++ drop l.export-index l.initial.export-items
