-- The exports before this one are changed, and all others are as they were.
use Rattle.std.proofs.Common.{◌≡◌, ◌++◌, drop, map, take}
use Rattle.rtr_daemon.specs.Ages.{with_expired}
use Rattle.rtr_daemon.proofs.ages.note_all_expired.Given as goal

abbrev pub invariant-loop-export : goal.invariant-loop-export
invariant-loop-export g l = l.export-items ≡ map (with_expired l.initial.now l.initial.sources) (take l.export-index l.initial.export-items) ++ drop l.export-index l.initial.export-items
