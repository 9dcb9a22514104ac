use Rattle.std.proofs.Common.{◌≡◌, drop}
use Rattle.resources.proofs.Meetings.{meet}
use Rattle.resources.proofs.set.ResourceSet.overlaps.Given as goal

-- what is left of both decides
abbrev pub invariant-loop-range : goal.invariant-loop-range
invariant-loop-range l = meet l.initial.rest l.range-items ≡ meet l.rest (drop l.range-index l.range-items)
