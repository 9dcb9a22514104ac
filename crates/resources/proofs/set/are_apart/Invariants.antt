use Rattle.std.proofs.Common.{◌≡◌, drop, None}
use Rattle.resources.proofs.RangeLaws.{follow}
use Rattle.resources.proofs.set.are_apart.Given as goal

-- what is left decides
abbrev pub invariant-loop-range : goal.invariant-loop-range
invariant-loop-range l = follow None l.ranges ≡ follow l.end (drop l.range-index l.ranges)
