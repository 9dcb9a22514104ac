use Rattle.std.proofs.Common.{◌≡◌, drop}
use Rattle.resources.proofs.RangeLaws.{walk}
use Rattle.resources.proofs.set.ResourceSet.is_within.Given as goal

-- what is left of both decides
abbrev pub invariant-loop-range : goal.invariant-loop-range
invariant-loop-range l = walk l.initial.rest l.range-items ≡ walk l.rest (drop l.range-index l.range-items)
