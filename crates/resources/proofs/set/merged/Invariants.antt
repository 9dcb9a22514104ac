use Rattle.std.proofs.Common.{◌≡◌, ◌++◌, drop}
use Rattle.resources.specs.Walks.{merged}
use Rattle.resources.proofs.set.merged.Given as goal

-- what is written, and what is left with the last range
abbrev pub invariant-loop-next : goal.invariant-loop-next
invariant-loop-next l = merged l.fn.range l.ranges ≡ l.all.items ++ merged l.last (drop l.next-index l.ranges)
