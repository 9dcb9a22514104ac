use Rattle.vrps.specs.Heads.{AreHeads, heads_of}
use Rattle.vrps.proofs.grouping.heads_of.Given as goal

-- the prefixes of the groups so far
abbrev pub invariant-loop-start : goal.invariant-loop-start
invariant-loop-start l = AreHeads l.records l.starts l.start-index (heads_of l.heads)
