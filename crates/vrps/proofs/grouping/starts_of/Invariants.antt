use Rattle.vrps.proofs.Starts.{AreGroupsTo, Counts}
use Rattle.vrps.proofs.grouping.starts_of.Given as goal

-- the groups of the records so far
abbrev pub invariant-loop-index : goal.invariant-loop-index
invariant-loop-index l = record {
  groups : AreGroupsTo l.records l.starts.items l.index;
  counts : Counts l.records l.starts.items l.index;
}
