use Rattle.std.proofs.Common.{◌≡◌, take}
use Rattle.vrps.specs.VrpSet.{set_of}
use Rattle.vrps.proofs.gathered.tree_of.Given as goal

abbrev pub invariant-loop-record : goal.invariant-loop-record
invariant-loop-record l = set_of l.tree.keys ≡ set_of (take l.record-index l.list)
