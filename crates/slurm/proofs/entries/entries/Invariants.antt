use Rattle.std.proofs.Common.{map, take}
use Rattle.serde_json.specs.View.{view}
use Rattle.slurm.specs.Entries.{AreRead}
use Rattle.slurm.proofs.entries.entries.Given as goal

-- the entries so far are read
abbrev pub invariant-loop-index : goal.invariant-loop-index
invariant-loop-index g l = AreRead g.E.Entry.reads (map view (take l.index l.list)) l.values.items
