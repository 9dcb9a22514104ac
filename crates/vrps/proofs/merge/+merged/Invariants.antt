use Rattle.std.proofs.Common.{◌-◌}
use Rattle.vrps.proofs.merge.+merged.Given as goal

abbrev pub decreases-merged : goal.decreases-merged
decreases-merged l = l.to - l.from
