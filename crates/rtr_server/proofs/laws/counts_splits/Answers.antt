use Rattle.rtr_server.proofs.UnitCounts as counts
use Rattle.rtr_server.proofs.laws.counts_splits.Goals as goal

pub returns : goal.returns
returns c = counts.counts_splits
