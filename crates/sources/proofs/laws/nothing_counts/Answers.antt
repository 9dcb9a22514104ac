use Rattle.sources.proofs.Until as until
use Rattle.sources.proofs.laws.nothing_counts.Goals as goal

pub returns : goal.returns
returns c = until.nothing_counts
