use Rattle.sources.proofs.Stays as stays
use Rattle.sources.proofs.laws.counts_expired.Goals as goal

pub returns : goal.returns
returns c = stays.counts_expired
