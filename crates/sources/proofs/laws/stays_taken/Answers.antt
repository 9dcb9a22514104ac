use Rattle.sources.proofs.Stays as stays
use Rattle.sources.proofs.laws.stays_taken.Goals as goal

pub returns : goal.returns
returns c = stays.stays_taken c.later_exports.ensures
