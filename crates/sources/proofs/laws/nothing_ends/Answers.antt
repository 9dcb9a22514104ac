use Rattle.sources.proofs.Ends as ends
use Rattle.sources.proofs.laws.nothing_ends.Goals as goal

pub returns : goal.returns
returns c = ends.nothing_ends
