use Rattle.sources.proofs.Until as until
use Rattle.sources.proofs.laws.ccrs_end.Goals as goal

pub returns : goal.returns
returns c = until.ccrs_end
