use Rattle.ccr.proofs.Limit as limit
use Rattle.ccr.proofs.laws.sets_are_roas.Goals as goal

pub returns : goal.returns
returns c = limit.sets_are_roas
