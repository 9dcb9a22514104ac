use Rattle.upstreams.proofs.TimeLaws as laws
use Rattle.upstreams.proofs.laws.expires_exactly.Goals as goal

pub returns : goal.returns
returns c = laws.expires_exactly
