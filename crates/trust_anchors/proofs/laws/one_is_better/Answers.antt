use Rattle.trust_anchors.proofs.Better.{better_law}
use Rattle.trust_anchors.proofs.laws.one_is_better.Goals as goal

pub returns : goal.returns
returns c = better_law
