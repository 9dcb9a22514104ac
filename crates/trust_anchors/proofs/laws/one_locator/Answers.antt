use Rattle.trust_anchors.proofs.Locating.{locator_law}
use Rattle.trust_anchors.proofs.laws.one_locator.Goals as goal

pub returns : goal.returns
returns c = locator_law
