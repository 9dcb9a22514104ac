use Rattle.trust_anchors.proofs.AnchorProfiles.{profile_law}
use Rattle.trust_anchors.proofs.laws.profile_of_anchors.Goals as goal

pub returns : goal.returns
returns c = profile_law
