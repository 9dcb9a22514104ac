use Rattle.trust_anchors.proofs.KeyInfos.{key_info_law}
use Rattle.trust_anchors.proofs.laws.one_key_info.Goals as goal

pub returns : goal.returns
returns c = key_info_law
