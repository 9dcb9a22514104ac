use Rattle.vrps.proofs.SetVersions.{published_is_instance}
use Rattle.vrps.proofs.laws.published_is_instance.Goals as goal

pub returns : goal.returns
returns c = published_is_instance
