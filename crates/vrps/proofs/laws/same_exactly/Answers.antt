use Rattle.vrps.proofs.SetVersions.{same_exactly}
use Rattle.vrps.proofs.laws.same_exactly.Goals as goal

pub returns : goal.returns
returns c = same_exactly
