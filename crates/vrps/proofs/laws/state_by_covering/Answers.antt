use Rattle.vrps.proofs.StateLaws.{covering_decides}
use Rattle.vrps.proofs.laws.state_by_covering.Goals as goal

pub returns : goal.returns
returns c = covering_decides
