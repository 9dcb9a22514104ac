use Rattle.vrps.proofs.StateLaws.{covering_members}
use Rattle.vrps.proofs.laws.covering_members.Goals as goal

pub returns : goal.returns
returns c = covering_members
