use Rattle.vrps.proofs.StateLaws.{state_is}
use Rattle.vrps.proofs.laws.state_by_members.Goals as goal

pub returns : goal.returns
returns c = state_is
