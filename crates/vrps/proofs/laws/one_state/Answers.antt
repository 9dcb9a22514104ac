use Rattle.vrps.proofs.StateLaws.{one_state}
use Rattle.vrps.proofs.laws.one_state.Goals as goal

pub returns : goal.returns
returns c = one_state
