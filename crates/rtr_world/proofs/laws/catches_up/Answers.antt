use Rattle.rtr_world.proofs.CatchUpRounds.{catches_up}
use Rattle.rtr_world.proofs.laws.catches_up.Goals as goal

pub returns : goal.returns
returns c = catches_up
