use Rattle.rtr_world.proofs.CatchUpSides.{idle_is_current}
use Rattle.rtr_world.proofs.laws.idle_is_current.Goals as goal

pub returns : goal.returns
returns c = idle_is_current
