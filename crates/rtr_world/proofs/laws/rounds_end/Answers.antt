use Rattle.rtr_world.proofs.CatchUpRounds.{rounds_end}
use Rattle.rtr_world.proofs.CatchUpSteps.{rounds_are_steps}
use Rattle.rtr_world.proofs.laws.rounds_end.Goals as goal

pub returns : goal.returns
returns c = record { ends = rounds_end; steps = rounds_are_steps }
