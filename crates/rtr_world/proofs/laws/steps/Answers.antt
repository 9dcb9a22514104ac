use Rattle.rtr_world.proofs.Rests.{settles, others_stay}
use Rattle.rtr_world.proofs.WorldSteps.{each_leads, one_world, refuses_rightly}
use Rattle.rtr_world.proofs.Rounds.{after_refused}
use Rattle.rtr_world.proofs.MovesNoMore.{moves_no_more}
use Rattle.rtr_world.proofs.laws.steps.Goals as goal

pub returns : goal.returns
returns c = record { one = one_world; each = each_leads; settles = settles; refuses = refuses_rightly; cuts = after_refused; others = others_stay; moves = moves_no_more }
