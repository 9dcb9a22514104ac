use Rattle.rtr_world.proofs.WorldSteps.{act_once, headline, route_states}
use Rattle.rtr_world.proofs.laws.headline.Goals as goal

pub returns : goal.returns
returns c = record { table = headline; once = act_once; routes = route_states }
