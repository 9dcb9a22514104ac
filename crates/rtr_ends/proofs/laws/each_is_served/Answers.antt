use Rattle.rtr_ends.proofs.LifeLaws.{each_is_served}
use Rattle.rtr_ends.proofs.laws.each_is_served.Goals as goal

pub returns : goal.returns
returns c = each_is_served
