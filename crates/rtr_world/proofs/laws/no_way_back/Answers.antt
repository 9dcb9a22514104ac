use Rattle.rtr_world.proofs.PlacesNoted.{places_noted}
use Rattle.rtr_world.proofs.WorldSteps.{no_way_back}
use Rattle.rtr_world.proofs.laws.no_way_back.Goals as goal

pub returns : goal.returns
returns c = record { order = no_way_back; noted = places_noted }
