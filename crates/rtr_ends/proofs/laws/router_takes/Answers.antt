use Rattle.rtr_ends.proofs.TakenLaws as laws
use Rattle.rtr_ends.proofs.laws.router_takes.Goals as goal

pub returns : goal.returns
returns c = record { taken = laws.router_takes_so; stops = laws.router_stops_so }
