use Rattle.rtr_ends.proofs.TakenLaws as laws
use Rattle.rtr_ends.proofs.laws.connection_takes.Goals as goal

pub returns : goal.returns
returns c = record { taken = laws.conn_takes_so; stops = laws.conn_stops_so }
