use Rattle.rtr_world.proofs.Runs.{conns_run}
use Rattle.rtr_world.proofs.laws.conns_run.Goals as goal

pub returns : goal.returns
returns c = conns_run
