use Rattle.rtr_world.proofs.Runs.{routers_run}
use Rattle.rtr_world.proofs.ToldVersions.{each_speaks}
use Rattle.rtr_world.proofs.laws.routers_run.Goals as goal

pub returns : goal.returns
returns c = record { run = routers_run; speak = each_speaks }
