use Rattle.constraints.proofs.Once.{one_reading}
use Rattle.constraints.proofs.laws.one_reading.Goals as goal

pub returns : goal.returns
returns c = one_reading
