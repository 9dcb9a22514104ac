use Rattle.points.proofs.OneLaw.{one_judged}
use Rattle.points.proofs.laws.one_judgement.Goals as goal

pub returns : goal.returns
returns c = one_judged
