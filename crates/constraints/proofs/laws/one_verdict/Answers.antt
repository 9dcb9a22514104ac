use Rattle.constraints.proofs.JudgeLaws.{one_verdict}
use Rattle.constraints.proofs.laws.one_verdict.Goals as goal

pub returns : goal.returns
returns c = one_verdict
