use Rattle.vrps.proofs.SetLaws.{apply-between}
use Rattle.vrps.proofs.laws.change_leads.Goals as goal

pub returns : goal.returns
returns c = apply-between
