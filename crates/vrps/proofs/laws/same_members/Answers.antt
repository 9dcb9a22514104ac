use Rattle.vrps.proofs.SetLaws.{same_set}
use Rattle.vrps.proofs.laws.same_members.Goals as goal

pub returns : goal.returns
returns c = same_set
