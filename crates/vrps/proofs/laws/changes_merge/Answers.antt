use Rattle.vrps.proofs.SetLaws.{merge-between}
use Rattle.vrps.proofs.laws.changes_merge.Goals as goal

pub returns : goal.returns
returns c = merge-between
