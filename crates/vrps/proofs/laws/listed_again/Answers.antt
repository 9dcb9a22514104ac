use Rattle.vrps.proofs.SetLaws.{set_of-listing}
use Rattle.vrps.proofs.laws.listed_again.Goals as goal

pub returns : goal.returns
returns c = set_of-listing
