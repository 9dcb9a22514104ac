use Rattle.points.proofs.NewLaw.{new_law}
use Rattle.points.proofs.laws.new_where_acceptable.Goals as goal

pub returns : goal.returns
returns c = new_law
