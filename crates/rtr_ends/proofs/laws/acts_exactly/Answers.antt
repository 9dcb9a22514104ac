use Rattle.rtr_ends.proofs.TableLaws.{acts_exactly}
use Rattle.rtr_ends.proofs.laws.acts_exactly.Goals as goal

pub returns : goal.returns
returns c = acts_exactly
