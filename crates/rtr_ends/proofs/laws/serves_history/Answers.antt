use Rattle.rtr_ends.proofs.ServingLaws.{serves_history}
use Rattle.rtr_ends.proofs.laws.serves_history.Goals as goal

pub returns : goal.returns
returns c = serves_history
