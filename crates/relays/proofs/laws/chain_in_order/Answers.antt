use Rattle.relays.proofs.InTurn.{chain_in_order}
use Rattle.relays.proofs.laws.chain_in_order.Goals as goal

pub returns : goal.returns
returns c = chain_in_order
