use Rattle.constraints.proofs.ValueLaws.{no_address}
use Rattle.constraints.proofs.value.read_address.Goals as goal

pub returns-in-None : goal.returns-in-None
returns-in-None c = no_address c.args.text.now c.in_default.ensures c.in-None.ensures
