use Rattle.relays.proofs.Relaying.{each_keeps_relaying}
use Rattle.relays.proofs.laws.keeps_relaying.Goals as goal

pub returns : goal.returns
returns c = each_keeps_relaying
