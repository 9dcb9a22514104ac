use Rattle.resources.proofs.LawProofs.{ip_law}
use Rattle.resources.proofs.laws.one_ip_value.Goals as goal

pub returns : goal.returns
returns c = ip_law
