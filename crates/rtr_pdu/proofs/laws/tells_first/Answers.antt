use Rattle.rtr_pdu.proofs.FirstLaws as laws
use Rattle.rtr_pdu.proofs.laws.tells_first.Goals as goal

pub returns : goal.returns
returns c = laws.tells_first
