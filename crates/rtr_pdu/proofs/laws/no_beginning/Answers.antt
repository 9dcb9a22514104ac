use Rattle.rtr_pdu.proofs.StreamLaws as laws
use Rattle.rtr_pdu.proofs.laws.no_beginning.Goals as goal

pub returns : goal.returns
returns c = laws.no_beginning
