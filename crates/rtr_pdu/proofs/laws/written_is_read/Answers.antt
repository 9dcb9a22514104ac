use Rattle.rtr_pdu.proofs.StreamLaws as laws
use Rattle.rtr_pdu.proofs.laws.written_is_read.Goals as goal

pub returns : goal.returns
returns c = laws.written_is_read
