use Rattle.rtr_pdu.proofs.StreamLaws as laws
use Rattle.rtr_pdu.proofs.laws.one_split.Goals as goal

pub returns : goal.returns
returns c = laws.one_split
