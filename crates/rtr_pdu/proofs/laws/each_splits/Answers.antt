use Rattle.rtr_pdu.proofs.SplitLaws as laws
use Rattle.rtr_pdu.proofs.laws.each_splits.Goals as goal

pub returns : goal.returns
returns c = laws.each_splits
