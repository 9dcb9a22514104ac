use Rattle.der_lite.proofs.TimeLaws.{not_before_itself, before_chain, one_before}
use Rattle.der_lite.proofs.laws.one_is_before.Goals as goal

pub returns : goal.returns
returns c = (not_before_itself, before_chain, one_before)
