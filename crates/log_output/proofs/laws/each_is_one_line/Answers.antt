use Rattle.log_output.proofs.OneLine.{one_line}
use Rattle.log_output.proofs.laws.each_is_one_line.Goals as goal

pub returns : goal.returns
returns c = one_line
