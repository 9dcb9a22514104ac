use Rattle.prefix_texts.proofs.Sayings.{one_saying}
use Rattle.prefix_texts.proofs.laws.one_saying.Goals as goal

pub returns : goal.returns
returns c = one_saying
