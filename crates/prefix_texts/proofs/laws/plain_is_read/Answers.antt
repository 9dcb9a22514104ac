use Rattle.prefix_texts.proofs.Sayings.{plain_is_read}
use Rattle.prefix_texts.proofs.laws.plain_is_read.Goals as goal

pub returns : goal.returns
returns c = plain_is_read
