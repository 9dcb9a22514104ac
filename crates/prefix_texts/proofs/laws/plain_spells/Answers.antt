use Rattle.prefix_texts.proofs.Sayings.{plain_spells}
use Rattle.prefix_texts.proofs.laws.plain_spells.Goals as goal

pub returns : goal.returns
returns c = plain_spells
