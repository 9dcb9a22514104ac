use Rattle.der_lite.proofs.SpelledBits.{spells_bits}
use Rattle.der_lite.proofs.laws.spells_bits.Goals as goal

pub returns : goal.returns
returns c = spells_bits
