use Rattle.prefixes.proofs.Spelling.{one_reading}
use Rattle.prefixes.proofs.laws.one_reading.Goals as goal

pub returns : goal.returns
returns c = one_reading
