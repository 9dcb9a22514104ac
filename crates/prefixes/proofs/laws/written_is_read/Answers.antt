use Rattle.prefixes.proofs.Spelling.{written_is_read}
use Rattle.prefixes.proofs.laws.written_is_read.Goals as goal

pub returns : goal.returns
returns c = written_is_read
