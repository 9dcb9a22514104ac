use Rattle.std.proofs.Common.{length}
use Rattle.exports.proofs.forms.list_text.Given as goal

abbrev pub decreases-loop-reader : goal.decreases-loop-reader
decreases-loop-reader l = length l.reader
