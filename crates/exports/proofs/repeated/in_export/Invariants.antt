use Rattle.std.proofs.Common.{length}
use Rattle.exports.proofs.repeated.in_export.Given as goal

abbrev pub decreases-loop-name : goal.decreases-loop-name
decreases-loop-name l = length l.reader
