use Rattle.std.proofs.Common.{length}
use Rattle.exports.proofs.walk.find_member.Given as goal

abbrev pub decreases-loop-found : goal.decreases-loop-found
decreases-loop-found l = length l.reader
