use Rattle.std.proofs.Common.{length}
use Rattle.exports.proofs.json_fault.json_fault_text.Given as goal

abbrev pub decreases-loop-token : goal.decreases-loop-token
decreases-loop-token l = length l.reader
