use Rattle.std.proofs.Common.{length}
use Rattle.payloads.proofs.RoaGrowing.{Seen}
use Rattle.payloads.proofs.roa_reading.each_entry.Given as goal

-- the entries in front of the cursor were read and came
abbrev pub invariant-loop-members : goal.invariant-loop-members
invariant-loop-members l = Seen l.fn.family l.fn.members l.fn.entries l.before l.entries l.members

-- less remains
abbrev pub decreases-loop-members : goal.decreases-loop-members
decreases-loop-members l = length l.members.rest
