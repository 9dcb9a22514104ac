use Rattle.std.proofs.Common.{length}
use Rattle.signed_objects.proofs.Loops.{SeenAttributes}
use Rattle.signed_objects.proofs.attributes.each_attribute.Given as goal

-- the attributes in front of the cursor were read
abbrev pub invariant-loop-members : goal.invariant-loop-members
invariant-loop-members l = SeenAttributes l.fn.members l.found l.members

-- less remains
abbrev pub decreases-loop-members : goal.decreases-loop-members
decreases-loop-members l = length l.members.rest
