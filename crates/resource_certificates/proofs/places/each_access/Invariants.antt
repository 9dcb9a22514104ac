use Rattle.std.proofs.Common.{length}
use Rattle.resource_certificates.proofs.SeenPlaces.{SeenAccesses}
use Rattle.resource_certificates.proofs.places.each_access.Given as goal

-- the descriptions in front of the cursor were read
abbrev pub invariant-loop-members : goal.invariant-loop-members
invariant-loop-members l = SeenAccesses l.fn.members l.found l.members

-- less remains
abbrev pub decreases-loop-members : goal.decreases-loop-members
decreases-loop-members l = length l.members.rest
