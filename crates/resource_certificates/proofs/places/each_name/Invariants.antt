use Rattle.std.proofs.Common.{length, option_map}
use Rattle.resource_certificates.proofs.SeenPlaces.{SeenNames}
use Rattle.resource_certificates.proofs.places.each_name.Given as goal

-- the names in front of the cursor were read
abbrev pub invariant-loop-members : goal.invariant-loop-members
invariant-loop-members l = SeenNames l.fn.members (option_map (λ u. u.now) l.first) l.members

-- less remains
abbrev pub decreases-loop-members : goal.decreases-loop-members
decreases-loop-members l = length l.members.rest
