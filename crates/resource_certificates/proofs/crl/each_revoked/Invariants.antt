use Rattle.std.proofs.Common.{length}
use Rattle.resource_certificates.proofs.Revoking.{Revoked}
use Rattle.resource_certificates.proofs.crl.each_revoked.Given as goal

-- the entries in front of the cursor were read
abbrev pub invariant-loop-members : goal.invariant-loop-members
invariant-loop-members l = Revoked l.fn.members l.serials l.members

-- less remains
abbrev pub decreases-loop-members : goal.decreases-loop-members
decreases-loop-members l = length l.members.rest
