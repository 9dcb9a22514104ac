use Rattle.std.proofs.Common.{length}
use Rattle.ccr.specs.Families.{of_roa}
use Rattle.ccr.proofs.Sets.{Seen, entries}
use Rattle.ccr.proofs.attestation.each_entry.Given as goal

-- the entries in front of the cursor were read, and their VRPs came
abbrev pub invariant-loop-members : goal.invariant-loop-members
invariant-loop-members l = Seen (entries (of_roa l.fn.family) l.fn.asn.0) l.fn.members l.fn.vrps.items l.vrps.items l.before l.members

-- less remains
abbrev pub decreases-loop-members : goal.decreases-loop-members
decreases-loop-members l = length l.members.rest
