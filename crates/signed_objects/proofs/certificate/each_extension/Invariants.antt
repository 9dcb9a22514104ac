use Rattle.std.proofs.Common.{length, option_map}
use Rattle.signed_objects.proofs.Loops.{SeenExtensions}
use Rattle.signed_objects.proofs.certificate.each_extension.Given as goal

-- the extensions in front of the cursor were read
abbrev pub invariant-loop-members : goal.invariant-loop-members
invariant-loop-members l = SeenExtensions l.fn.members (option_map (λ value. value.now) l.identifier) l.members

-- less remains
abbrev pub decreases-loop-members : goal.decreases-loop-members
decreases-loop-members l = length l.members.rest
