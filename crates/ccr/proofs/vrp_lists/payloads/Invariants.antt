use Rattle.std.proofs.Common.{[], length}
use Rattle.std.specs.Prelude.{option_map}
use Rattle.ccr.proofs.Sets.{Seen, sets}
use Rattle.ccr.proofs.vrp_lists.payloads.Given as goal

-- the sets in front of the cursor were read, and their VRPs came
abbrev pub invariant-loop-members : goal.invariant-loop-members
invariant-loop-members l = Seen sets l.fn.members [] l.vrps.items (option_map (λ a. a.0) l.before) l.members

-- less remains
abbrev pub decreases-loop-members : goal.decreases-loop-members
decreases-loop-members l = length l.members.rest
