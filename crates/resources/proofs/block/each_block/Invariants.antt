use Rattle.std.proofs.Common.{◌≤◌, length}
use Rattle.std.specs.List.{All}
use Rattle.resources.proofs.Listing.{Listed}
use Rattle.resources.proofs.block.each_block.Given as goal

-- the blocks in front of the cursor were read, and none is empty
pub record IsListed (l : goal.Live-loop-members) : Type 0 where
  pub listed : Listed l.fn.kind l.fn.members l.ranges.items l.members
  pub full : All (λ r. r.low ≤ r.high) l.ranges.items

abbrev pub invariant-loop-members : goal.invariant-loop-members
invariant-loop-members l = IsListed l

-- less remains
abbrev pub decreases-loop-members : goal.decreases-loop-members
decreases-loop-members l = length l.members.rest
