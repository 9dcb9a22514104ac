use Rattle.std.proofs.Common.{take}
use Rattle.std.specs.Prelude.{Contains}
use Rattle.slurm.proofs.Sweeping.{PrefixesSwept}
use Rattle.slurm.proofs.claims.prefix_clash.Given as goal

-- The claims so far are swept, and the last one that no other covers is one of all.
abbrev pub invariant-loop-claim : goal.invariant-loop-claim
invariant-loop-claim l = PrefixesSwept (take l.claim-index l.claims) l.root × Contains l.claims l.root
