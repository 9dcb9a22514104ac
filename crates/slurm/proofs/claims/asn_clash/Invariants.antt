use Rattle.std.proofs.Common.{take}
use Rattle.std.specs.Prelude.{Contains}
use Rattle.slurm.proofs.Sweeping.{AsnsSwept}
use Rattle.slurm.proofs.claims.asn_clash.Given as goal

-- The claims so far are swept, and the first one of the last AS is one of all.
abbrev pub invariant-loop-claim : goal.invariant-loop-claim
invariant-loop-claim l = AsnsSwept (take l.claim-index l.claims) l.root × Contains l.claims l.root
