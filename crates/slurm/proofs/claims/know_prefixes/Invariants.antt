use Rattle.std.proofs.Common.{ℕ, ◌<◌, slice_index_or}
use Rattle.slurm.specs.Claims.{HasPrefix}
use Rattle.slurm.specs.declared.claims.PrefixClaim.{PrefixClaim}
use Rattle.slurm.proofs.claims.know_prefixes.Given as goal

-- the claims so far have prefixes
abbrev pub invariant-loop-claim : goal.invariant-loop-claim
invariant-loop-claim l = (k : ℕ) (d : PrefixClaim) → k < l.claim-index → HasPrefix (slice_index_or l.claims k d)
