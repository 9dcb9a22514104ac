use Rattle.std.proofs.Common.{ℕ, ◌<◌, slice_index_or}
use Rattle.prefixes.specs.Address.{IsPrefix}
use Rattle.prefixes.specs.Payload.{block_of, width_of}
use Rattle.prefixes.specs.declared.prefix.IpPrefix.{IpPrefix}
use Rattle.slurm.proofs.index.know_prefixes.Given as goal

-- the filters so far have prefixes
abbrev pub invariant-loop-prefix : goal.invariant-loop-prefix
invariant-loop-prefix l = (k : ℕ) (d : IpPrefix) → k < l.prefix-index → IsPrefix (width_of (slice_index_or l.prefixes k d)) (block_of (slice_index_or l.prefixes k d))
