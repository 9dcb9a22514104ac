use Rattle.std.proofs.Common.{◌≡◌, map, take}
use Rattle.slurm.specs.Claims.{prefix_claims}
use Rattle.slurm.specs.Scoped.{scoped_of}
use Rattle.slurm.proofs.claims.gathered_prefixes.Given as goal

-- the claims of the files so far
abbrev pub invariant-loop-file : goal.invariant-loop-file
invariant-loop-file l = l.claims.items ≡ prefix_claims (map scoped_of (take l.file l.files))
