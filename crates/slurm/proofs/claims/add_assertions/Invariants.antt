use Rattle.std.proofs.Common.{◌≡◌, ◌++◌, map, take}
use Rattle.slurm.specs.Claims.{prefix_claim}
use Rattle.slurm.proofs.claims.add_assertions.Given as goal

-- the claims of the records so far are added
abbrev pub invariant-loop-vrp : goal.invariant-loop-vrp
invariant-loop-vrp l = l.claims.items ≡ l.fn.claims.items ++ map (prefix_claim l.file) (map (λ v. v.prefix) (take l.vrp-index l.records))
