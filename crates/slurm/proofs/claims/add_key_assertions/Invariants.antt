use Rattle.std.proofs.Common.{◌≡◌, ◌++◌, map, take}
use Rattle.slurm.specs.Claims.{asn_claim}
use Rattle.slurm.proofs.claims.add_key_assertions.Given as goal

-- the claims of the ASes so far are added
abbrev pub invariant-loop-asn : goal.invariant-loop-asn
invariant-loop-asn l = l.claims.items ≡ l.fn.claims.items ++ map (asn_claim l.file) (take l.asn-index l.asns)
