use Rattle.std.proofs.Common.{◌≡◌, ◌++◌, map, take}
use Rattle.std.specs.List.{filter_map}
use Rattle.slurm.specs.Claims.{prefix_claim}
use Rattle.slurm.proofs.claims.add_filters.Given as goal

-- the claims of the filters so far are added
abbrev pub invariant-loop-filter : goal.invariant-loop-filter
invariant-loop-filter l = l.claims.items ≡ l.fn.claims.items ++ map (prefix_claim l.file) (filter_map (λ f. f.prefix) (take l.filter-index l.filters))
