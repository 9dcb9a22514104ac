use Rattle.std.proofs.Common.{◌≡◌, take}
use Rattle.prefixes.specs.Payload.{Payload}
use Rattle.slurm.specs.Arranged.{hit_by}
use Rattle.slurm.specs.Exceptions.{is_filtered}
use Rattle.slurm.proofs.index.Index.of.Given as goal

-- the filters so far
abbrev pub invariant-loop-filter : goal.invariant-loop-filter
invariant-loop-filter l = (v : Payload) → hit_by l.index v ≡ is_filtered (take l.filter-index l.filters) v
