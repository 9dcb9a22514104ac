use Rattle.std.proofs.Common.{◌≡◌, map, take}
use Rattle.slurm.specs.Scoped.{scoped_of}
use Rattle.slurm.specs.Uniting.{filters_in}
use Rattle.slurm.proofs.uniting.filters_in.Given as goal

-- the filters of the files so far
abbrev pub invariant-loop-file : goal.invariant-loop-file
invariant-loop-file l = l.filters.items ≡ filters_in (map scoped_of (take l.file-index l.files))
