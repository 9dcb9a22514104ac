use Rattle.std.proofs.Common.{map, take}
use Rattle.slurm.specs.Scoped.{scoped_of}
use Rattle.sources.specs.Served.{AllRead}
use Rattle.sources.proofs.slurms.read_all.Given as goal

-- the files so far are read
abbrev pub invariant-loop-index : goal.invariant-loop-index
invariant-loop-index l = AllRead (map (λ f. f.items) (take l.index l.files)) (map scoped_of l.read.items)
