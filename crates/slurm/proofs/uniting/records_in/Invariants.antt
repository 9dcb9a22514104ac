use Rattle.std.proofs.Common.{◌≡◌, map, take}
use Rattle.slurm.specs.Scoped.{scoped_of}
use Rattle.slurm.specs.Uniting.{records_in}
use Rattle.slurm.proofs.uniting.records_in.Given as goal

-- the records of the files so far
abbrev pub invariant-loop-file : goal.invariant-loop-file
invariant-loop-file l = l.records.items ≡ records_in (map scoped_of (take l.file-index l.files))
