-- What was read last are bytes that were read whole of the path of each file.
use Rattle.std.specs.Prelude.{IfOk}
use Rattle.rtr_daemon.specs.Files.{HasContents}
use Rattle.rtr_daemon.proofs.slurm_contents.settled_contents.Given as goal

abbrev pub invariant-loop-time : goal.invariant-loop-time
invariant-loop-time g l = IfOk l.last (λ contents. HasContents g.W.Disk.answers l.slurms contents)
