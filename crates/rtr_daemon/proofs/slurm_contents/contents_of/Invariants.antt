-- So far bytes that were read whole of the path of each file
use Rattle.std.proofs.Common.{take}
use Rattle.rtr_daemon.specs.Files.{AreContents, paths_of, texts_of}
use Rattle.rtr_daemon.proofs.slurm_contents.contents_of.Given as goal

abbrev pub invariant-loop-file : goal.invariant-loop-file
invariant-loop-file g l = AreContents g.W.Disk.answers (take l.file-index (paths_of l.slurms)) l.contents.stamps.items (texts_of l.contents)
