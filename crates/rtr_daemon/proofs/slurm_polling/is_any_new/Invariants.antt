-- So far each file has the stamp with which it was loaded or refused last.
use Rattle.std.proofs.Common.{ℕ, ◌<◌, get_or}
use Rattle.rtr_daemon.specs.Files.{IsKnown}
use Rattle.rtr_daemon.specs.declared.watched_file.WatchedFile.{WatchedFile}
use Rattle.rtr_daemon.proofs.slurm_polling.is_any_new.Given as goal

abbrev pub invariant-loop-file : goal.invariant-loop-file
invariant-loop-file g l = (k : ℕ) (d : WatchedFile) → k < l.file-index → IsKnown g.W.Disk.answers (get_or l.slurms k d)
