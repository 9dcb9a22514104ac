-- The paths are as they were. The files so far have the stamps of what was read of them, the others those of their last loads.
use Rattle.std.proofs.Common.{◌≡◌, ◌++◌, drop, length, take}
use Rattle.std.specs.Prelude.{Some, map}
use Rattle.rtr_daemon.specs.Files.{loads_of, paths_of}
use Rattle.rtr_daemon.specs.SlurmRefusals.{EachNotesSo, IsNotOfBytes}
use Rattle.rtr_daemon.proofs.slurm_polling.report_loaded.Given as goal

abbrev pub invariant-loop-at : goal.invariant-loop-at
invariant-loop-at g l = record {
  paths : paths_of l.slurms ≡ paths_of l.initial.slurms;
  loaded : length l.contents.stamps.items ≡ length l.initial.slurms → loads_of l.slurms ≡ take l.at (map Some l.contents.stamps.items) ++ drop l.at (loads_of l.initial.slurms);
  refusals : EachNotesSo (λ k. IsNotOfBytes) l.initial.slurms l.slurms;
}
