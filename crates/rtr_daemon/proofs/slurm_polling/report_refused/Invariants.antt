-- The paths are as they were, and the stamps of the last loads. The refusal is noted of its file, or waits for it.
use Rattle.std.proofs.Common.{◌≡◌, ◌⊎◌}
use Rattle.std.specs.Prelude.{None, Some}
use Rattle.rtr_daemon.specs.Files.{SameLoads}
use Rattle.rtr_daemon.specs.SlurmRefusals.{EachNotesSo, IsNotedAt}
use Rattle.rtr_daemon.proofs.slurm_polling.report_refused.Given as goal

abbrev pub invariant-loop-at : goal.invariant-loop-at
invariant-loop-at g l = record {
  loads : SameLoads l.initial.slurms l.slurms;
  refusals : EachNotesSo (IsNotedAt l.fn.refusal.index l.fn.refusal.stamp l.fn.refusal.why) l.initial.slurms l.slurms;
  own : (l.why ≡ None) ⊎ (l.why ≡ Some l.fn.refusal.why);
}
