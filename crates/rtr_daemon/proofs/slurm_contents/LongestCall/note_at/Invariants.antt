-- The paths are as they were, and the stamps of the last loads. No refusal is noted.
use Rattle.rtr_daemon.specs.Files.{SameLoads}
use Rattle.rtr_daemon.specs.SlurmRefusals.{EachNotesSo, IsNotOfBytes}
use Rattle.rtr_daemon.proofs.slurm_contents.LongestCall.note_at.Given as goal

abbrev pub invariant-loop-at : goal.invariant-loop-at
invariant-loop-at l = record {
  loads : SameLoads l.initial.slurms l.slurms;
  refusals : EachNotesSo (λ k. IsNotOfBytes) l.initial.slurms l.slurms;
}
