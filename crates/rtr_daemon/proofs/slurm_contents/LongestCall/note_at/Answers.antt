use Rattle.std.proofs.Common.{◌∙◌, arith}
use Rattle.rtr_daemon.specs.SlurmRefusals.{IsNotOfBytes}
use Rattle.rtr_daemon.proofs.ContentLaws.{loads_kept}
use Rattle.rtr_daemon.proofs.SlurmRefusalLaws.{notes_more}
use Rattle.rtr_daemon.proofs.slurm_contents.LongestCall.note_at.Goals as goal

pub loop-at-preserved : goal.loop-at-preserved
loop-at-preserved c =
    let files = c.loop-at.slurms in
    let one = c.note_if_at.ensures in
    let kept = loads_kept files c.loop-at.at c.index-slurms-at.result c.note_if_at.new.file one.loads in
    let count = c.loop-at.auto.slurms in
    record {
      loads = (kept.0 ∙ c.loop-at.invariant.loads.0, kept.1 ∙ c.loop-at.invariant.loads.1);
      refusals = notes_more (λ k. IsNotOfBytes) c.args.slurms.now files c.loop-at.at c.index-slurms-at.result c.note_if_at.new.file (omega (arith, c.loop-at-test.true, count)) c.loop-at.invariant.refusals one.refusals;
    }
