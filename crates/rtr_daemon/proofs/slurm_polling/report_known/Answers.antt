use Rattle.std.proofs.Common.{◌∙◌, arith}
use Rattle.rtr_daemon.specs.SlurmRefusals.{IsNotOfBytes}
use Rattle.rtr_daemon.proofs.ContentLaws.{loads_kept}
use Rattle.rtr_daemon.proofs.SlurmRefusalLaws.{notes_more}
use Rattle.rtr_daemon.proofs.slurm_polling.report_known.Goals as goal

pub loop-file-preserved : goal.loop-file-preserved
loop-file-preserved g c =
    let files = c.loop-file.slurms in
    let one = c.report_if_known.ensures in
    let kept = loads_kept files c.loop-file.file-index c.file-item.result c.report_if_known.new.file one.loads in
    let count = c.loop-file.auto.slurms in
    record {
      loads = (kept.0 ∙ c.loop-file.invariant.loads.0, kept.1 ∙ c.loop-file.invariant.loads.1);
      refusals = notes_more (λ k. IsNotOfBytes) c.args.slurms.now files c.loop-file.file-index c.file-item.result c.report_if_known.new.file (omega (arith, c.loop-file-test.true, count)) c.loop-file.invariant.refusals one.refusals;
    }
