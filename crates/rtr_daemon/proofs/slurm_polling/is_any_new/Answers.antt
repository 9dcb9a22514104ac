use Rattle.std.proofs.Common.{arith}
use Rattle.rtr_daemon.specs.Files.{IsKnown}
use Rattle.rtr_daemon.proofs.ContentLaws.{each_more}
use Rattle.rtr_daemon.proofs.slurm_polling.is_any_new.Goals as goal

pub loop-file-preserved : goal.loop-file-preserved
loop-file-preserved g c = each_more (IsKnown g.W.Disk.answers) c.args.slurms.now c.loop-file.file-index c.file-item.result c.loop-file-test.true c.file-item.is (c.is_new-is_new.ensures c.if-is_new.false) c.loop-file.invariant

pub returns : goal.returns
returns g c = λ e k d less. c.loop-file.invariant k d (omega (arith, less, c.loop-file-test.false))
