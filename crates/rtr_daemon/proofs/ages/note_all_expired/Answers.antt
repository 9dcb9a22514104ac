use Rattle.std.proofs.Common.{◌<◌, arith, length}
use Rattle.rtr_daemon.specs.Ages.{with_expired}
use Rattle.rtr_daemon.proofs.ContentLaws.{changed_more}
use Rattle.rtr_daemon.proofs.ages.note_all_expired.Goals as goal

pub loop-export-preserved : goal.loop-export-preserved
loop-export-preserved g c =
    let initial = c.deref_mut-export-items.result.now in
    let less : c.loop-export.export-index < length initial = omega (arith, c.loop-export-test.true) in
    changed_more (with_expired c.args.now c.args.sources.now) initial c.loop-export.export-items c.loop-export.export-index c.export-item.result c.note_expired.new.export less c.loop-export.invariant c.note_expired.ensures
