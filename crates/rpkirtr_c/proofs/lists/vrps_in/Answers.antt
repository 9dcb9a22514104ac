use Rattle.std.proofs.Common.{take}
use Rattle.rpkirtr_c.specs.Indexes.{records_in}
use Rattle.rpkirtr_c.proofs.RecordLaws.{list_fault, next_list}
use Rattle.rpkirtr_c.proofs.lists.vrps_in.Goals as goal

pub returns-in-Err-clause-err : goal.returns-in-Err-clause-err
returns-in-Err-clause-err c = list_fault c.loop-at.list.items c.args.lists.now c.loop-at.at _ c.in-Err.fault c.loop-at.invariant c.loop-at-test.true c.in-Err.ensures.err

pub loop-at-preserved : goal.loop-at-preserved
loop-at-preserved c =
    let more = c.in_default.ensures.ok (records_in (take c.loop-at.at c.args.lists.now)) c.loop-at.invariant in
    next_list c.add_vrps.new.list.items c.args.lists.now c.loop-at.at _ c.loop-at-test.true more
