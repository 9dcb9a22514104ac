use Rattle.std.proofs.Common.{◌≡◌, ◌+◌, ◌<◌, ◌∙◌, suc, arith, get_or, length, length-set, set, subst, take}
use Rattle.rtr_daemon.specs.Files.{LoadsEach, LoadsOne, mark_of, marks_of}
use Rattle.rtr_daemon.proofs.ContentLaws.{left_more, loads_more, names_kept}
use Rattle.rtr_daemon.proofs.ServiceLaws.{then_on}
use Rattle.rtr_daemon.proofs.starting.read_all.Goals as goal

pub returns-in_err-read_export-clause-goes : goal.returns-in_err-read_export-clause-goes
returns-in_err-read_export-clause-goes g c = then_on g.S.VersionStore.holds g.T.Stream.remaining g.T.Stream.contents c.args.service.now c.loop-export.service c.read_export.new.service c.loop-export.invariant.goes c.read_export.ensures.goes

pub loop-export-preserved : goal.loop-export-preserved
loop-export-preserved g c =
    let i = c.loop-export.export-index in
    let item = c.export-item.result in
    let initial = c.deref_mut-export-items.result.now in
    let written = c.loop-export.export-items in
    let export = c.read_export.new.export in
    let before = c.loop-export.invariant in
    let one = c.in_ok-read_export.ensures in
    let less : i < length initial = omega (arith, c.loop-export-test.true) in
    let within : i < length written = omega (arith, c.loop-export-test.true, before.count) in
    let more : suc i ≡ i + 1 = omega arith in
    let here : get_or written i item ≡ get_or initial i item = before.left i item (omega arith) in
    let old = c.args.service.now.sources in
    let mid = c.loop-export.service.sources in
    let new = c.read_export.new.service.sources in
    record {
      goes = then_on g.S.VersionStore.holds g.T.Stream.remaining g.T.Stream.contents c.args.service.now c.loop-export.service c.read_export.new.service before.goes one.goes;
      loads =
          subst (λ n. LoadsEach g.W.Disk.answers c.args.now (take n initial) (take n (marks_of (set written i export))) old new) more
          (loads_more g.W.Disk.answers c.args.now initial written i item export old mid new one.loads.0 less within before.loads
          (subst (λ e. LoadsOne g.W.Disk.answers e c.args.now one.loads.0 (mark_of export) mid new) here one.loads.1));
      count = length-set written i export ∙ before.count;
      names = names_kept written i item export one.path one.number ∙ before.names;
      left = left_more written initial i export before.left;
    }
