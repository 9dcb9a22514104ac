use Rattle.std.proofs.Common.{◌≡◌, ◌+◌, ◌∙◌, suc, arith, get_or, length, length-set, set, subst, take, ◌<◌}
use Rattle.rtr_daemon.specs.Files.{FollowsEach, FollowsOne, mark_of, marks_of}
use Rattle.rtr_daemon.proofs.ContentLaws.{follows_more, left_more, names_kept}
use Rattle.rtr_daemon.proofs.DueLaws.{sources_on}
use Rattle.rtr_daemon.proofs.ServiceLaws.{then_on}
use Rattle.rtr_daemon.proofs.polling.follow_each.Goals as goal

pub loop-export-preserved : goal.loop-export-preserved
loop-export-preserved g c =
    let i = c.loop-export.export-index in
    let item = c.export-item.result in
    let initial = c.deref_mut-export-items.result.now in
    let before = c.loop-export.invariant in
    let one = c.follow_one.ensures in
    let less : i < length initial = omega (arith, c.loop-export-test.true) in
    let within : i < length c.loop-export.export-items = omega (arith, c.loop-export-test.true, before.count) in
    let more : suc i ≡ i + 1 = omega arith in
    let here : get_or c.loop-export.export-items i item ≡ get_or initial i item = before.left i item (omega arith) in
    record {
      goes = then_on g.S.VersionStore.holds g.T.Stream.remaining g.T.Stream.contents c.args.service.now c.loop-export.service c.follow_one.new.service before.goes one.goes;
      rest = sources_on c.args.service.now c.loop-export.service c.follow_one.new.service before.rest one.rest;
      follows =
          subst
          (λ n. FollowsEach g.W.Disk.answers g.W.Time.can_be g.W.Time.can_tick c.args.plan.shrink (take n initial) (take n (marks_of (set c.loop-export.export-items i c.follow_one.new.export))) c.args.service.now.sources
          c.follow_one.new.service.sources)
          more
          (follows_more g.W.Disk.answers g.W.Time.can_be g.W.Time.can_tick c.args.plan.shrink initial c.loop-export.export-items i item c.follow_one.new.export c.args.service.now.sources c.loop-export.service.sources
          c.follow_one.new.service.sources less within before.follows
          (subst (λ e. FollowsOne g.W.Disk.answers g.W.Time.can_be g.W.Time.can_tick c.args.plan.shrink e (mark_of c.follow_one.new.export) c.loop-export.service.sources c.follow_one.new.service.sources) here one.follows));
      count = length-set c.loop-export.export-items i c.follow_one.new.export ∙ before.count;
      names = names_kept c.loop-export.export-items i item c.follow_one.new.export one.path one.number ∙ before.names;
      left = left_more c.loop-export.export-items initial i c.follow_one.new.export before.left;
    }
