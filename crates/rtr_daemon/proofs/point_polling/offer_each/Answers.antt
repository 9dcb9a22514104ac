use Rattle.std.proofs.Common.{◌≡◌, ◌+◌, ◌∙◌, suc, arith, get_or, length, subst, take, ◌<◌}
use Rattle.std.specs.String.{string_bytes}
use Rattle.rtr_daemon.specs.PointOffers.{OffersEach, OffersPoint}
use Rattle.rtr_daemon.proofs.ContentLaws.{offers_more, left_more, points_kept}
use Rattle.rtr_daemon.proofs.DueLaws.{sources_on}
use Rattle.rtr_daemon.proofs.ServiceLaws.{then_on}
use Rattle.rtr_daemon.proofs.point_polling.offer_each.Goals as goal

pub loop-point-preserved : goal.loop-point-preserved
loop-point-preserved g c =
    let i = c.loop-point.point-index in
    let item = c.point-item.result in
    let initial = c.deref_mut-point-items.result.now in
    let before = c.loop-point.invariant in
    let one = c.offer_one.ensures in
    let less : i < length initial = omega (arith, c.loop-point-test.true) in
    let more : suc i ≡ i + 1 = omega arith in
    let here : get_or c.loop-point.point-items i item ≡ get_or initial i item = before.left i item (omega arith) in
    record {
      goes = then_on g.S.VersionStore.holds g.T.Stream.remaining g.T.Stream.contents c.args.service.now c.loop-point.service c.offer_one.new.service before.goes one.goes;
      rest = sources_on c.args.service.now c.loop-point.service c.offer_one.new.service before.rest one.rest;
      offers =
          subst (λ n. OffersEach g.W.Disk.answers g.W.Time.can_be (take n initial) c.args.service.now.sources c.offer_one.new.service.sources) more
          (offers_more g.W.Disk.answers g.W.Time.can_be initial i item c.args.service.now.sources c.loop-point.service.sources c.offer_one.new.service.sources one.offers.0 less one.offers.1 before.offers
          (subst (λ e. OffersPoint g.W.Disk.answers (string_bytes e.path) one.offers.0 c.loop-point.service.sources c.offer_one.new.service.sources) here one.offers.2));
      paths = points_kept c.loop-point.point-items i item c.offer_one.new.point one.path ∙ before.paths;
      left = left_more c.loop-point.point-items initial i c.offer_one.new.point before.left;
    }
