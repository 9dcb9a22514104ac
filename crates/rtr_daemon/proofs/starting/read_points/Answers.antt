use Rattle.std.proofs.Common.{◌≡◌, ◌+◌, ◌<◌, ◌∙◌, suc, arith, get_or, length, refl, subst, take}
use Rattle.std.specs.String.{string_bytes}
use Rattle.rtr_daemon.specs.PointOffers.{OffersEach, OffersPoint}
use Rattle.rtr_daemon.proofs.ContentLaws.{left_more, offers_more, points_kept}
use Rattle.rtr_daemon.proofs.ServiceLaws.{then_on}
use Rattle.rtr_daemon.proofs.starting.read_points.Goals as goal

pub returns-in_err-read_point-clause-goes : goal.returns-in_err-read_point-clause-goes
returns-in_err-read_point-clause-goes g c = then_on g.S.VersionStore.holds g.T.Stream.remaining g.T.Stream.contents c.args.service.now c.loop-point.service c.read_point.new.service c.loop-point.invariant.goes c.read_point.ensures.goes

pub loop-point-preserved : goal.loop-point-preserved
loop-point-preserved g c =
    let i = c.loop-point.point-index in
    let item = c.point-item.result in
    let initial = c.deref_mut-point-items.result.now in
    let before = c.loop-point.invariant in
    let one = c.read_point.ensures in
    let less : i < length initial = omega (arith, c.loop-point-test.true) in
    let more : suc i ≡ i + 1 = omega arith in
    let here : get_or c.loop-point.point-items i item ≡ get_or initial i item = before.left i item (omega arith) in
    record {
      goes = then_on g.S.VersionStore.holds g.T.Stream.remaining g.T.Stream.contents c.args.service.now c.loop-point.service c.read_point.new.service before.goes one.goes;
      offers =
          subst (λ n. OffersEach g.W.Disk.answers (λ at. at ≡ c.args.now) (take n initial) c.args.service.now.sources c.read_point.new.service.sources) more
          (offers_more g.W.Disk.answers (λ at. at ≡ c.args.now) initial i item c.args.service.now.sources c.loop-point.service.sources c.read_point.new.service.sources c.args.now less refl before.offers
          (subst (λ e. OffersPoint g.W.Disk.answers (string_bytes e.path) c.args.now c.loop-point.service.sources c.read_point.new.service.sources) here one.offers));
      paths = points_kept c.loop-point.point-items i item c.read_point.new.point one.path ∙ before.paths;
      left = left_more c.loop-point.point-items initial i c.read_point.new.point before.left;
    }
