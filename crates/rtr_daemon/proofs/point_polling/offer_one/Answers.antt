use Rattle.std.proofs.Common.{subst}
use Rattle.rtr_daemon.specs.PointOffers.{OffersPoint}
use Rattle.rtr_daemon.proofs.point_polling.offer_one.Goals as goal

pub returns-then-note_expired-clause-offers : goal.returns-then-note_expired-clause-offers
returns-then-note_expired-clause-offers g c =
    (c.seconds-now.result, c.seconds-now.ensures, subst (λ path. OffersPoint g.W.Disk.answers path c.seconds-now.result c.args.service.now.sources c.offer-offered.new.service.sources) c.as_str.ensures.value c.offer-offered.ensures.offers)

pub returns-else-note_expired-clause-offers : goal.returns-else-note_expired-clause-offers
returns-else-note_expired-clause-offers g c =
    (c.seconds-now.result, c.seconds-now.ensures, subst (λ path. OffersPoint g.W.Disk.answers path c.seconds-now.result c.args.service.now.sources c.offer-offered.new.service.sources) c.as_str.ensures.value c.offer-offered.ensures.offers)
