use Rattle.std.proofs.Common.{subst}
use Rattle.rtr_daemon.specs.PointOffers.{OffersPoint}
use Rattle.rtr_daemon.proofs.starting.read_point.Goals as goal

pub returns-in-Ok-clause-offers : goal.returns-in-Ok-clause-offers
returns-in-Ok-clause-offers g c = subst (λ path. OffersPoint g.W.Disk.answers path c.args.now c.args.service.now.sources c.offer.new.service.sources) c.as_str.ensures.value c.offer.ensures.offers

pub returns-in-Err-clause-offers : goal.returns-in-Err-clause-offers
returns-in-Err-clause-offers g c = subst (λ path. OffersPoint g.W.Disk.answers path c.args.now c.args.service.now.sources c.offer.new.service.sources) c.as_str.ensures.value c.offer.ensures.offers
