use Rattle.std.proofs.Common.{inr}
use Rattle.rtr_daemon.proofs.point_polling.offer.Goals as goal

pub returns-in_err-_offered-in-Ok-clause-offers : goal.returns-in_err-_offered-in-Ok-clause-offers
returns-in_err-_offered-in-Ok-clause-offers g c = inr (c.in-Ok.directory, c.in-Ok.ensures.directories, c.offer.result, c.offer.ensures.offers)

pub returns-in_ok-_offered-in-Ok-clause-offers : goal.returns-in_ok-_offered-in-Ok-clause-offers
returns-in_ok-_offered-in-Ok-clause-offers g c = inr (c.in-Ok.directory, c.in-Ok.ensures.directories, c.offer.result, c.offer.ensures.offers)
