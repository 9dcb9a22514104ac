-- What the two ends consume of a piece.
use Rattle.std.proofs.Common.{[], ◌∷◌, ◌++◌, ap}
use Rattle.rtr_ends.specs.Cache.{Taking, conn_stops, conn_byte, conn_takes, ConnTakes, ConnStops}
use Rattle.rtr_ends.specs.Cache as cache
use Rattle.rtr_ends.specs.Router.{Receiving, router_stops, router_byte, receives, clocked}
use Rattle.rtr_ends.specs.RouterLaws.{RouterTakes, RouterStops}
use Rattle.rtr_ends.specs.Router as router
use Rattle.rtr_ends.specs.Transcript.{At}
use Rattle.rtr_ends.proofs.FeedingLaws.{feed_takes}

pub conn_takes_so : ConnTakes
unfolding conn_takes
conn_takes_so keep t i wanting piece o = feed_takes (λ m. conn_stops m.conn) (conn_byte keep t i) (record { conn = o; moments = []; wanting = wanting }) piece

pub conn_stops_so : ConnStops
unfolding conn_byte
conn_stops_so keep t i m b h = ap (λ j. conn_stops (cache.conn_judged keep t i m (cache.version_at m.conn (b ∷ [])) (m.conn.held ++ b ∷ []) j).conn) h

pub router_takes_so : RouterTakes
unfolding receives
router_takes_so now wanting piece r = feed_takes (λ m. router_stops m.router) router_byte (record { router = clocked now r; items = At now ∷ []; wanting = wanting }) piece

pub router_stops_so : RouterStops
unfolding router_byte
router_stops_so m b h = ap (λ j. router_stops (router.router_judged m (m.router.held ++ b ∷ []) j).router) h
