use Rattle.rtr_ends.proofs.LifeLaws.{cache_is_served}
use Rattle.rtr_ends.proofs.laws.cache_is_served.Goals as goal

pub returns : goal.returns
returns g c = cache_is_served g.S.VersionStore.holds c.args.cache.now
