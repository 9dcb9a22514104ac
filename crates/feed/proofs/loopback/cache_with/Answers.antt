use Rattle.std.proofs.Common.{[], refl, subst}
use Rattle.rtr_ends.specs.CacheState.{ShowsCache, without_conns}
use Rattle.rtr_ends.specs.Timing.{Intervals, default_intervals}
use Rattle.vrps.specs.Steps.{HoldsSteps}
use Rattle.feed.proofs.Serving.{starts}
use Rattle.feed.proofs.loopback.cache_with.Goals as goal

pub returns : goal.returns
returns c =
    starts c.args.set c.publish.new.self c.in_ok-_published._published c.len-within_limit.ensures.set
    (c.in_ok-_published.ensures (without_conns 1 default_intervals (record { session = 1; session0 = 1; start = 0; sets = [] }))
    (subst (λ (t : Intervals). ShowsCache HoldsSteps (without_conns 1 t (record { session = 1; session0 = 1; start = 0; sets = [] })) c.new-cache.result) c.default.ensures
    (c.new-cache.ensures 1 (record { session = 1; session0 = 1; start = 0; sets = [] }) (c.in_ok-log.ensures 1) refl)))
