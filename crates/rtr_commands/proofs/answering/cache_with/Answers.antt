use Rattle.std.proofs.Common.{[], arith, refl, subst}
use Rattle.rtr_ends.specs.CacheState.{ShowsCache, without_conns}
use Rattle.rtr_ends.specs.Timing.{Intervals, default_intervals}
use Rattle.vrps.specs.Steps.{HoldsSteps}
use Rattle.rtr_commands.proofs.Starting.{starts}
use Rattle.rtr_commands.proofs.answering.cache_with.Goals as goal

pub returns : goal.returns
returns c =
    starts c.args.session c.args.session0 c.args.serial c.args.set c.publish.new.self c.in_ok-_published._published (omega (arith, c.ranges.session.fits)) (omega (arith, c.ranges.session0.fits)) (omega (arith, c.ranges.serial.fits)) c.len-within_limit.ensures.set
    (c.in_ok-_published.ensures (without_conns 1 default_intervals (record { session = c.args.session; session0 = c.args.session0; start = c.args.serial; sets = [] }))
    (subst (λ (t : Intervals). ShowsCache HoldsSteps (without_conns 1 t (record { session = c.args.session; session0 = c.args.session0; start = c.args.serial; sets = [] })) c.new_both-cache.result) c.default.ensures
    (c.new_both-cache.ensures 1 (record { session = c.args.session; session0 = c.args.session0; start = c.args.serial; sets = [] }) (c.in_ok-log.ensures c.args.session0) refl)))
