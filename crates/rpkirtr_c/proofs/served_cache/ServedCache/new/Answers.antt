use Rattle.std.proofs.Common.{subst, refl, [], arith}
use Rattle.rtr_ends.specs.CacheState.{ShowsCache, without_conns}
use Rattle.rtr_ends.specs.Timing.{Intervals, IsTiming}
use Rattle.vrps.specs.Instance.{Instance}
use Rattle.vrps.specs.Steps.{HoldsSteps}
use Rattle.rpkirtr_c.proofs.served_cache.ServedCache.new.Goals as goal

pub returns-clause-ok : goal.returns-clause-ok
returns-clause-ok c =
    let is = c.in_ok-timing.ensures.ok in let i : Instance = record { session = c.args.settings.now.session; session0 = c.args.settings.now.session0; start = c.args.settings.now.start; sets = [] } in (
      subst IsTiming is.0 is.1,
      record { some = omega (arith, c.if-settings-lt1.false); limit = omega (arith, c.if-settings-gt65536.false) },
      record {
        cache = subst (λ (t : Intervals). ShowsCache HoldsSteps (without_conns c.args.settings.now.keep t i) c.new_both.result) is.0 (c.new_both.ensures c.args.settings.now.keep i (c.in_ok-log.ensures c.args.settings.now.session0) refl);
        table = λ n. rw c.new-2.ensures refl;
      },
    )
