-- A cache with one version, and a connection on it.
use Rattle.std.specs.Prelude.{◌≡◌, ℕ, ◌<◌, ◌^◌, true, false, [], Some, Ok, refl}
use Rattle.std.proofs.Common.{ap}
use Rattle.vrps.specs.Instance.{Instance, IsInstance}
use Rattle.vrps.specs.Steps.{HoldsSteps, Steps}
use Rattle.vrps.specs.Stores.{Publishes}
use Rattle.vrps.specs.VrpSet.{IsVrpSet, VrpSet}
use Rattle.vrps.specs.declared.store.Published.{Published}
use Rattle.vrps.specs.declared.store.Published.TheVariants.{New, Unchanged}
use Rattle.rtr_ends.specs.Cache.{new_conn}
use Rattle.rtr_ends.specs.CacheState.{ShowsCache, due_at, with_conn, without_conns}
use Rattle.rtr_ends.specs.Timing.{default_intervals}
use Rattle.rtr_ends.specs.declared.cache.Cache.{Cache}
use Rattle.rtr_commands.specs.Lines.{cache_of}
use Rattle.rtr_commands.specs.Serves.{HasServed, Starts}
use Rattle.rtr_ends.proofs.CacheStateLaws.{with_conn_at}

abbrev empty_cache : ℕ → ℕ → ℕ → Instance
empty_cache session session0 serial = record { session = session; session0 = session0; start = serial; sets = [] }

instance_of : (session session0 serial : ℕ) (set : VrpSet) → session < 2 ^ 16 → session0 < 2 ^ 16 → serial < 2 ^ 32 → IsVrpSet set → IsInstance (cache_of session session0 serial set)
instance_of session session0 serial set low low0 number fits = record { session = low; session0 = low0; start = number; sets = (fits, tt); news = tt }

-- The first set is published, whatever it is.
pub starts : (session session0 serial : ℕ) (set : VrpSet) (cache : Cache Steps) (answer : Published) → session < 2 ^ 16 → session0 < 2 ^ 16 → serial < 2 ^ 32 → IsVrpSet set
    → Publishes (λ i now. ShowsCache HoldsSteps (record (without_conns 1 default_intervals (empty_cache session session0 serial)) { cache = i }) now) (Ok answer) set (empty_cache session session0 serial) cache → Starts (cache_of session session0 serial set) cache
starts session session0 serial set cache (New number) low low0 low_serial fits h = record { is = instance_of session session0 serial set low low0 low_serial fits; shows = h.0 }
starts session session0 serial set cache Unchanged low low0 low_serial fits h = absurd (let e : false ≡ true = h.1 in cc)

-- A connection is opened.
pub opens : (i : Instance) (cache new : Cache Steps) (c : ℕ) → Starts i cache → ShowsCache HoldsSteps (with_conn c (Some (new_conn i)) (without_conns 1 default_intervals i)) new → HasServed i c [] [] new
opens i cache new c s shows =
    let at = with_conn_at c (Some (new_conn i)) (without_conns 1 default_intervals i) in
    record {
      serves = record {
        is = s.is;
        state = with_conn c (Some (new_conn i)) (without_conns 1 default_intervals i);
        shows = shows;
        keep_is = refl;
        timing_is = refl;
        cache_is = refl;
        calls = [];
        each = tt;
        at = at;
        cache_now = refl;
        own = tt;
        came_is = refl;
        given_is = refl;
      };
      none = ap due_at at;
    }
