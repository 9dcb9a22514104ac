-- What private functions give: faults of offers and of sets, a cache, a router.
use Rattle.std.specs.Prelude.{◌≡◌, ℕ, Bool, false, List, []}
use Rattle.std.specs.List.{AllByRecursion}
use Rattle.points.specs.declared.fault.PointFault.{PointFault}
use Rattle.points.specs.declared.fault.PointFault.TheVariants as points
use Rattle.vrps.specs.Instance.{IsInstance}
use Rattle.vrps.specs.Steps.{HoldsSteps, Steps}
use Rattle.vrps.specs.VrpSet.{VrpSet}
use Rattle.vrps.specs.declared.set.SetFault.{SetFault}
use Rattle.vrps.specs.declared.set.SetFault.TheVariants as sets
use Rattle.rtr_pdu.specs.declared.unit.Unit.TheVariants.{ResetQuery}
use Rattle.rtr_pdu.specs.declared.version.Version.TheVariants.{V1}
use Rattle.rtr_ends.specs.Answer.{sent}
use Rattle.rtr_ends.specs.Cache.{ConnCall}
use Rattle.rtr_ends.specs.CacheState.{CacheState, ShowsCache, without_conns}
use Rattle.rtr_ends.specs.Consumed.{came}
use Rattle.rtr_ends.specs.FetchStream.{IsFetchCall, calls_since}
use Rattle.rtr_ends.specs.LinkRules as rules
use Rattle.rtr_ends.specs.Router.{RouterCall}
use Rattle.rtr_ends.specs.RouterShown.{CallsLead, IsShown}
use Rattle.rtr_ends.specs.ServeStream.{IsTurn, StandsAt, stood}
use Rattle.rtr_ends.specs.Timing.{default_intervals}
use Rattle.rtr_ends.specs.declared.cache.Cache.{Cache}
use Rattle.rtr_ends.specs.declared.router.Router as code
use Rattle.feed.specs.Feed.{cache_publishing}
use Rattle.feed.specs.declared.fault.FeedFault.{FeedFault}
use Rattle.feed.specs.declared.fault.FeedFault.TheVariants as faults

-- what the fault of the offer of this index is reported as
abbrev pub told_at : ℕ → PointFault → FeedFault
told_at i points.Memory = faults.Memory
told_at i fault = faults.Point i fault

-- what the fault of a set is reported as
abbrev pub told_of_set : SetFault → FeedFault
told_of_set sets.TooMany = faults.TooMany
told_of_set sets.Memory = faults.Memory

-- a cache with this set as its one version, without a connection
abbrev pub publishing : VrpSet → CacheState
publishing set = without_conns 1 default_intervals (cache_publishing set)

pub record StartsWithSet (set : VrpSet) (cache : Cache Steps) : Type 0 where
  pub is : IsInstance (cache_publishing set)
  pub shows : ShowsCache HoldsSteps (publishing set) cache

-- One Reset Query came on its connection of this number, and these bytes were pulled from it.
pub record GaveAt (set : VrpSet) (c : ℕ) (wire : List ℕ) (cache : Cache Steps) : Type 0 where
  pub calls : List ConnCall
  pub turns : AllByRecursion IsTurn calls
  pub stands : StandsAt HoldsSteps (publishing set) c calls cache
  pub query : (stood (publishing set) calls).came ≡ sent V1 ResetQuery
  pub given : (stood (publishing set) calls).given ≡ wire

-- This router was new, and was connected; these bytes came then.
pub record Took (wire : List ℕ) (router : code.Router) : Type 0 where
  pub turns : List RouterCall
  pub each : AllByRecursion (IsFetchCall 0) turns
  pub leads : CallsLead (calls_since turns 0 []) router
  pub came_is : came (calls_since turns 0 []) ≡ wire

-- These bytes went from the one to the other; if a turn moved none, none are due.
pub record Turned (set : VrpSet) (c : ℕ) (moved : Bool) (wire : List ℕ) (cache : Cache Steps) (router : code.Router) : Type 0 where
  pub gave : GaveAt set c wire cache
  pub took : Took wire router
  pub all : moved ≡ false → (stood (publishing set) gave.calls).conn.state.due ≡ []

-- This router holds this set.
pub record HasTable (set : VrpSet) (router : code.Router) : Type 0 where
  pub machine : rules.Router
  pub shown : IsShown machine router
  pub table : machine.table ≡ set
