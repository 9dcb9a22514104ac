-- The validity of a route under a set.
use Rattle.std.specs.Prelude.{◌≡◌}
use Rattle.prefixes.specs.declared.route.Route.{Route}
use Rattle.vrps.specs.Origin.{state}
use Rattle.vrps.specs.VrpSet.{VrpSet}
use Rattle.status_pages.specs.Kinds.{matched, unmatched_as, unmatched_length}
use Rattle.status_pages.specs.declared.validity.Validity.{Validity}

-- The state of the route, and the records that cover it, by kind
pub record IsValidity (s : VrpSet) (r : Route) (v : Validity) : Type 0 where
  pub state : v.state ≡ state s r
  pub matched : v.matched.items ≡ matched s r
  pub unmatched_length : v.unmatched_length.items ≡ unmatched_length s r
  pub unmatched_as : v.unmatched_as.items ≡ unmatched_as s r
