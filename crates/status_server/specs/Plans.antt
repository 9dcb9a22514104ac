-- What answers a request: by the host that it names, its path and its method, in this order.
use Rattle.std.specs.Prelude.{◌≡◌, ◌⊎◌, ℕ, List, Option, codes}
use Rattle.http_uri.specs.Uri.{uri_path}
use Rattle.http.specs.declared.request.Parts.{Parts}
use Rattle.status_server.specs.Hosts.{HasValidHosts, NamesServed}
use Rattle.status_server.specs.Resources.{path_of, route_path}
use Rattle.status_server.specs.declared.plan.Plan.{Plan}
use Rattle.status_server.specs.declared.plan.Plan.TheVariants as plans
use Rattle.status_server.specs.declared.resources.Resource.{Resource}

-- a method that reads (RFC 9110 section 9.2.1) and is answered
abbrev pub IsRead : List ℕ → Type 0
IsRead method = (method ≡ codes "GET") ⊎ (method ≡ codes "HEAD")

-- the path of some resource
abbrev pub IsResource : List ℕ → Type 0
IsResource path = (r : Resource) × (path ≡ path_of r)

-- the path of the validity of some route
abbrev pub IsRoute : List ℕ → Type 0
IsRoute path = (rest : List ℕ) × (path ≡ route_path rest)

-- what is at a path
abbrev pub PlansAt : List ℕ → Plan → Type 0
PlansAt path (plans.Resource r) = path ≡ path_of r
PlansAt path plans.Route = IsRoute path
PlansAt path plans.NotFound = (¬ (IsResource path)) × (¬ (IsRoute path))
PlansAt path plan = ⊥

-- Of a request whose host is served. A path at which nothing is comes before the method.
abbrev pub PlansServed : Parts → Plan → Type 0
PlansServed p plans.NotAllowed = (IsResource (uri_path p.uri) ⊎ IsRoute (uri_path p.uri)) × ¬ (IsRead p.method)
PlansServed p plans.NotFound = PlansAt (uri_path p.uri) plans.NotFound
PlansServed p (plans.Resource r) = PlansAt (uri_path p.uri) (plans.Resource r) × IsRead p.method
PlansServed p plans.Route = PlansAt (uri_path p.uri) plans.Route × IsRead p.method
PlansServed p plan = ⊥

-- Of a request: its host comes before all else.
abbrev pub PlansSo : Option (List ℕ) → Parts → Plan → Type 0
PlansSo name p plans.InvalidHost = ¬ (HasValidHosts p)
PlansSo name p plans.NotServed = HasValidHosts p × ¬ (NamesServed name p)
PlansSo name p plan = (HasValidHosts p × NamesServed name p) × PlansServed p plan
