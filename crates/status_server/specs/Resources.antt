-- Which path has which resource.
use Rattle.std.specs.Prelude.{ℕ, List, ◌++◌, codes}
use Rattle.status_server.specs.declared.resources.Resource.{Resource}
use Rattle.status_server.specs.declared.resources.Resource.TheVariants as resource

abbrev pub path_of : Resource → List ℕ
path_of resource.Status = codes "/"
path_of resource.Metrics = codes "/metrics"
path_of resource.Health = codes "/health"
path_of resource.Ready = codes "/ready"
path_of resource.Live = codes "/live"
path_of resource.ApiStatus = codes "/api/v1/status"
path_of resource.Export = codes "/vrps.json"
path_of resource.StayRtrExport = codes "/rpki.json"
path_of resource.RoutinatorExport = codes "/json"
path_of resource.List = codes "/list.json"
path_of resource.Csv = codes "/vrps.csv"
path_of resource.RoutinatorCsv = codes "/csv"
path_of resource.Validity = codes "/validity"

-- the path of the validity of a route, as Routinator has it
abbrev pub route_path : List ℕ → List ℕ
route_path rest = codes "/api/v1/validity/" ++ rest
