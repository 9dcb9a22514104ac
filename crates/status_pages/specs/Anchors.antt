-- How many VRPs a source gives, by trust anchor, as a metric.
use Rattle.std.specs.Prelude.{ℕ, ◌-◌, Bool, not, ◌&&◌, ◌==◌, if◌then◌else◌, List, [], ◌∷◌, ◌++◌, length, codes, Option, None, Some, string_bytes}
use Rattle.std.specs.Fmt.{decimal}
use Rattle.std.specs.List.{concat, flat_map, sum_by}
use Rattle.status_pages.specs.Health.{label_text}
use Rattle.status_pages.specs.declared.status.AnchorStatus.{AnchorStatus}
use Rattle.status_pages.specs.declared.status.FileStatus.{FileStatus}

-- a value of the metric
unfoldable pub series : List ℕ → List ℕ → ℕ → List ℕ
series path anchor vrps =
    codes "rpkirtrd_source_vrps{source=\"" ++ label_text path ++ codes "\",ta=\"" ++ label_text anchor ++ concat (codes "\"} " ∷ decimal vrps ∷ codes "\n" ∷ [])

abbrev pub anchor_series : List ℕ → AnchorStatus → List ℕ
anchor_series path a = series path (string_bytes a.name) a.vrps

-- how many of the VRPs of a source have no trust anchor
abbrev pub without_anchor : ℕ → List AnchorStatus → ℕ
without_anchor vrps anchors = vrps - sum_by (λ a. a.vrps) anchors

-- They have a value if there are some, or if the source has no trust anchor at all.
abbrev pub rest_series : List ℕ → ℕ → Bool → List ℕ
rest_series path rest has_anchors = if has_anchors && rest == 0 then [] else series path [] rest

-- the values of a source
abbrev pub series_of : List ℕ → List AnchorStatus → Option ℕ → List ℕ
series_of path anchors None = []
series_of path anchors (Some vrps) =
    flat_map (anchor_series path) anchors ++ rest_series path (without_anchor vrps anchors) (not (length anchors == 0))

abbrev pub source_series : FileStatus → List ℕ
source_series f = series_of (string_bytes f.path) f.anchors.items f.vrps
