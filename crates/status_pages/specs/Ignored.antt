-- How much of a file is not served.
use Rattle.std.specs.Prelude.{ℕ, List, [], ◌∷◌, ◌++◌, codes, Option, None, Some, string_bytes}
use Rattle.std.specs.Fmt.{decimal}
use Rattle.std.specs.List.{flat_map}
use Rattle.status_pages.specs.Health.{label_text}
use Rattle.status_pages.specs.declared.ignored.KindCount.{KindCount}
use Rattle.status_pages.specs.declared.status.FileStatus.{FileStatus}
use Rattle.status_pages.specs.declared.status.IgnoredEntries.{IgnoredEntries}
use Rattle.status_pages.specs.declared.status.IgnoredEntries.TheVariants as of

-- how many entries of a kind
pub record Kind : Type 0 where
  pub name : List ℕ
  pub count : ℕ

abbrev pub kind : List ℕ → ℕ → Kind
kind name count = record { name = name; count = count }

abbrev pub kind_counted : KindCount → Kind
kind_counted k = kind k.kind.now k.count

-- the kinds of entries of a file that are not served, by the labels of the metric, with how many the file has
abbrev pub kinds_of : Option IgnoredEntries → List Kind
kinds_of None = []
kinds_of (Some (of.Export aspas keys)) = kind (codes "aspa") aspas ∷ kind (codes "router_key") keys ∷ []
kinds_of (Some (of.Slurm filters assertions)) = kind (codes "bgpsec_filter") filters ∷ kind (codes "bgpsec_assertion") assertions ∷ []

-- a value of the metric
unfoldable pub ignored_line : List ℕ → Kind → List ℕ
ignored_line path k =
    codes "rpkirtrd_file_ignored_entries{file=\"" ++ label_text path ++ codes "\",kind=\"" ++ k.name ++ codes "\"} " ++ decimal k.count ++ codes "\n"

-- the values for a file
abbrev pub ignored_lines : FileStatus → List ℕ
ignored_lines f = flat_map (ignored_line (string_bytes f.path)) (kinds_of f.ignored)
