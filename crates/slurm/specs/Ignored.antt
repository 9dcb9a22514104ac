-- What a SLURM file says of router keys (RFC 8416 sections 3.3.2 and 3.4.2). It is not applied, and counted.
use Rattle.std.specs.Prelude.{◌≡◌, ℕ, List, length, option_map, option_and_then, unwrap_or, codes}
use Rattle.serde_json.specs.Data.{Data}
use Rattle.serde_json.specs.Find.{get, as_array}
use Rattle.slurm.specs.Entries.{listed}
use Rattle.slurm.specs.Scoped.{IsScopedFile, Scoped}
use Rattle.slurm.specs.SlurmFile.{IsJson}
use Rattle.slurm.specs.declared.scoped.Ignored.{Ignored}

-- how many elements the array of this name in this object of a file has, which is 0 if there is no such array
abbrev pub elements_at : List ℕ → List ℕ → Data → ℕ
elements_at object array d = unwrap_or (option_map (λ ds. length (listed ds)) (option_and_then as_array (option_and_then (get array) (get object d)))) 0

pub record IsIgnored (d : Data) (i : Ignored) : Type 0 where
  pub bgpsec_filters : i.bgpsec_filters ≡ elements_at (codes "validationOutputFilters") (codes "bgpsecFilters") d
  pub bgpsec_assertions : i.bgpsec_assertions ≡ elements_at (codes "locallyAddedAssertions") (codes "bgpsecAssertions") d

-- The scope of a file has one AS, or none, for each of them.
abbrev pub ignored_of : Scoped → Ignored
ignored_of s = record { bgpsec_filters = length s.bgpsec_filters; bgpsec_assertions = length s.bgpsec_assertions }

-- So they are counted by the scope of a file.
abbrev pub ScopesCount : Type 0
ScopesCount = (bytes : List ℕ) (s : Scoped) → IsScopedFile bytes s → (d : Data) → IsJson bytes d → IsIgnored d (ignored_of s)
