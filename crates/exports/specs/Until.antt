-- Until when an export stays what it is.
use Rattle.std.specs.Prelude.{◌≡◌, ℕ, ◌<◌, ◌≤◌, List, [], filter, filter_map, All, Contains, Option, Some, None, ⊤}
use Rattle.exports.specs.Entry.{counts_at}
use Rattle.exports.specs.Export.{IsExport}
use Rattle.exports.specs.declared.entry.ExportEntry.{ExportEntry}
use Rattle.exports.specs.declared.export.TimedExport.{TimedExport}

-- The seconds `expires` of the entries that count at a moment: from its own on an entry does not count.
abbrev pub endings : ℕ → List ExportEntry → List ℕ
endings now es = filter_map (λ e. e.expires) (filter (counts_at now) es)

-- The first of some seconds, if there is one
abbrev pub IsFirst : List ℕ → Option ℕ → Type 0
IsFirst ts None = ts ≡ []
IsFirst ts (Some t) = Contains ts t × All (λ s. t ≤ s) ts

-- A second is before an end. If there is none, each is.
abbrev pub IsBefore : ℕ → Option ℕ → Type 0
IsBefore t None = ⊤
IsBefore t (Some end) = t < end

-- These bytes are an export, and the first of its entries that count ends then.
pub record IsExportUntil (bytes : List ℕ) (now : ℕ) (x : TimedExport) : Type 0 where
  pub export : IsExport bytes now x.export
  pub until : IsFirst (endings now export.entries) x.until
