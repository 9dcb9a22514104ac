-- What is shown of the entries of files that are not served.
use Rattle.std.specs.Prelude.{ℕ, slice_get}
use Rattle.exports.specs.declared.ignored.Ignored.{Ignored}
use Rattle.slurm.specs.declared.scoped.Ignored.{Ignored as IgnoredExceptions}
use Rattle.sources.specs.Served.{ignored_at}
use Rattle.sources.specs.declared.sources.Sources.{Sources}
use Rattle.status_pages.specs.declared.status.IgnoredEntries.{IgnoredEntries}
use Rattle.status_pages.specs.declared.status.IgnoredEntries.TheVariants as of

-- of an export: as many as its bytes have,
abbrev pub entries_of : Ignored → IgnoredEntries
entries_of i = of.Export i.aspas i.router_keys

-- of the export of a number,
abbrev pub entries_at : Sources → ℕ → IgnoredEntries
entries_at s number = entries_of (ignored_at (slice_get s.lists.items number))

-- and of a file of local exceptions
abbrev pub exceptions_of : IgnoredExceptions → IgnoredEntries
exceptions_of i = of.Slurm i.bgpsec_filters i.bgpsec_assertions
