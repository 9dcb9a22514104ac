use Rattle.std.proofs.Common.{ℕ, ◌<◌, slice_index_or}
use Rattle.payloads.specs.declared.roa_entry.RoaEntry.{RoaEntry}
use Rattle.payloads.specs.RoaEntries.{HasPrefix}
use Rattle.payloads.proofs.roa_writing.know_prefixes.Given as goal

-- the prefixes so far are prefixes
abbrev pub invariant-loop-entry : goal.invariant-loop-entry
invariant-loop-entry l = (k : ℕ) (d : RoaEntry) → k < l.entry-index → HasPrefix (slice_index_or l.entries k d)
