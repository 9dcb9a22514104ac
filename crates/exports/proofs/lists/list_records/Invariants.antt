use Rattle.std.proofs.Common.{length}
use Rattle.serde_json.specs.Data.{no_items}
use Rattle.exports.specs.ListForm.{Records}
use Rattle.exports.specs.PlainForm.{before}
use Rattle.exports.proofs.PlainSteps.{BegunItems}
use Rattle.exports.proofs.lists.list_records.Given as goal

-- the payloads of the items so far
abbrev pub invariant-loop-reader : goal.invariant-loop-reader
invariant-loop-reader l = BegunItems 126 (λ f ds. Records (before ds no_items) l.records) l.initial.reader l.reader

abbrev pub decreases-loop-reader : goal.decreases-loop-reader
decreases-loop-reader l = length l.reader
