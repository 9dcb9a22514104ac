use Rattle.std.proofs.Common.{length}
use Rattle.payload_lists.proofs.PlainLoop.{Begun}
use Rattle.payload_lists.proofs.plain.plain_records.Given as goal

abbrev pub invariant-loop-reader : goal.invariant-loop-reader
invariant-loop-reader l = Begun l.initial.reader l.reader l.records.items

abbrev pub decreases-loop-reader : goal.decreases-loop-reader
decreases-loop-reader l = length l.reader
