use Rattle.std.proofs.Common.{take}
use Rattle.json_texts.proofs.Steps.{passes_feed, passes_another}
use Rattle.json_texts.proofs.position.Position.at.Goals as goal
use Rattle.json_texts.proofs.position.Position.at.Goals.{then-byte-eq10, else-byte-eq10}

pub loop-byte-preserved : goal.loop-byte-preserved
loop-byte-preserved c = elim c.if-byte-eq10.branch [
  | then-byte-eq10 w ↦ passes_feed (take c.min.result c.args.text.now) c.loop-byte.byte-index c.loop-byte.line c.loop-byte.column c.if-byte-eq10.line c.if-byte-eq10.column c.loop-byte-test.true w.if-byte-eq10.true w.line-is w.column-is c.loop-byte.invariant
  | else-byte-eq10 w ↦ passes_another (take c.min.result c.args.text.now) c.loop-byte.byte-index c.loop-byte.line c.loop-byte.column c.if-byte-eq10.line c.if-byte-eq10.column c.loop-byte-test.true w.if-byte-eq10.false w.line-is w.column-is c.loop-byte.invariant
]
