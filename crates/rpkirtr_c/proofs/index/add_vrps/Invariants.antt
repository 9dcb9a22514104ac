use Rattle.std.proofs.Common.{List, take, ◌++◌}
use Rattle.rpkirtr_c.specs.Indexes.{AreRecords, HavePayloads}
use Rattle.rpkirtr_c.specs.declared.values.CRecord.{CRecord}
use Rattle.rpkirtr_c.proofs.index.add_vrps.Given as goal

-- the records below i have payloads, which are added
abbrev pub invariant-loop-i : goal.invariant-loop-i
invariant-loop-i l = HavePayloads (take l.i l.records) × ((before : List CRecord) → AreRecords l.fn.list.items before → AreRecords l.list.items (before ++ take l.i l.records))
