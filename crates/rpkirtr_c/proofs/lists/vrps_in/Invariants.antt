use Rattle.std.proofs.Common.{take}
use Rattle.rpkirtr_c.specs.Indexes.{AreRecords, records_in}
use Rattle.rpkirtr_c.proofs.lists.vrps_in.Given as goal

-- the payloads of the lists before this one
abbrev pub invariant-loop-at : goal.invariant-loop-at
invariant-loop-at l = AreRecords l.list.items (records_in (take l.at l.lists))
