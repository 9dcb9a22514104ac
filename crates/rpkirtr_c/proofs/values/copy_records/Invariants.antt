use Rattle.std.proofs.Common.{◌≡◌, ◌++◌, map, take, drop}
use Rattle.rpkirtr_c.specs.Spelled.{record_of}
use Rattle.rpkirtr_c.proofs.values.copy_records.Given as goal

-- the records below i are copied, and the rest of the room stays
abbrev pub invariant-loop-i : goal.invariant-loop-i
invariant-loop-i l = l.room ≡ map record_of (take l.i l.list) ++ drop l.i l.fn.room
