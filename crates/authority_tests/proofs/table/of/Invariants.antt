use Rattle.std.proofs.Common.{◌↔◌, take}
use Rattle.std.specs.List.{Contains}
use Rattle.authority_tests.proofs.table.of.Given as goal

-- those of the pairs so far
abbrev pub invariant-loop-pair : goal.invariant-loop-pair
invariant-loop-pair g l = (x : g.row.T.Denot) → Contains l.found.items x ↔ Contains (take l.pair-index l.pairs) (l.number, x)
