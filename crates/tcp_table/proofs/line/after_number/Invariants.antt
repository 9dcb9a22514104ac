use Rattle.std.proofs.Common.{◌≡◌, length}
use Rattle.tcp_table.specs.Columns.{after_number}
use Rattle.tcp_table.proofs.line.after_number.Given as goal

-- what is left has the same colon first
abbrev pub invariant-loop-first : goal.invariant-loop-first
invariant-loop-first l = after_number l.line ≡ after_number l.rest

abbrev pub decreases-loop-first : goal.decreases-loop-first
decreases-loop-first l = length l.rest
