use Rattle.std.proofs.Common.{◌≡◌, ◌++◌, drop}
use Rattle.tcp_table.specs.Tables.{after_line, unanswered}
use Rattle.tcp_table.proofs.lines.unanswered.Given as goal

-- what was found, and what the line so far and the bytes that are left show
abbrev pub invariant-loop-byte : goal.invariant-loop-byte
invariant-loop-byte l = unanswered l.table ≡ l.found.items ++ after_line l.line.items (drop l.byte-index l.table)
