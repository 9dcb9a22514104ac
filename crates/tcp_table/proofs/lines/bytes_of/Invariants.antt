use Rattle.std.proofs.Common.{◌≡◌, drop}
use Rattle.tcp_table.specs.Tables.{bytes_of}
use Rattle.tcp_table.proofs.lines.bytes_of.Given as goal

-- the lines that are left show the same
abbrev pub invariant-loop-line : goal.invariant-loop-line
invariant-loop-line l = bytes_of l.local l.remote l.lines ≡ bytes_of l.local l.remote (drop l.line-index l.lines)
