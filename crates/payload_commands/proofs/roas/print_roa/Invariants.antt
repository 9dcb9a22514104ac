use Rattle.std.proofs.Common.{take}
use Rattle.std.specs.List.{flat_map}
use Rattle.std.specs.Io.KnownBytes.{Appends}
use Rattle.payload_commands.specs.RoaLines.{entry_line}
use Rattle.payload_commands.proofs.roas.print_roa.Given as goal

-- the entries so far are printed
abbrev pub invariant-loop-entry : goal.invariant-loop-entry
invariant-loop-entry g l = Appends (g.W.Write.contents l.initial.out) (g.W.Write.contents l.out) (flat_map (entry_line l.asn.0) (take l.entry-index l.roa.entries))
