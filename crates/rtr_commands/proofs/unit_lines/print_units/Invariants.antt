use Rattle.std.proofs.Common.{length}
use Rattle.rtr_pdu.specs.Counted.{device_of}
use Rattle.rtr_commands.proofs.UnitLists.{Told}
use Rattle.rtr_commands.proofs.unit_lines.print_units.Given as goal

-- the PDUs so far are printed, and the split of what is left continues behind them
abbrev pub invariant-loop-unit : goal.invariant-loop-unit
invariant-loop-unit g l = Told l.bytes (device_of l.input).now (g.W.Write.contents l.initial.out) (g.W.Write.contents l.out)

abbrev pub decreases-loop-unit : goal.decreases-loop-unit
decreases-loop-unit g l = length (device_of l.input).now
