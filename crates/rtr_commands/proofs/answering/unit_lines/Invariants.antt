use Rattle.std.proofs.Common.{◌≡◌, false, length, string_bytes}
use Rattle.std.specs.Prelude.{Some}
use Rattle.rtr_pdu.specs.Reader.{fresh}
use Rattle.rtr_commands.proofs.SplitLines.{Lined, Read}
use Rattle.rtr_commands.proofs.answering.unit_lines.Given as goal

-- the PDUs so far have their lines, and the reader holds nothing
abbrev pub invariant-loop-found : goal.invariant-loop-found
invariant-loop-found l = (l.reader ≡ fresh (Some l.version) false) × Read l.version (Lined l.version (string_bytes l.lines)) l.bytes l.rest

abbrev pub decreases-loop-found : goal.decreases-loop-found
decreases-loop-found l = length l.rest
