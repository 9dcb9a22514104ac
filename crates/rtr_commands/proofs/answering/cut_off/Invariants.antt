use Rattle.std.proofs.Common.{◌≡◌, false, length}
use Rattle.std.specs.Prelude.{Some}
use Rattle.rtr_pdu.specs.Version.{first_version}
use Rattle.rtr_pdu.specs.Reader.{fresh}
use Rattle.rtr_commands.proofs.SplitLines.{Any, Read}
use Rattle.rtr_commands.proofs.answering.cut_off.Given as goal

-- PDUs so far, and the reader holds nothing
abbrev pub invariant-loop-reader : goal.invariant-loop-reader
invariant-loop-reader l = (l.reader ≡ fresh (Some (first_version l.bytes)) false) × Read (first_version l.bytes) Any l.bytes l.rest

abbrev pub decreases-loop-reader : goal.decreases-loop-reader
decreases-loop-reader l = length l.rest
