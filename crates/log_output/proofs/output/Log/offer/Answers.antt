use Rattle.std.proofs.Common.{Some, refl}
use Rattle.log_output.proofs.output.Log.offer.Goals as goal

pub returns-then-format_line : goal.returns-then-format_line
returns-then-format_line c =
    rw (← c.self.view_is)
    (Some c.format_line.new.line.items, c.format_line.ensures c.if-format_line.true, rw (c.add_line.ensures.line, c.as_slice.ensures.value) refl)
