use Rattle.std.proofs.Common.{inr, Some, refl, sym, ◌∙◌}
use Rattle.log_output.proofs.output.Log.report_drops.Goals as goal

pub returns : goal.returns
returns c =
    rw (← c.self.view_is)
    (inr (sym c.is_report_due.ensures ∙ c.if-not-is_report_due.false, (Some c.format_line.new.line.items, rw c.dropped-lines.ensures at (c.format_line.ensures c.if-not-format_line.false), rw (c.add_report.ensures.line, c.as_slice.ensures.value) refl)))
