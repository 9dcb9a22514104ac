use Rattle.std.proofs.Common.{sym, ◌∙◌}
use Rattle.event_log.proofs.LineLaws.{log_control, log_other}
use Rattle.event_log.proofs.line.write_log_char.Goals as goal

pub returns-then-is_control : goal.returns-then-is_control
returns-then-is_control g c = rw (log_control c.args.character (sym c.is_control.ensures ∙ c.if-is_control.true)) c.write_control.ensures

pub returns : goal.returns
returns g c = rw (log_other c.args.character (sym c.is_control.ensures ∙ c.if-is_control.false)) c.write.ensures.bytes
