use Rattle.std.proofs.Common.{sym, ◌∙◌}
use Rattle.rpkiobject.proofs.NameLaws.{visible_control, visible_other}
use Rattle.rpkiobject.proofs.names.write_visible.Goals as goal

pub returns-then-is_control : goal.returns-then-is_control
returns-then-is_control g c = rw (visible_control c.args.character (sym c.is_control.ensures ∙ c.if-is_control.true)) c.write_control.ensures

pub returns : goal.returns
returns g c = rw (visible_other c.args.character (sym c.is_control.ensures ∙ c.if-is_control.false)) c.write.ensures.bytes
