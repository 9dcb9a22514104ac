use Rattle.std.proofs.Common.{arith, ap, not, ◌∙◌}
use Rattle.log_output.proofs.Torn.{torn_by}
use Rattle.log_output.proofs.buffer.LogBuffer.is_torn_after.Goals as goal

pub returns : goal.returns
returns c = ap not c.is_newline.ensures ∙ torn_by c.args.self.now.torn c.args.self.now.bytes c.args.count (omega (arith, c.if-count-eq0.false)) c.requires
