use Rattle.std.proofs.Common.{arith}
use Rattle.rtr_pdu.proofs.DeviceLaws.{body_wants}
use Rattle.rtr_pdu.proofs.device.missing.Goals as goal

pub overflow_sub-result-else-held-lt8 : goal.overflow_sub-result-else-held-lt8
overflow_sub-result-else-held-lt8 c = let more = body_wants c.args.version c.args.held.now c.requires (omega (arith, c.if-held-lt8.false)) in omega (arith, more.0, c.number_32.ensures)

pub returns-else-held-lt8-clause-some : goal.returns-else-held-lt8-clause-some
returns-else-held-lt8-clause-some c = let more = body_wants c.args.version c.args.held.now c.requires (omega (arith, c.if-held-lt8.false)) in omega (arith, more.0, c.number_32.ensures)

pub returns-else-held-lt8-clause-most : goal.returns-else-held-lt8-clause-most
returns-else-held-lt8-clause-most c = let more = body_wants c.args.version c.args.held.now c.requires (omega (arith, c.if-held-lt8.false)) in omega (arith, more.1, c.number_32.ensures)
