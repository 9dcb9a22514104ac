use Rattle.rtr_pdu.proofs.WritingLaws.{puts_four}
use Rattle.rtr_pdu.proofs.writing.put_four.Goals as goal

pub returns-clause-puts : goal.returns-clause-puts
returns-clause-puts c = puts_four c.args.at c.args.a c.args.b c.args.c c.args.d c.args.out.now
