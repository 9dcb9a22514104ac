use Rattle.rtr_ends.proofs.SenderLaws.{speaks}
use Rattle.rtr_ends.proofs.sender.Sender.speak.Goals as goal

pub returns : goal.returns
returns c = speaks c.args.self.now c.args.version c.requires
