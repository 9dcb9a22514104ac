use Rattle.rtr_ends.proofs.SenderLaws.{steps}
use Rattle.rtr_ends.proofs.sender.Sender.answer_step.Goals as goal

pub returns : goal.returns
returns c = λ v is. steps c.args.self.now c.begin.new.self c.args.serial c.args.change v c.requires.due c.requires.serial is c.begin.ensures
