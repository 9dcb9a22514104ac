use Rattle.rtr_ends.specs.Sender.{ready_in}
use Rattle.rtr_ends.proofs.SenderLaws.{same_due, offers}
use Rattle.rtr_ends.proofs.sender.Sender.offer.Goals as goal

pub returns-clause-due : goal.returns-clause-due
returns-clause-due c = same_due c.args.self.now c.replace-older.new.self

pub returns-clause-newest : goal.returns-clause-newest
returns-clause-newest c = offers c.args.self.now c.replace-older.new.self c.args.share c.replace-older.ensures.after

pub returns-clause-room : goal.returns-clause-room
unfolding ready_in
returns-clause-room c = λ before. before
