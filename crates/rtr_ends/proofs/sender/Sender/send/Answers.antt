use Rattle.std.proofs.Common.{◌++◌, refl}
use Rattle.rtr_ends.specs.Answer.{sent_all}
use Rattle.rtr_ends.specs.Sender.{due_of, left, newest_of}
use Rattle.rtr_ends.proofs.SenderLaws.{none_due, unit_ready}
use Rattle.rtr_ends.proofs.sender.Sender.send.Goals as goal

pub returns : goal.returns
unfolding due_of left newest_of
returns c = record {
  due = λ i. c.encode_as.ensures.bytes i ++ sent_all c.args.self.now.version (none_due c.args.self.now c.requires.due i);
  stays = record { version = refl; sessions = refl; timing = refl; newest = refl; room = λ before. unit_ready c.args.self.now.version _ c.args.unit.now (c.encode_as.ensures.unit, c.requires.fits) refl c.encode_as.ensures.bytes };
}
