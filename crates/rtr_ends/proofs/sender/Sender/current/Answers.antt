use Rattle.rtr_ends.proofs.Words.{option_map, ap, sym, NumberedSet}
use Rattle.rtr_ends.proofs.SenderLaws.{newest_none, newest_ready}
use Rattle.rtr_ends.proofs.sender.Sender.current.Goals as goal

pub returns-in-None : goal.returns-in-None
returns-in-None c = ap (option_map (λ (v : NumberedSet). v.serial)) (sym (newest_none c.args.self.now c.requires c.in-None.is))

pub returns-in-Some : goal.returns-in-Some
returns-in-Some c = ap (option_map (λ (v : NumberedSet). v.serial)) (sym (newest_ready c.args.self.now c.in-Some.share c.in-Some.is))
