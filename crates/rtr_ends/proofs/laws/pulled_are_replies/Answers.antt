use Rattle.rtr_ends.proofs.HistoryLaws.{pulled_are_replies}
use Rattle.rtr_ends.proofs.laws.pulled_are_replies.Goals as goal

pub returns : goal.returns
returns c = pulled_are_replies
