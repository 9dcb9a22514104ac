use Rattle.rtr_ends.proofs.HistoryLaws.{history_splits}
use Rattle.rtr_ends.proofs.laws.history_splits.Goals as goal

pub returns : goal.returns
returns c = history_splits
