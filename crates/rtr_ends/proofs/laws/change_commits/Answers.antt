use Rattle.rtr_ends.proofs.CommitLaws.{change_commits}
use Rattle.rtr_ends.proofs.laws.change_commits.Goals as goal

pub returns : goal.returns
returns c = change_commits
