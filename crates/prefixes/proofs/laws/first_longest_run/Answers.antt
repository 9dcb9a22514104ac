use Rattle.prefixes.proofs.LongestRun.{first_longest_run}
use Rattle.prefixes.proofs.laws.first_longest_run.Goals as goal

pub returns : goal.returns
returns c = first_longest_run
