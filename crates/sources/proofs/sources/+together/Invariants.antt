use Rattle.std.proofs.Common.{length}
use Rattle.sources.proofs.sources.+together.Given as goal

abbrev pub decreases-together : goal.decreases-together
decreases-together l = length l.lists.now
