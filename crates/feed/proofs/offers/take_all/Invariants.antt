use Rattle.std.proofs.Common.{take}
use Rattle.points.specs.InUse.{no_points}
use Rattle.feed.specs.Feed.{AreTaken}
use Rattle.feed.proofs.offers.take_all.Given as goal

-- the offers so far were accepted
abbrev pub invariant-loop-i : goal.invariant-loop-i
invariant-loop-i l = AreTaken l.now no_points (take l.i l.offers) l.repository
