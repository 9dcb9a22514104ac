use Rattle.std.proofs.Common.{take}
use Rattle.sources.specs.ByAnchor.{AreLeft}
use Rattle.sources.proofs.listed.left_of_anchors.Given as goal

-- the counts of the last seconds so far
abbrev pub invariant-loop-index : goal.invariant-loop-index
invariant-loop-index l = AreLeft l.now l.names (take l.index l.lasts) l.numbers l.counts.items
