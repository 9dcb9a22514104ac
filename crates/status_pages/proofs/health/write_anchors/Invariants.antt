use Rattle.std.proofs.Common.{take}
use Rattle.status_pages.specs.Health.{AppendsSome, AreAnchorTexts}
use Rattle.status_pages.proofs.health.write_anchors.Given as goal

-- the trust anchors before this one
abbrev pub invariant-loop-anchor : goal.invariant-loop-anchor
invariant-loop-anchor g l = AppendsSome (g.W.Write.contents l.initial.out) (g.W.Write.contents l.out) (AreAnchorTexts l.path (take l.anchor-index l.anchors))
