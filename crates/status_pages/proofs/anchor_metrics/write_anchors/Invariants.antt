use Rattle.std.proofs.Common.{flat_map, take}
use Rattle.std.specs.Io.KnownBytes.{Appends}
use Rattle.status_pages.specs.Anchors.{anchor_series}
use Rattle.status_pages.proofs.anchor_metrics.write_anchors.Given as goal

-- the trust anchors before this one are written
abbrev pub invariant-loop-anchor : goal.invariant-loop-anchor
invariant-loop-anchor g l = Appends (g.W.Write.contents l.initial.out) (g.W.Write.contents l.out) (flat_map (anchor_series l.path) (take l.anchor-index l.anchors))
