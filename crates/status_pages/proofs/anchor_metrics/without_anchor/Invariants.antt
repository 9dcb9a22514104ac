use Rattle.std.proofs.Common.{◌≡◌, take}
use Rattle.status_pages.specs.Anchors.{without_anchor}
use Rattle.status_pages.proofs.anchor_metrics.without_anchor.Given as goal

-- without those of the trust anchors before this one
abbrev pub invariant-loop-anchor : goal.invariant-loop-anchor
invariant-loop-anchor l = l.rest ≡ without_anchor l.vrps (take l.anchor-index l.anchors)
