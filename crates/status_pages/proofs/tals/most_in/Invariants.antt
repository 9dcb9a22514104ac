use Rattle.std.proofs.Common.{◌≡◌, take}
use Rattle.status_pages.specs.ApiStatus.{most_in}
use Rattle.status_pages.proofs.tals.most_in.Given as goal

-- the trust anchors before this one
abbrev pub invariant-loop-anchor : goal.invariant-loop-anchor
invariant-loop-anchor l = l.found ≡ most_in l.name l.most (take l.anchor-index l.anchors)
